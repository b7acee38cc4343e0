-- What `those` has put to the test so far. Assumes nothing.
use Rattle.tables.proofs.Walk.{TriedTo}
use Rattle.tables.proofs.ProgramSet.those.Given as goal

abbrev pub invariant-loop-p : goal.invariant-loop-p
invariant-loop-p g l = TriedTo (λ x y. goal.F-post g l.test x y) l.p l.passed
