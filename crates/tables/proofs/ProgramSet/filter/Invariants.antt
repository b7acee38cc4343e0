-- What `filter` has put to the test so far. Assumes nothing.
use Rattle.tables.proofs.Walk.{PassedTo}
use Rattle.tables.proofs.ProgramSet.filter.Given as goal

abbrev pub invariant-loop-p : goal.invariant-loop-p
invariant-loop-p g l = PassedTo l.fn.self (λ x y. goal.F-post g l.test x y) l.p-iterator.left l.passed
