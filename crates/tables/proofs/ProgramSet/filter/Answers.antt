-- `filter` meets its contract. Assumes nothing.
use Rattle.tables.proofs.Walk.{passed-more}
use Rattle.tables.proofs.ProgramSet.filter.Goals as goal

pub loop-p-preserved : goal.loop-p-preserved
loop-p-preserved g c =
    passed-more c.args.self (λ x y. goal.F-post g c.args.test x y) c.loop-p.p-iterator.left _ c.loop-p.passed _ c.in-Some.p _ c.loop-p.invariant c.in-Some.ensures.steps c.test.ensures c.join-passed.ensures
