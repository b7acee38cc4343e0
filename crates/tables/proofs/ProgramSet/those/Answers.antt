-- `those` meets its contract. Assumes nothing.
use Rattle.std.proofs.Common.{arith}
use Rattle.tables.proofs.Walk.{tried-more}
use Rattle.tables.proofs.ProgramSet.those.Goals as goal

pub loop-p-preserved : goal.loop-p-preserved
loop-p-preserved g c =
    tried-more (λ x y. goal.F-post g c.args.test x y) c.loop-p.p c.loop-p.passed _ _ c.loop-p.invariant (omega arith) (omega arith) c.test.ensures c.join-passed.ensures
