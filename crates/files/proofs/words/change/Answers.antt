-- `change` meets its contract. Assumes nothing.
use Rattle.std.proofs.Common.{ap, ◌∙◌}
use lib.ListN.{set}
use Rattle.files.proofs.Rows.{join_next}
use Rattle.files.proofs.words.change.Goals as goal

pub loop-k-preserved : goal.loop-k-preserved
loop-k-preserved f c = λ g e. let l = c.loop-k in ap (set l.s l.k) (e _ _ c.op.result c.op.ensures)
    ∙ join_next g c.args.s.now c.args.t.now l.s l.k c.requires.0 c.loop-k-test.true (l.invariant g e)
