use mathlib.Core.Path.{◌≡◌, refl, ◌∙◌}
use native.Mathlib.Omega.{arith}
use lib.ListN.{length}
use lib.Seq.{take_all}
use borrow.Author.Rules.{rules}
use Rattle.columns.specs.Rows.{flat}
use Rattle.image.specs.Image.{bytes_n}
use Rattle.image.proofs.Laws.{put-row, four_written}
use Rattle.host.proofs.Digraph.{row-length}
use Rattle.host.proofs.digraphs.put_rows.Goals as goal

pub loop-i-init : goal.loop-i-init
unfolding flat
loop-i-init c = refl

pub loop-i-preserved : goal.loop-i-preserved
loop-i-preserved c =
    let n : length c.args.rows ≡ 32 = search rules in
    put-row (bytes_n 4) 4 row-length c.args.out.now c.loop-i.out c.put_at.new.out c.to_le_bytes.result c.args.rows 0 c.loop-i.i
    (omega (arith, n)) c.loop-i.invariant (four_written _ c.to_le_bytes.ensures) c.put_at.ensures

pub returns : goal.returns
returns c =
    let n : length c.args.rows ≡ 32 = search rules in
    let e : c.loop-i.i ≡ 32 = omega arith in
    (rw e at c.loop-i.invariant) ∙ rw (take_all 32 c.args.rows (omega (arith, n)))
