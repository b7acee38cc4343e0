use Rattle.std.proofs.Common.{◌≡◌, ◌-◌, suc, length, arith, sym, ap}
use lib.ListN.{set, length-set}
use Rattle.columns.specs.Columns.{leading}
use Rattle.columns.proofs.Laws.{leading_turn}
use Rattle.columns.proofs.put_leading.Goals as goal

pub loop-i-preserved : goal.loop-i-preserved
loop-i-preserved c =
    let l = c.loop-i in
    let e : suc (l.i - 1) ≡ l.i = omega arith in
    let k = length-set l.part (l.i - 1) c.leading_byte.result in
    rw k (leading_turn (length l.part) c.args.n l.rest (l.i - 1) l.part _ (omega arith) (rw e l.invariant)
    (ap (set l.part (l.i - 1)) c.leading_byte.ensures))

pub returns : goal.returns
unfolding leading
returns c =
    let l = c.loop-i in
    let e : l.i ≡ 0 = omega arith in
    let k : length l.part ≡ length c.args.part.now = omega arith in
    sym (rw (e, k) at l.invariant)
