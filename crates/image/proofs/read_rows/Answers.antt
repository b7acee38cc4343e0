use Prim.Native.Nat.{◌+◌, ◌-◌, ◌<◌}
use mathlib.Core.Path.{◌≡◌}
use native.Mathlib.Omega.{arith}
use borrow.Author.Rules.{rules}
use Rattle.store.specs.Sets.{PutAt, in_place}
use Rattle.store.specs.Store.{seat_of}
use Rattle.store.proofs.Laws.{sets_more}
use Rattle.store.proofs.Boards.{seats_more}
use Rattle.image.specs.Image.{image_section}
use Rattle.image.proofs.Stored.{row_in}
use Rattle.image.proofs.read_rows.Goals as goal

pub loop-i-preserved : goal.loop-i-preserved
loop-i-preserved c =
    let l = c.loop-i in
    let s = c.args.s.now in
    let b = image_section.read s in
    let h : l.i < 32 = search rules in
    let z : l.i + 1 - 1 ≡ l.i = omega arith in
    let row = c.row-row.ensures.value in
    let inquiry = c.inquiry-inquiry.ensures.value in
    let put : PutAt (in_place b l.i) l.i l.sets c.read_sets.new.sets
    = rw (row_in s l.i h) (rw (z, row, inquiry) at c.read_sets.ensures) in
    let e : c.read_seat.result ≡ seat_of (in_place b l.i)
    = rw (row_in s l.i h) (rw (row, inquiry) at c.read_seat.ensures) in
    record {
      len = search rules;
      sets_to = sets_more b l.i l.sets c.read_sets.new.sets h put l.invariant.sets_to;
      seats_to = rw e (seats_more b l.i l.seat-items (omega (arith, l.invariant.len)) l.invariant.seats_to);
    }
