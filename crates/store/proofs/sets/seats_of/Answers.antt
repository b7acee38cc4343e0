use Rattle.std.proofs.Common.{arith, rules}
use Rattle.store.proofs.Boards.{seats_more}
use Rattle.store.proofs.sets.seats_of.Goals as goal

pub loop-i-preserved : goal.loop-i-preserved
loop-i-preserved c = record {
  sized = search rules;
  seats = rw c.seat_of.ensures (seats_more c.args.b c.loop-i.i c.loop-i.seats (omega (arith, c.loop-i.invariant.sized)) c.loop-i.invariant.seats);
}
