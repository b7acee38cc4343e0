use Rattle.std.proofs.Common.{rules}
use Rattle.store.proofs.Changing.{put-board}
use Rattle.store.proofs.sets.put.Goals as goal

pub returns-clause-result_after : goal.returns-clause-result_after
returns-clause-result_after c = rw (c.put_seat.ensures, c.seat_of.ensures)
    (put-board c.args.q c.args.p c.args.sets.now _ c.args.rest c.requires.0 c.requires.1 (rw c.from.ensures at c.put_sets.ensures) (search rules))
