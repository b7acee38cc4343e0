use Rattle.std.proofs.Common.{rules, refl}
use Rattle.store.proofs.Boards.{board_is}
use Rattle.store.proofs.sets.take.Goals as goal

pub returns : goal.returns
returns c = (
  c.take_sets.ensures,
  board_is c.args.b c.take_sets.new.sets _ c.take_sets.ensures (record {
    seats_are = c.seats_of-seats.ensures;
    waiting_is = refl;
    entry-is = refl;
    favoured_is = refl;
    initial_is = refl;
    leaves_are = refl;
    passed_are = refl;
  }) (search rules),
)
