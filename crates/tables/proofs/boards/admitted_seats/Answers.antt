-- `admitted_seats` meets its contract. Assumes nothing.
use Rattle.std.proofs.Common.{rules}
use Rattle.tables.specs.Boards.{admitted_seats, seat_admits}
use Rattle.tables.proofs.Walk.{all-passing}
use Rattle.tables.proofs.boards.admitted_seats.Goals as goal

pub returns : goal.returns
unfolding admitted_seats
returns c = all-passing c.those.result (seat_admits c.args.rest) (search rules) (λ x h k. search (rules, c.those.ensures x h k))
