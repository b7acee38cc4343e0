-- `carried_in` meets its contract. Assumes nothing.
use Rattle.std.proofs.Common.{◌∙◌}
use Rattle.store.specs.Store.{board_of}
use Rattle.store.proofs.Boards.{board-sets}
use Rattle.tables.proofs.Given.{seats_admitted}
use Rattle.search.proofs.Ordered.{order_of_lem}
use Rattle.search.proofs.carried_in.Goals as goal

pub returns : goal.returns
returns c = let x = c.args.sets.now in let r = c.args.rest in
    c.order_in.ensures
    ∙ order_of_lem (board_of x r) _ _ _ (board-sets x r c.sized.ensures) c.fill_rows.ensures (c.admitted_seats-left.ensures ∙ seats_admitted x r)
