use Rattle.std.proofs.Common.{◌≡◌, length, rules}
use Rattle.rules.specs.Orders.{carried}
use Rattle.store.specs.Store.{board_of}
use Rattle.reply.proofs.Laws.{order_array, order_placed, placed_short}
use Rattle.reply.proofs.complete.Goals as goal

pub placed-requires : goal.placed-requires
placed-requires c = let a = c.args in let n : length c.order_after-order.result.at ≡ 32 = search rules in
    placed_short (carried (board_of a.sets.now a.c.progress.rest)) c.order_after-order.result c.order_after-order.ensures n

pub returns : goal.returns
returns c = let a = c.args in let o = carried (board_of a.sets.now a.c.progress.rest) in
    rw (
      c.board.ensures,
      c.lines_of.ensures,
      c.placed.ensures,
      order_placed o c.order_after-order.result c.order_after-order.ensures,
      order_array o c.order_after-order.result c.order_after-order.ensures,
    )
