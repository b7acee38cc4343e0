-- The word, the programs and byte 10 are the ORDER line of the carried order.
use Rattle.std.proofs.Common.{ap, ◌∙◌, arith}
use Rattle.search.specs.declared.Order.{Order}
use Rattle.board.specs.Input.{order_line, order_of}
use Rattle.board.proofs.Laws.{order_is}
use Rattle.board.proofs.order_line.Goals as goal

pub returns-clause-out_after : goal.returns-clause-out_after
unfolding order_of
returns-clause-out_after c =
    let w = c.copy in
    let o = c.carried_in-order in
    let k = c.put_programs-n in
    order_is o.result.at c.args.out.now w.new.dst k.new.out k.result w.ensures.1 k.ensures.out_after
    (omega (arith, k.ensures.upper_bound, k.auto.out, w.auto.dst, c.requires))
    ∙ ap (λ (x : Order). order_line x.at) o.ensures
