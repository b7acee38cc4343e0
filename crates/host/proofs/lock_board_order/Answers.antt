use mathlib.Core.Path.{◌≡◌, refl, ap, sym, ◌∙◌}
use lib.ListN.{length}
use borrow.Author.Rules.{rules}
use Rattle.laws.specs.Tests.{never}
use Rattle.laws.specs.Lists.{found}
use Rattle.rules.specs.Orders.{carried}
use Rattle.store.specs.Store.{board_of}
use Rattle.reply.proofs.Laws.{order_short}
use Rattle.search.proofs.Ordered.{order-none}
use borrow.Author.Tests.{not-true, not-false}
use Rattle.host.proofs.Laws
use Rattle.host.proofs.lock_board_order.Goals as goal

pub returns-in_default : goal.returns-in_default
returns-in_default c =
    let e = Laws.order-refused c.args.image.now c.args.order.now (Laws.image_layout c.args.image.now c.in_default.ensures.result_after) in
    record { value = c.refusal_answer.ensures ∙ sym e.0; order_after = sym e.1 }

pub returns-then-not-j : goal.returns-then-not-j
returns-then-not-j c =
    let b = board_of c.load_in.new.sets c.in-Some.rest in
    let e = Laws.order-refused c.args.image.now c.args.order.now
    (Laws.image_unsound c.args.image.now b c.in-Some.ensures.result_after (sym c.judge-j.ensures.0 ∙ not-true c.judge-j.result.sound c.if-not-j.true)) in
    record { value = c.refusal_answer-then-not-j.ensures ∙ sym e.0; order_after = sym e.1 }

pub returns-in_default-kind : goal.returns-in_default-kind
returns-in_default-kind c =
    let b = board_of c.load_in.new.sets c.in-Some.rest in
    never (Laws.sound-ordered b (sym c.judge-j.ensures.0 ∙ not-false c.judge-j.result.sound c.if-not-j.false))
    (ap found (order-none (carried b) c.judge-j.result.order c.judge-j.ensures.1 c.in_default-kind.is))

pub put_order-requires : goal.put_order-requires
put_order-requires c =
    let b = board_of c.load_in.new.sets c.in-Some.rest in
    let m : length c.judge-j.result.order.at ≡ 32 = search rules in
    order_short (carried b) c.judge-j.result.order c.in-Found.n c.judge-j.ensures.1 c.in-Found.is m

pub returns : goal.returns
returns c =
    let b = board_of c.load_in.new.sets c.in-Some.rest in
    let j = c.judge-j in
    let e = Laws.order-read c.args.image.now c.args.order.now j.result.order.at c.in-Found.n j.result.order b c.in-Some.ensures.result_after
    (sym j.ensures.0 ∙ not-false c.judge-j.result.sound c.if-not-j.false) j.ensures.1 c.in-Found.is refl in
    record { value = c.put_order.ensures.value ∙ sym e.0; order_after = c.put_order.ensures.buffer_after ∙ sym e.1 }
