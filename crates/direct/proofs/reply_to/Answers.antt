use Rattle.std.proofs.Common.{refl, sym, ap, ◌∙◌}
use borrow.Author.Tests.{not-true, not-false}
use Rattle.rules.specs.declared.Board.{Board}
use Rattle.rules.specs.declared.Reply.{Reply}
use Rattle.rules.specs.Orders.{carried}
use Rattle.rules.specs.Replies.{refused}
use Rattle.rules.specs.Soundness.{sound}
use Rattle.rules.specs.Calls.{direct, call_of, apply}
use Rattle.store.specs.Store.{board_of}
use Rattle.search.specs.Rows.{as_order}
use Rattle.apply.proofs.Laws.{apply-same}
use Rattle.direct.proofs.reply_to.Goals as goal

pub returns-then-not-j : goal.returns-then-not-j
unfolding direct
returns-then-not-j c = rw (sym (c.judge-j.ensures.0 ∙ ap sound c.take-rest.ensures.1) ∙ not-true c.judge-j.result.sound c.if-not-j.true) c.refused_unsound.ensures

pub call-changed-requires : goal.call-changed-requires
call-changed-requires c = (sym c.judge-j.ensures.0 ∙ not-false c.judge-j.result.sound c.if-not-j.false, refl)

pub complete-requires : goal.complete-requires
complete-requires c = let b = board_of c.take-rest.new.sets c.take-rest.result in let e = c.call-changed.ensures in (
  λ h. let n = sym (ap (λ (x : Reply). refused x.answer) e.comes_to) ∙ h in
      c.judge-j.ensures.1 ∙ sym (ap (λ (x : Board). as_order (carried x)) (ap (λ (x : Reply). x.board) e.comes_to
      ∙ apply-same b (call_of c.args.a) n)),
  e.in_form.2,
)

pub returns : goal.returns
unfolding direct
returns c =
    rw (sym (c.judge-j.ensures.0 ∙ ap sound c.take-rest.ensures.1) ∙ not-false c.judge-j.result.sound c.if-not-j.false)
    (c.complete.ensures ∙ c.call-changed.ensures.comes_to ∙ ap (λ (x : Board). apply x (call_of c.args.a)) c.take-rest.ensures.1)
