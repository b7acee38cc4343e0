use Rattle.std.proofs.Common.{sym, ap, ◌∙◌}
use borrow.Author.Tests.{not-true}
use Rattle.rules.specs.declared.Board.{Board}
use Rattle.rules.specs.declared.Reply.{Reply}
use Rattle.rules.specs.Orders.{carried}
use Rattle.rules.specs.Replies.{refused}
use Rattle.rules.specs.Soundness.{sound}
use Rattle.store.specs.Store.{board_of}
use Rattle.search.specs.Rows.{as_order}
use Rattle.request.specs.Requests.{request_of, request_call}
use Rattle.linecall.specs.LineCall.{line_call}
use Rattle.linecall.proofs.Carries.{line_carries, unsound_carries}
use Rattle.linecall.proofs.Laws.{call_unsound, refused-same}
use Rattle.linecall.proofs.line_call.Goals as goal

-- a board that is not sound

pub returns-then-not-j-clause-reply_value : goal.returns-then-not-j-clause-reply_value
returns-then-not-j-clause-reply_value c =
    let a = c.args in
    let s = sym (c.judge-j.ensures.0 ∙ ap sound c.take-rest.ensures.1) ∙ not-true c.judge-j.result.sound c.if-not-j.true in
    rw (call_unsound a.b a.line.now a.journal.now a.place s) c.refused_unsound-reply.ensures

pub returns-then-not-j-clause-place_value : goal.returns-then-not-j-clause-place_value
returns-then-not-j-clause-place_value c =
    let a = c.args in
    let s = sym (c.judge-j.ensures.0 ∙ ap sound c.take-rest.ensures.1) ∙ not-true c.judge-j.result.sound c.if-not-j.true in
    rw (call_unsound a.b a.line.now a.journal.now a.place s)

pub returns-then-not-j-clause-journal_after : goal.returns-then-not-j-clause-journal_after
returns-then-not-j-clause-journal_after c =
    let a = c.args in
    let s = sym (c.judge-j.ensures.0 ∙ ap sound c.take-rest.ensures.1) ∙ not-true c.judge-j.result.sound c.if-not-j.true in
    rw (call_unsound a.b a.line.now a.journal.now a.place s)

pub returns-then-not-j-clause-carries_value : goal.returns-then-not-j-clause-carries_value
returns-then-not-j-clause-carries_value c =
    unsound_carries c.args.b (request_call (request_of c.args.line.now)) c.refused_unsound-reply.result c.refused_unsound-reply.ensures

-- one that is

pub complete-reply-requires : goal.complete-reply-requires
complete-reply-requires c =
    let a = c.args in
    let t = c.take-rest in
    let b : Board = board_of t.new.sets t.result in
    let k = c.line-s.ensures in (
      λ h. let n = sym (ap (λ (x : Reply). refused x.answer) k.comes_to) ∙ h in
          c.judge-j.ensures.1 ∙ sym (ap (λ (x : Board). as_order (carried x)) (ap (λ (x : Reply). x.board) k.comes_to
          ∙ refused-same b a.line.now a.journal.now a.place n)),
      k.in_form.2,
    )

pub returns-clause-reply_value : goal.returns-clause-reply_value
returns-clause-reply_value c =
    let a = c.args in
    c.complete-reply.ensures ∙ c.line-s.ensures.comes_to
    ∙ ap (λ (x : Board). (line_call x a.line.now a.journal.now a.place).reply) c.take-rest.ensures.1

pub returns-clause-place_value : goal.returns-clause-place_value
returns-clause-place_value c =
    let a = c.args in
    c.line-s.ensures.place_value ∙ ap (λ (x : Board). (line_call x a.line.now a.journal.now a.place).place) c.take-rest.ensures.1

pub returns-clause-journal_after : goal.returns-clause-journal_after
returns-clause-journal_after c =
    let a = c.args in
    c.line-s.ensures.journal_after ∙ ap (λ (x : Board). (line_call x a.line.now a.journal.now a.place).journal) c.take-rest.ensures.1

pub returns-clause-carries_value : goal.returns-clause-carries_value
returns-clause-carries_value c =
    let a = c.args in
    line_carries a.b a.line.now a.journal.now a.place c.complete-reply.result c.loop_of-carries.result (returns-clause-reply_value c) c.loop_of-carries.ensures
