use Rattle.std.proofs.Common.{ℕ, ◌≢◌, [], ◌∷◌, sym, ap, subst, ◌∙◌}
use Rattle.rules.specs.declared.Board.{Board}
use Rattle.rules.specs.declared.Answer.{Answer}
use Rattle.rules.specs.declared.Word.{Word}
use Rattle.rules.specs.Settling.{line, overdue}
use Rattle.rules.specs.Replies.{reply}
use Rattle.store.specs.Store.{board_of}
use Rattle.settling.proofs.Laws.{all_waiting, found-none}
use Rattle.settling.proofs.Admitting.{overdue_some}
use Rattle.apply.proofs.Laws.{entry_free, favoured_is, enter-held, enter_for, enter-runs}
use Rattle.apply.proofs.do_enter.Goals as goal

pub put_held-c-requires : goal.put_held-c-requires
put_held-c-requires c = let a = c.args in
    (c.requires.0, entry_free a.sets.now a.rest a.p a.claims c.requires.1 c.requires.2)

pub returns-then-rest-ne0-clause-comes_to : goal.returns-then-rest-ne0-clause-comes_to
returns-then-rest-ne0-clause-comes_to c = let a = c.args in
    c.answered.ensures.comes_to ∙ ap (λ (x : Board). reply x Answer.Held (line Word.Held a.p 0 ∷ [])) c.put_held-c.ensures
    ∙ enter-held (board_of a.sets.now a.rest) a.p a.claims.writable a.claims.readable a.claims.inquirable
    (subst (λ (n : ℕ). n ≢ 0) (sym (favoured_is a.sets.now a.rest)) c.if-rest-ne0.true)

pub oldest_overdue-requires : goal.oldest_overdue-requires
unfolding board_of
oldest_overdue-requires c = all_waiting (board_of c.args.sets.now c.args.rest) c.requires.1.loose

pub hold_for-requires : goal.hold_for-requires
hold_for-requires c = (
  c.requires.0,
  c.requires.1,
  c.requires.2,
  (overdue_some (board_of c.args.sets.now c.args.rest) c.in-Some.overdue c.requires.1.loose (sym c.in-Some.is ∙ c.oldest_overdue.ensures)).1,
  c.requires.3,
)

pub returns-in-Some-clause-comes_to : goal.returns-in-Some-clause-comes_to
returns-in-Some-clause-comes_to c = let a = c.args in let b = board_of a.sets.now a.rest in
    c.hold_for.ensures.comes_to
    ∙ enter_for b a.p a.claims.writable a.claims.readable a.claims.inquirable c.in-Some.overdue
    (favoured_is a.sets.now a.rest ∙ c.if-rest-ne0.false)
    (overdue_some b c.in-Some.overdue c.requires.1.loose (sym c.in-Some.is ∙ c.oldest_overdue.ensures)).0

pub returns-clause-comes_to : goal.returns-clause-comes_to
returns-clause-comes_to c = let a = c.args in let b = board_of a.sets.now a.rest in
    c.answered-2.ensures.comes_to ∙ ap (λ (x : Board). reply x Answer.Admit (line Word.Admit a.p 0 ∷ [])) c.put_running-c.ensures
    ∙ enter-runs b a.p a.claims.writable a.claims.readable a.claims.inquirable (favoured_is a.sets.now a.rest ∙ c.if-rest-ne0.false)
    (found-none (overdue b) (sym c.in_default.is ∙ c.oldest_overdue.ensures))
