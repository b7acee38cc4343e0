use Rattle.std.proofs.Common.{[], ◌∷◌, sym, ap, ◌∙◌}
use Rattle.rules.specs.declared.Board.{Board}
use Rattle.rules.specs.declared.Answer.{Answer}
use Rattle.rules.specs.declared.Word.{Word}
use Rattle.rules.specs.Settling.{line_of}
use Rattle.rules.specs.Replies.{reply}
use Rattle.store.specs.Store.{board_of}
use Rattle.tables.proofs.Taken.{seats_taken}
use Rattle.apply.proofs.Laws.{fetching-free, fetch_waits, fetch-gets}
use Rattle.apply.proofs.do_fetch.Goals as goal

pub put_waiting-c-requires : goal.put_waiting-c-requires
put_waiting-c-requires c = let a = c.args in
    (c.requires.0, fetching-free a.sets.now a.rest a.p a.f a.n c.requires.1 c.requires.2)

pub returns-then-is_taken-clause-comes_to : goal.returns-then-is_taken-clause-comes_to
returns-then-is_taken-clause-comes_to c = let a = c.args in
    c.answered.ensures.comes_to ∙ ap (λ (x : Board). reply x Answer.Wait (line_of Word.Wait a.p a.f a.n ∷ [])) c.put_waiting-c.ensures
    ∙ fetch_waits (board_of a.sets.now a.rest) a.p a.f a.n
    (sym (c.is_taken.ensures ∙ seats_taken a.sets.now a.rest a.p a.f a.n) ∙ c.if-is_taken.true)

pub returns-clause-comes_to : goal.returns-clause-comes_to
returns-clause-comes_to c = let a = c.args in
    c.answered-2.ensures.comes_to ∙ ap (λ (x : Board). reply x Answer.Given (line_of Word.Given a.p a.f a.n ∷ [])) c.put_record-c.ensures
    ∙ fetch-gets (board_of a.sets.now a.rest) a.p a.f a.n
    (sym (c.is_taken.ensures ∙ seats_taken a.sets.now a.rest a.p a.f a.n) ∙ c.if-is_taken.false)
