use Rattle.std.proofs.Common.{◌≡◌, ℕ, ◌≤◌, Bool, [], ◌∷◌, sym, ap, ◌∙◌}
use Rattle.std.specs.Prelude.{Ok}
use Rattle.rules.specs.declared.Board.{Board}
use Rattle.rules.specs.declared.Answer.{Answer}
use Rattle.rules.specs.declared.Word.{Word}
use Rattle.rules.specs.Orders.{with_given, in_use}
use Rattle.rules.specs.Settling.{line}
use Rattle.rules.specs.Replies.{reply}
use Rattle.rules.specs.Checks.{open_check}
use Rattle.theory.specs.Calls.{open_may}
use Rattle.theory.specs.Loose.{Good}
use Rattle.theory.specs.Sound.{loose_apart}
use Rattle.store.specs.declared.Rest.{Rest}
use Rattle.store.specs.Sets.{Sets, IsStore, given_at}
use Rattle.store.specs.Store.{board_of}
use Rattle.store.proofs.Boards.{board-sets}
use Rattle.store.proofs.Changing.{given-board}
use Rattle.tables.specs.declared.ProgramSet.{ProgramSet}
use Rattle.tables.specs.Boards.{admitted_seats}
use Rattle.tables.proofs.Given.{seats_admitted}
use Rattle.search.specs.declared.Uses.{Uses}
use Rattle.search.specs.Gives.{uses_in, used_in}
use Rattle.search.proofs.Used.{used_by_lem}
use Rattle.apply.specs.Replies.{waiting_for}
use Rattle.apply.proofs.Laws.{waiting_free, open_wait, open_waits, open_unsafe, open_given, not_safe, is-safe, found_carries}
use Rattle.apply.proofs.do_open.Goals as goal

module _ (sets : Sets) (r : Rest) (p f : ℕ) (i : (1 ≤ p) × (p ≤ 32)) (st : IsStore sets) where
  -- whether the file is in conflicting use
  used : (n : ProgramSet) (u : Uses) (x : Bool) → Good (board_of sets r) → open_check (board_of sets r) p f ≡ Ok tt
      → n ≡ admitted_seats r → u ≡ uses_in n sets → x ≡ used_in sets u p f → x ≡ in_use (board_of sets r) p f
  used n u x g e a d k = used_by_lem sets u p f x i.0 i.1 k (board_of sets r) (board-sets sets r st)
      (d ∙ ap (λ (y : ProgramSet). uses_in y sets) (a ∙ seats_admitted sets r))
      (loose_apart (board_of sets r) g.loose) (let m = open_may (board_of sets r) p f e in m.asked.shut)

  -- the sets as they are, once p is given f
  gives : (old new : Sets) → old ≡ sets → new ≡ given_at old p f → new ≡ given_at sets p f
  gives old new a e = e ∙ ap (λ (x : Sets). given_at x p f) a

  given : (old new : Sets) → old ≡ sets → new ≡ given_at old p f → board_of new r ≡ with_given (board_of sets r) p f
  unfolding with_given
  given old new a e = ap (λ (x : Sets). board_of x r) (gives old new a e) ∙ given-board sets r p f i.0 i.1 st

pub put_waiting-c-requires : goal.put_waiting-c-requires
put_waiting-c-requires c = let a = c.args in
    (c.requires.0, waiting_free a.sets.now a.rest a.p a.f c.requires.1 c.requires.2)

pub returns-then-in_use-clause-comes_to : goal.returns-then-in_use-clause-comes_to
returns-then-in_use-clause-comes_to c = let a = c.args in let b = board_of a.sets.now a.rest in
    c.answered.ensures.comes_to ∙ ap (λ (x : Board). reply x Answer.Wait (line Word.Wait a.p a.f ∷ []))
    (c.put_waiting-c.ensures ∙ open_wait b a.p a.f c.requires.1 c.requires.2)
    ∙ open_waits b a.p a.f (sym (used a.sets.now a.rest a.p a.f c.requires.0 c.sized.ensures _ _ _ c.requires.1 c.requires.2
    c.admitted_seats-admitted.ensures c.uses_in-uses.ensures c.in_use.ensures) ∙ c.if-in_use.true)

pub put_waiting-c-requires-in_default : goal.put_waiting-c-requires-in_default
put_waiting-c-requires-in_default c = let a = c.args in (
  c.requires.0,
  waiting_free a.sets.now a.rest a.p a.f c.requires.1 c.requires.2,
)

pub returns-in_default-clause-comes_to : goal.returns-in_default-clause-comes_to
returns-in_default-clause-comes_to c = let a = c.args in let b = board_of a.sets.now a.rest in
    c.answered-in_default.ensures.comes_to ∙ ap (λ (x : Board). reply x Answer.Unsafe (line Word.Unsafe a.p a.f ∷ []))
    (c.put_waiting-c-in_default.ensures
    ∙ ap (λ (x : Sets). waiting_for (board_of x a.rest) a.p a.f 0 0) c.order_given-order.ensures.sets_unchanged
    ∙ open_wait b a.p a.f c.requires.1 c.requires.2)
    ∙ open_unsafe b a.p a.f (sym (used a.sets.now a.rest a.p a.f c.requires.0 c.sized.ensures _ _ _ c.requires.1 c.requires.2
    c.admitted_seats-admitted.ensures c.uses_in-uses.ensures c.in_use.ensures) ∙ c.if-in_use.false)
    (not_safe b a.p a.f c.order_given-order.result c.order_given-order.ensures.value c.in_default.is)

-- the order that was found is that of the board with the file given
pub given-requires : goal.given-requires
given-requires c = let a = c.args in (
  c.requires.3,
  found_carries (with_given (board_of a.sets.now a.rest) a.p a.f) _ c.order_given-order.result c.in-Found.n
      c.order_given-order.ensures.value c.in-Found.is
      (given a.sets.now a.rest a.p a.f c.requires.0 c.sized.ensures _ _ c.order_given-order.ensures.sets_unchanged c.give.ensures),
)

pub returns-clause-comes_to : goal.returns-clause-comes_to
returns-clause-comes_to c = let a = c.args in let b = board_of a.sets.now a.rest in
    c.given.ensures.comes_to ∙ ap (λ (x : Board). reply x Answer.Given (line Word.Given a.p a.f ∷ []))
    (given a.sets.now a.rest a.p a.f c.requires.0 c.sized.ensures _ _ c.order_given-order.ensures.sets_unchanged c.give.ensures)
    ∙ open_given b a.p a.f (sym (used a.sets.now a.rest a.p a.f c.requires.0 c.sized.ensures _ _ _ c.requires.1 c.requires.2
    c.admitted_seats-admitted.ensures c.uses_in-uses.ensures c.in_use.ensures) ∙ c.if-in_use.false)
    (is-safe b a.p a.f c.order_given-order.result c.in-Found.n c.order_given-order.ensures.value c.in-Found.is)
