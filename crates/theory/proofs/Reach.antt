-- One program is given a file, on a board that has an order: when an order comes back, and that none does exactly if the program then holds
-- back one that reaches it. Assumes nothing.
use Rattle.std.specs.Prelude.{ℕ, ◌≡◌, ◌↔◌, true, false}
use Rattle.std.proofs.Common.{sym, ◌∙◌}
use Rattle.std.proofs.Math.Path.{ap, subst}
use Rattle.std.proofs.Math.Bool.{Bool}
use borrow.Author.Tests.{ne_eqb}
use Rattle.rules.specs.declared.Board.{Board}
use Rattle.laws.specs.Lists.{found}
use Rattle.rules.specs.Boards.{is_admitted, is_program, at, admitted, opening}
use Rattle.rules.specs.Orders.{holds_back, carried, with_given, safe}
use Rattle.laws.specs.Laws.{NoRepeat}
use Rattle.theory.specs.Order.{IsOrder, order_in}
use Rattle.theory.specs.Programs.{ins_once, carried_is, admitted_is}
use Rattle.theory.specs.Carried.{holds_on, order_of_lem, of_order}
use Rattle.theory.specs.Reach.{is_other, ReachesOn, ClosedOn, order_by_closed, no_order_iff, mem-admitted, mem-other}
use Rattle.theory.specs.Reach.{given-admitted, given_by, given_grown, unsafe-by_reach}

module _ (b : Board) (p f : ℕ) (c : is_program p ≡ true) (a : is_admitted (at b p).standing ≡ true) where
  -- With f given an order comes back, if p then holds back nobody that a closed test finds.
  pub safe-by-closed : (s : ℕ → Bool) → found (carried b) ≡ true → ClosedOn b p s
      → ((x : ℕ) → is_other b p x ≡ true → s x ≡ true → holds_back (opening (at b p) f) (at b x) ≡ false) → safe b p f ≡ true
  unfolding safe
  safe-by-closed s e k g =
      let (o, u) = order_of_lem b e in
      let (o', v) = order_by_closed (holds_on b) (holds_on (with_given b p f)) (admitted b) o p s u (mem-admitted b p c a) (given_grown b p f c a)
      (record {
        base = λ x m n w. k.base x (mem-other b p x m n) w;
        step = λ x y m m' n n' d t w. k.step x y (mem-other b p x m n) (mem-other b p y m' n') (ne_eqb x y d) t w;
      })
      (λ x m n w. given_by b p f c a x m n ∙ g x (mem-other b p x m n) w) in
      of_order (with_given b p f) o' (subst (λ l. IsOrder (holds_on (with_given b p f)) l o') (sym (given-admitted b p f c a)) v)

  safe-is_in : safe b p f ≡ found (order_in (holds_on (with_given b p f)) (admitted b))
  unfolding safe
  safe-is_in = ap found (carried_is (with_given b p f))
      ∙ ap (λ l. found (order_in (holds_on (with_given b p f)) l)) (sym (admitted_is (with_given b p f)) ∙ given-admitted b p f c a)

  -- On a board that has an order, none comes back exactly then.
  pub unsafe_iff_reach : found (carried b) ≡ true
      → (safe b p f ≡ false) ↔ ((x : ℕ) × ReachesOn b p x × (holds_back (opening (at b p) f) (at b x) ≡ true))
  unsafe_iff_reach e = (
    λ t. let (o, u) = order_of_lem b e in
        let (x, m, n, v, r) = (no_order_iff (holds_on b) (holds_on (with_given b p f)) (admitted b) o p once u (mem-admitted b p c a)
        (given_grown b p f c a)).0 (sym safe-is_in ∙ t) in
        (x, (m, r), sym (given_by b p f c a x m n) ∙ v),
    λ (x, r, v). unsafe-by_reach b p f c a x r v,
  )
    where
      once : NoRepeat (admitted b)
      once = subst NoRepeat (sym (admitted_is b)) (ins_once b.programs)
