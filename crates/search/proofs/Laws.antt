-- Laws of lists of numbers, of sets of programs, and of the search. Assumes nothing.
use mathlib.Core.Path.{◌≡◌, refl, sym, ap, subst, ◌∙◌}
use mathlib.Core.Bool.{Bool, true, not, ◌&&◌}
use mathlib.Core.List.{List, [], ◌∷◌}
use mathlib.Core.Option.{Option, none, some}
use Rattle.std.specs.Prelude.{None, Some}
use Prim.Native.Nat.{ℕ, zero, suc, ◌+◌, ◌-◌, ◌≤◌, ◌<◌}
use native.Mathlib.Numerals.{add-one, sub-one}
use native.Mathlib.Omega.{arith}
use lib.ListN.{length}
use mathlib.Core.List.{append_assoc}
use mathlib.Core.Logic.{◌≢◌}
use native.Mathlib.Nat.{zero-add, add-zero, add-suc, suc-add}
use lib.Dec.{eqb}
use lib.ListN.{set, drop, replicate, take-append-drop}
use lib.Seq.{take-suc-set, drop-set-lt}
use borrow.Author.Tests.{ne_eqb, eqb-true, eqb-false}
use Rattle.laws.specs.Tests.{by_test, by_option, and_left, and_right, and_both, same_test, and_false, and_true}
use Rattle.files.specs.Bits.{has_bit, is_number}
use Rattle.files.proofs.Bits.{share_of, of_share, is_number_lem, has-bit, has-number, least, most}
use Rattle.files.proofs.Bits.{without-number-same, without-number-other}
use Rattle.rules.specs.declared.Board.{Board}
use Rattle.laws.specs.Lists.{rising, any, keep, first, found, with_found, without, padded}
use Rattle.rules.specs.Boards.{everyone, at, admitted}
use Rattle.rules.specs.Orders.{held_back, carried_from, carried}
use Rattle.tables.specs.declared.ProgramSet.{ProgramSet}
use Rattle.search.specs.declared.Search.{Search}
use Rattle.search.specs.declared.Order.{Order}
use Rattle.tables.specs.ProgramSets.{has_program, without_program, programs_meet}
use Rattle.tables.specs.Tables.{packed, stops, row_of, RowsOf}
use Rattle.tables.proofs.Laws.{packed-bit, packed-has, admitted-those}
use Rattle.tables.proofs.Walk.{rest_more}
use Rattle.laws.specs.Laws.{any_some, some-any, first_some, first-same, first_keep, keep_same, keep_keep, keep_mem, rising-mem, mem-rising}
use Rattle.search.specs.Counts.{those, held_count, count_of, Counted, Among, CountedFor, at_zero, lowest}
use Rattle.tables.specs.Boards.{admitted_set}
use Rattle.search.specs.Rows.{is_found, free, order_from, placed, outcome, as_order, order_in, OrderFor}

-- ---- holding back, by sets

pub any_meets : (l : ProgramSet) (t : ℕ → Bool) → any (λ x. has_program l x && t x) everyone ≡ programs_meet l (packed t 32)
unfolding everyone
any_meets l t = same_test (any (λ x. has_program l x && t x) (rising 32 1)) (programs_meet l (packed t 32))
    (λ y. let (x, m, u) = any_some (λ x. has_program l x && t x) (rising 32 1) y in let r = rising-mem 32 1 x m in
    let e = packed-has t 32 x (omega arith) r.0 (omega (arith, r.1)) ∙ and_right (has_program l x) (t x) u in
    share_of l.bits (packed t 32).bits (x - 1) (has-bit 32 l.bits x (and_left (has_program l x) (t x) u)) (has-bit 32 (packed t 32).bits x e))
    (λ m. let (i, a, d) = of_share l.bits (packed t 32).bits m in
    let (h, e) = packed-bit t 32 i (omega arith) d in
    some-any (λ x. has_program l x && t x) (rising 32 1) (suc i) (mem-rising 32 1 (suc i) (omega arith) (omega arith))
    (and_both (has_program l (suc i)) (t (suc i)) (and_both (is_number 32 (suc i)) (has_bit l.bits (suc i - 1))
    (is_number_lem 32 (suc i) (omega arith) (omega arith)) (let k : suc i - 1 ≡ i = omega arith in rw k a)) e))

-- ---- the order, by sets

pub left_without : (l : ProgramSet) (p : ℕ) → without p (keep (has_program l) everyone) ≡ keep (has_program (without_program l p)) everyone
unfolding without everyone
left_without l p =
    keep_keep (has_program l) (λ x. not (eqb x p)) (rising 32 1)
    ∙ keep_same (λ x. has_program l x && not (eqb x p)) (has_program (without_program l p)) (rising 32 1) (λ x m. each x)
  where
    each : (x : ℕ) → (has_program l x && not (eqb x p)) ≡ has_program (without_program l p) x
    each x = by_test (eqb x p)
        (λ y. let z : x ≡ p = eqb-true x p y in rw y (and_false (has_program l x)
        ∙ sym (ap (has_program (without_program l p)) z ∙ without-number-same 32 l.bits p)))
        (λ y. let z : x ≢ p = eqb-false x p y in rw y (and_true (has_program l x) ∙ sym (without-number-other 32 l.bits p x z)))

-- none passes exactly if the number of those that pass is 0
none_count : (t : ℕ → Bool) (l : List ℕ) → not (any t l) ≡ eqb (length (keep t l)) 0
unfolding any keep
none_count t [] = refl
none_count t (x ∷ l) = by_test (t x)
    (λ y. rw y (sym (ne_eqb (suc (length (keep t l))) 0 (λ d. let z : suc (length (keep t l)) ≡ 0 = d in omega arith)))) (λ y. rw y (none_count t l))

pub low : (s : ProgramSet) (x : ℕ) → has_program s x ≡ true → 1 ≤ x
low s x e = least 32 x (has-number 32 s.bits x e)

pub high : (s : ProgramSet) (x : ℕ) → has_program s x ≡ true → x ≤ 32
high s x e = most 32 x (has-number 32 s.bits x e)

among_without : (l a : ProgramSet) (p : ℕ) → Among l a → Among (without_program l p) a
among_without l a p f = rest_more a l p f

module _ (b : Board) (a : ProgramSet) (rows : List ℕ) (f : RowsOf b a rows) where
  -- in how many rows of those left p stands is how many of them hold it back
  held-count : (l : ProgramSet) (p : ℕ) → Among l a → has_program l p ≡ true → held_count rows l p ≡ length (keep (stops b p) (those l))
  held-count l p w e = ap length (keep_same (λ i. has_program (row_of rows i) p) (stops b p) (those l)
      (λ i m. let d = (keep_mem (has_program l) everyone i m).1 in
      f i p (low l i d) (high l i d) (low l p e) (high l p e) ∙ rw (w i d, w p e)))

  first-is : (l : ProgramSet) → Among l a → first (λ p. not (held_back b (those l) p)) (those l) ≡ first (free rows l) everyone
  unfolding everyone held_back
  first-is l w =
      first_keep (has_program l) (λ p. not (held_back b (those l) p)) (rising 32 1)
      ∙ first-same (λ p. has_program l p && not (held_back b (those l) p)) (free rows l) (rising 32 1)
      (λ p m. by_test (has_program l p)
      (λ e. ap (λ (x : Bool). has_program l p && x) (none_count (stops b p) (those l) ∙ ap (λ (n : ℕ). eqb n 0) (sym (held-count l p w e))))
      (λ e. rw e))

  order_is : (n : ℕ) (l : ProgramSet) → Among l a → carried_from n b (those l) ≡ order_from n rows l
  unfolding carried_from order_from
  order_is zero l w = refl
  order_is (suc n) l w =
      by_option (first (free rows l) everyone)
      (λ e. rw (first-is l w, e))
      (λ p e. rw (
        first-is l w,
        e,
        left_without l p,
        order_is n (without_program l p) (among_without l a p w),
      ))

-- "every remaining program's count is that number": on boards
pub counted_for : (rows : List ℕ) (a : ProgramSet) → CountedFor rows a
counted_for rows a b l counts f w c p e = c.1 p e ∙ held-count b a rows f l p w e

-- the search from the admitted programs is the carried order
carried_is : (b : Board) (rows : List ℕ) → RowsOf b (admitted_set b) rows → order_from (length (admitted b)) rows (admitted_set b) ≡ carried b
unfolding carried
carried_is b rows f =
    sym (ap (carried_from (length (admitted b)) b) (sym (admitted-those b))
    ∙ order_is b (admitted_set b) rows f (length (admitted b)) (admitted_set b) (λ x e. e))

-- ---- the lowest

module _ (rows counts : List ℕ) (l : ProgramSet) (c : Counted rows l counts) where
  firsts : first (at_zero counts l) everyone ≡ first (free rows l) everyone
  unfolding everyone
  firsts = first-same (at_zero counts l) (free rows l) (rising 32 1) (λ p m. by_test (has_program l p)
      (λ e. ap (λ (n : ℕ). has_program l p && eqb n 0) (c.1 p e)) (λ e. rw e))

  lowest-none : None ≡ lowest counts l → first (free rows l) everyone ≡ none
  unfolding lowest everyone
  lowest-none e = sym firsts ∙
      by_option (first (at_zero counts l) (rising 32 1)) (λ z. z) (λ p z. let w : None ≡ Some p = rw z at e in cc)

  found-lowest : (p : ℕ) → Some p ≡ lowest counts l → first (at_zero counts l) everyone ≡ some p
  unfolding lowest everyone
  found-lowest p e =
      by_option (first (at_zero counts l) (rising 32 1))
      (λ z. let w : Some p ≡ None = rw z at e in cc)
      (λ q z. let w : Some p ≡ Some q = rw z at e in let d : p ≡ q = cc in z ∙ ap some (sym d))

  lowest-some : (p : ℕ) → Some p ≡ lowest counts l → first (free rows l) everyone ≡ some p
  lowest-some p e = sym firsts ∙ found-lowest p e

  pub lowest-left : (p : ℕ) → Some p ≡ lowest counts l → has_program l p ≡ true
  unfolding everyone
  lowest-left p e = and_left (has_program l p) (eqb (count_of counts p) 0) (first_some (at_zero counts l) (rising 32 1) p (found-lowest p e)).1

-- ---- the order's places

pub drop-replicate : {A : Type 0} (z : A) (n m : ℕ) → drop n (replicate m z) ≡ replicate (m - n) z
drop-replicate z zero m = let e : m - 0 ≡ m = omega arith in rw e
drop-replicate z (suc n) zero = let e : 0 - suc n ≡ 0 = omega arith in rw e
drop-replicate z (suc n) (suc m) = let e : suc m - suc n ≡ m - n = omega arith in rw e (drop-replicate z n m)

pub placed-start : (o : Option (List ℕ)) → placed (replicate 32 0) 0 o ≡ as_order o
unfolding padded
placed-start none = refl
placed-start (some l) = rw (zero-add (length l), drop-replicate {A = ℕ} 0 (length l) 32)

placed_more : (at : List ℕ) (k p : ℕ) (x : Option (List ℕ)) → k < length at → placed (set at k p) (k + 1) x ≡ placed at k
    (with_found x none (λ l. some (p ∷ l)))
placed_more at k p none h = refl
placed_more at k p (some l) h =
    rw (
      add-one k,
      suc-add k (length l),
      add-suc k (length l),
      take-suc-set at k p h,
      drop-set-lt (suc (k + length l)) at k p (omega arith),
      append_assoc,
    )

-- ---- one call of the search

module _ (rows : List ℕ) (l : ProgramSet) (at : List ℕ) where
  pub order-done : (n k : ℕ) → n ≡ 0 → outcome true (k + n) at ≡ placed at k (order_from n rows l)
  unfolding order_from
  order-done n k e = rw (e, add-zero k, take-append-drop k at)

module _ (rows counts : List ℕ) (l : ProgramSet) (c : Counted rows l counts) (at : List ℕ) where
  pub order-stuck : (n k : ℕ) → n ≢ 0 → None ≡ lowest counts l
      → ◌≡◌ {A = Order} (record { kind = Search.Stuck; at = replicate 32 0 }) (placed at k (order_from n rows l))
  unfolding order_from
  order-stuck zero k ne e = absurd (ne refl)
  order-stuck (suc n) k ne e = rw (lowest-none rows counts l c e)

  pub order-more : (n k p : ℕ) → n ≢ 0 → Some p ≡ lowest counts l → k < length at
      → placed (set at k p) (k + 1) (order_from (n - 1) rows (without_program l p)) ≡ placed at k (order_from n rows l)
  unfolding order_from
  order-more zero k p ne e h = absurd (ne refl)
  order-more (suc n) k p ne e h =
      rw (lowest-some rows counts l c p e, sub-one (suc n)) (placed_more at k p (order_from n rows (without_program l p)) h)

-- ---- the whole search

-- the search from no place on
pub order_in_is : (rows at : List ℕ) (left : ProgramSet) (n : ℕ) (r : Bool) → n ≡ length (those left)
    → outcome r (0 + n) at ≡ placed (replicate 32 0) 0 (order_from n rows left) → outcome r n at ≡ order_in rows left
unfolding order_in
order_in_is rows at left n r c o =
    ap (λ (m : ℕ). outcome r m at) (sym (zero-add n)) ∙ o ∙ placed-start (order_from n rows left)
    ∙ ap (λ (m : ℕ). as_order (order_from m rows left)) c

-- on boards: the carried order of all that are admitted
pub order_for : (rows : List ℕ) (left : ProgramSet) → OrderFor rows left (order_in rows left)
unfolding order_in
order_for rows left b f e =
    ap (λ (x : ProgramSet). as_order (order_from (length (those x)) rows x)) e
    ∙ ap (λ (l : List ℕ). as_order (order_from (length l) rows (admitted_set b))) (sym (sym (admitted-those b)))
    ∙ ap as_order (carried_is b rows (subst (λ (x : ProgramSet). RowsOf b x rows) e f))

-- ---- whether an order was found

pub has-found : (o : Option (List ℕ)) → is_found (as_order o).kind ≡ found o
has-found none = refl
has-found (some l) = refl
