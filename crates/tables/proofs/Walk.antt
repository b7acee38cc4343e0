-- Laws of a walk over a set of programs, the lowest first: `rest` has those that are still to come. Assumes nothing.
use mathlib.Core.Path.{◌≡◌, sym, ap, subst, ◌∙◌}
use mathlib.Core.Logic.{◌≢◌}
use mathlib.Core.Bool.{Bool, true, false, not, cond, ◌&&◌}
use mathlib.Core.List.{List}
use Prim.Native.Nat.{ℕ, suc, ◌+◌, ◌-◌, ◌^◌, ◌≤◌, ◌<◌}
use native.Mathlib.Nat.{zero-add}
use native.Mathlib.Omega.{arith}
use lib.Dec.{eqb}
use lib.ListN.{length, get_or, set, length-set}
use lib.Seq.{get_or-set_same, get_or-set_other, ext_get_or}
use borrow.Author.Tests.{eqb-true, eqb-false}
use Rattle.laws.specs.Tests.{by_test, never, and_true}
use Rattle.files.specs.Bits.{is_number, has_number}
use Rattle.files.proofs.Bits.{is_number_lem, least, most, with_number-same, with_number-other, without-number-same, without-number-other}
use Rattle.tables.specs.declared.ProgramSet.{ProgramSet}
use Rattle.tables.specs.ProgramSets.{has_program, without_program, IsLowest}
use Rattle.tables.specs.Tables.{places, joined, packed}
use Rattle.tables.proofs.Laws.{places-length, places-at, packed-has, packed_lt, none_has, set_same}

-- an empty rest
pub none_left : (rest : ProgramSet) (x : ℕ) → rest.bits ≡ 0 → has_program rest x ≡ false
none_left rest x e = ap (λ (m : ℕ). has_number 32 m x) e ∙ none_has x

module _ (s : ProgramSet) where
  -- all that are to come are of the set
  abbrev pub Rest : ProgramSet → Type 0
  Rest rest = (x : ℕ) → has_program rest x ≡ true → has_program s x ≡ true

  -- x has come
  abbrev pub came : ProgramSet → ℕ → Bool
  came rest x = has_program s x && not (has_program rest x)

  pub rest_more : (rest : ProgramSet) (p : ℕ) → Rest rest → Rest (without_program rest p)
  rest_more rest p f x e = by_test (eqb x p)
      (λ t. let z : x ≡ p = eqb-true x p t in never e (ap (has_program (without_program rest p)) z ∙ without-number-same 32 rest.bits p))
      (λ t. f x (sym (without-number-other 32 rest.bits p x (eqb-false x p t)) ∙ e))

  pub came-start : (x : ℕ) → came s x ≡ false
  came-start x = by_test (has_program s x) (λ t. rw t) (λ t. rw t)

  pub came-here : (rest : ProgramSet) (p : ℕ) → Rest rest → has_program rest p ≡ true → came (without_program rest p) p ≡ true
  came-here rest p f e = rw (f p e, without-number-same 32 rest.bits p)

  pub came-other : (rest : ProgramSet) (p x : ℕ) → x ≢ p → came (without_program rest p) x ≡ came rest x
  came-other rest p x n = ap (λ (y : Bool). has_program s x && not y) (without-number-other 32 rest.bits p x n)

  pub came_not : (rest : ProgramSet) (x : ℕ) → has_program rest x ≡ true → came rest x ≡ false
  came_not rest x e = by_test (has_program s x) (λ t. rw (t, e)) (λ t. rw t)

  pub came-all : (rest : ProgramSet) (x : ℕ) → rest.bits ≡ 0 → came rest x ≡ has_program s x
  came-all rest x e = ap (λ (y : Bool). has_program s x && not y) (none_left rest x e) ∙ and_true (has_program s x)

  -- ---- a place written for each that comes

  module _ (g : ℕ → ℕ) (before : List ℕ) where
    -- g is written in the places of those that have come, and all else is as before
    abbrev pub WroteTo : ProgramSet → List ℕ → Type 0
    WroteTo rest after = Rest rest × (length after ≡ 32)
        × ((i : ℕ) → i < 32 → get_or after i 0 ≡ cond (came rest (suc i)) (g i) (get_or before i 0))

    pub wrote-start : length before ≡ 32 → WroteTo s before
    wrote-start n = (λ x e. e, n, λ i h. rw (came-start (suc i)))

    pub wrote-more : (rest : ProgramSet) (after : List ℕ) (p y : ℕ) → WroteTo rest after → IsLowest rest p → y ≡ g (p - 1)
        → WroteTo (without_program rest p) (set after (p - 1) y)
    wrote-more rest after p y (r, n, f) (a, b, h, l) e = (
      rest_more rest p r,
      length-set after (p - 1) y ∙ n,
      λ i k. by_test (eqb i (p - 1))
          (λ t. let z : i ≡ p - 1 = eqb-true i (p - 1) t in let w : suc i ≡ p = omega arith in
          ap (λ (j : ℕ). get_or (set after (p - 1) y) j 0) z ∙ get_or-set_same after (p - 1) y 0 (omega arith) ∙ e ∙ ap g (sym z)
          ∙ sym (ap (λ (c : Bool). cond c (g i) (get_or before i 0)) (ap (came (without_program rest p)) w ∙ came-here rest p r h)))
          (λ t. let z : i ≢ p - 1 = eqb-false i (p - 1) t in
          get_or-set_other after (p - 1) i y 0 z ∙ f i k
          ∙ sym (ap (λ (c : Bool). cond c (g i) (get_or before i 0)) (came-other rest p (suc i) (omega arith)))),
    )

    -- a step of a walk, and what it writes
    pub wrote-next : (rest next : ProgramSet) (after : List ℕ) (p k y : ℕ) → WroteTo rest after → IsLowest rest p × (next ≡ without_program rest p)
        → k ≡ p - 1 → y ≡ g (p - 1) → WroteTo next (set after k y)
    wrote-next rest next after p k y w (l, e) d f = rw (e, d) (wrote-more rest after p y w l f)

    -- the place of one that is to come is as before
    pub wrote-here : (rest : ProgramSet) (after : List ℕ) (p : ℕ) → WroteTo rest after → IsLowest rest p → get_or after (p - 1) 0 ≡ get_or before (p - 1) 0
    wrote-here rest after p (r, n, f) (a, b, h, l) = let w : suc (p - 1) ≡ p = omega arith in
        f (p - 1) (omega arith) ∙ ap (λ (c : Bool). cond c (g (p - 1)) (get_or before (p - 1) 0)) (ap (came rest) w ∙ came_not rest p h)

    pub wrote-done : (rest : ProgramSet) (after : List ℕ) → rest.bits ≡ 0 → WroteTo rest after
        → after ≡ places (λ i. cond (has_program s (suc i)) (g i) (get_or before i 0)) 32 0
    wrote-done rest after e (r, n, f) = ext_get_or 0 after _ (n ∙ sym (places-length _ 32 0))
        (λ i h. f i (omega arith) ∙ ap (λ (c : Bool). cond c (g i) (get_or before i 0)) (came-all rest (suc i) e)
        ∙ ap (λ (x : ℕ). cond (has_program s (suc x)) (g x) (get_or before x 0)) (sym (zero-add i)) ∙ sym (places-at _ 32 0 i (omega arith)))

  -- ---- those that pass a test, where P says what the test of each comes to

  module _ (P : ℕ → Bool → Type 0) where
    -- of those that have come the ones that passed
    abbrev pub PassedTo : ProgramSet → ProgramSet → Type 0
    PassedTo rest u = Rest rest × ((x : ℕ) → came rest x ≡ true → P x (has_program u x)) × ((x : ℕ) → came rest x ≡ false → has_program u x ≡ false)

    pub passed-more : (rest next u r : ProgramSet) (p : ℕ) (y : Bool) → PassedTo rest u → IsLowest rest p × (next ≡ without_program rest p)
        → P p y → r ≡ joined u p y → PassedTo next r
    passed-more rest next u r p y (w, f, n) ((a, b, h, l), i) e d = subst (λ (v : ProgramSet). PassedTo v r) (sym i) (
      rest_more rest p w,
      λ x c. subst (λ (v : ProgramSet). P x (has_program v x)) (sym d) (by_test (eqb x p)
          (λ q. let z : x ≡ p = eqb-true x p q in rw (z, here) e)
          (λ q. let z : x ≢ p = eqb-false x p q in rw (there x z) (f x (sym (came-other rest p x z) ∙ c)))),
      λ x c. ap (λ (v : ProgramSet). has_program v x) d ∙ by_test (eqb x p)
          (λ q. let z : x ≡ p = eqb-true x p q in never (came-here rest p w h) (ap (came (without_program rest p)) (sym z) ∙ c))
          (λ q. let z : x ≢ p = eqb-false x p q in there x z ∙ n x (sym (came-other rest p x z) ∙ c)),
    )
      where
        here : has_program (joined u p y) p ≡ y
        here = by_test y (λ q. rw q (with_number-same 32 u.bits p (is_number_lem 32 p a b)))
            (λ q. rw q (n p (came_not rest p h)))

        there : (x : ℕ) → x ≢ p → has_program (joined u p y) x ≡ has_program u x
        there x z = by_test y (λ q. rw q (with_number-other 32 u.bits p x z)) (λ q. rw q)

-- ---- the programs 1 to i - 1 put to a test

module _ (P : ℕ → Bool → Type 0) where
  -- of the programs below i the ones that passed
  abbrev pub TriedTo : ℕ → ProgramSet → Type 0
  TriedTo i u = ((x : ℕ) → 1 ≤ x → x < i → P x (has_program u x)) × ((x : ℕ) → i ≤ x → has_program u x ≡ false)

  pub tried-more : (i : ℕ) (u r : ProgramSet) (y : Bool) → TriedTo i u → 1 ≤ i → i ≤ 32 → P i y → r ≡ joined u i y → TriedTo (i + 1) r
  tried-more i u r y (f, n) a b e d = (
    λ x h k. subst (λ (v : ProgramSet). P x (has_program v x)) (sym d) (by_test (eqb x i)
        (λ q. let z : x ≡ i = eqb-true x i q in rw (z, here) e)
        (λ q. let z : x ≢ i = eqb-false x i q in rw (there x z) (f x h (omega arith)))),
    λ x h. let z : x ≢ i = omega arith in ap (λ (v : ProgramSet). has_program v x) d ∙ there x z ∙ n x (omega arith),
  )
    where
      here : has_program (joined u i y) i ≡ y
      here = by_test y (λ q. rw q (with_number-same 32 u.bits i (is_number_lem 32 i a b)))
          (λ q. rw q (n i (omega arith)))

      there : (x : ℕ) → x ≢ i → has_program (joined u i y) x ≡ has_program u x
      there x z = by_test y (λ q. rw q (with_number-other 32 u.bits i x z)) (λ q. rw q)

-- ---- the programs of a set that pass a test, and all programs that do

pub passing : (s u : ProgramSet) (t : ℕ → Bool) → u.bits < 2 ^ 32 → ((x : ℕ) → has_program s x ≡ true → has_program u x ≡ t x)
    → ((x : ℕ) → has_program s x ≡ false → has_program u x ≡ false) → u ≡ packed (λ x. has_program s x && t x) 32
passing s u t h f n = set_same u (packed (λ x. has_program s x && t x) 32) h (packed_lt _ 32 (omega arith))
    (λ x. by_test (has_program s x) (λ c. f x c ∙ ap (λ (y : Bool). y && t x) (sym c)) (λ c. n x c ∙ ap (λ (y : Bool). y && t x) (sym c))
    ∙ by_test (is_number 32 x)
    (λ d. sym (packed-has (λ x. has_program s x && t x) 32 x (omega arith) (least 32 x d) (most 32 x d)))
    (λ d. rw d))

pub all-passing : (u : ProgramSet) (t : ℕ → Bool) → u.bits < 2 ^ 32 → ((x : ℕ) → 1 ≤ x → x ≤ 32 → has_program u x ≡ t x) → u ≡ packed t 32
all-passing u t h f = set_same u (packed t 32) h (packed_lt t 32 (omega arith)) (λ x. by_test (is_number 32 x)
    (λ d. let l = least 32 x d in let m = most 32 x d in f x l m ∙ sym (packed-has t 32 x (omega arith) l m))
    (λ d. rw d))
