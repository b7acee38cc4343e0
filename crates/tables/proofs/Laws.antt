-- Laws of the arrays of a board. Assumes nothing.
use mathlib.Core.Path.{◌≡◌, refl, sym, ap, ap₂, ◌∙◌}
use mathlib.Core.Logic.{◌≢◌}
use mathlib.Core.Bool.{Bool, true, false, not, ◌&&◌, ◌||◌}
use mathlib.Core.List.{List, [], ◌∷◌}
use mathlib.Core.Option.{none, some}
use Prim.Native.Nat.{ℕ, zero, suc, ◌+◌, ◌-◌, ◌^◌, ◌≤◌, ◌<◌}
use native.Mathlib.Nat.{add-zero, add-suc, suc-add}
use native.Mathlib.Omega.{arith}
use lib.Bits.{or_lt}
use lib.Pow.{pow-lt}
use lib.Dec.{eqb}
use lib.ListN.{length, get_or}
use borrow.Author.Tests.{eqb-true, eqb-false}
use Rattle.laws.specs.Tests.{by_test, never, no_true}
use Rattle.files.specs.Bits.{has_bit, is_number}
use Rattle.files.proofs.Bits.{less_has as bit-less}
use Rattle.files.proofs.Bits.{or_has, and_has, zero_has, with_only, is_number_lem, has-bit, has-number, least, most}
use Rattle.files.proofs.Bits.{with_number-same, with_number-other, numbers_same}
use Rattle.rules.specs.declared.Board.{Board}
use Rattle.laws.specs.Lists.{rising, any, all, keep, first}
use Rattle.rules.specs.Boards.{no_program, at, everyone, admitted}
use Rattle.laws.specs.Laws.{keep_same, rising-mem}
use Rattle.theory.specs.Programs.{Is}
use Rattle.tables.specs.declared.ProgramSet.{ProgramSet}
use Rattle.tables.specs.ProgramSets.{no_programs, has_program, union_of, common_of, less_of}
use Rattle.store.specs.Sets.{in_place}
use Rattle.tables.specs.Tables.{places, joined, packed}
use Rattle.tables.specs.Boards.{admits, admitted_set}

-- ---- programs by their places

pub at_place : (b : Board) (i : ℕ) → at b (suc i) ≡ in_place b i
at_place b i = let z : suc i - 1 ≡ i = omega arith in ap (λ (x : ℕ). get_or b.programs x no_program) z

-- ---- the tables as lists

pub places-length : (f : ℕ → ℕ) (n k : ℕ) → length (places f n k) ≡ n
unfolding places
places-length f zero k = refl
places-length f (suc n) k = ap suc (places-length f n (suc k))

pub places-at : (f : ℕ → ℕ) (n k i : ℕ) → i < n → get_or (places f n k) i 0 ≡ f (k + i)
unfolding places
places-at f zero k i h = absurd (omega arith)
places-at f (suc n) k zero h = ap f (sym (add-zero k))
places-at f (suc n) k (suc i) h = places-at f n (suc k) i (omega arith) ∙ ap f (suc-add k i ∙ sym (add-suc k i))

pub places_same : (f g : ℕ → ℕ) (n k : ℕ) → ((i : ℕ) → k ≤ i → i < k + n → f i ≡ g i) → places f n k ≡ places g n k
unfolding places
places_same f g zero k e = refl
places_same f g (suc n) k e = ap₂ (λ (x : ℕ) (l : List ℕ). x ∷ l) (e k (omega arith) (omega arith))
    (places_same f g n (suc k) (λ i h m. e i (omega arith) (omega arith)))

-- ---- sets of the numbers that pass a test

pub packed_none : (t : ℕ → Bool) (n : ℕ) → ((x : ℕ) → t x ≡ false) → packed t n ≡ no_programs
unfolding packed
packed_none t zero f = refl
packed_none t (suc n) f = rw (f (suc n)) (packed_none t n f)

-- ---- members of a packed set

-- a bit of a packed set is that of a number that passes the test
pub packed-bit : (t : ℕ → Bool) (n i : ℕ) → n ≤ 32 → has_bit (packed t n).bits i ≡ true → (i < n) × (t (suc i) ≡ true)
unfolding packed
packed-bit t zero i h e = never e (zero_has i)
packed-bit t (suc n) i h e =
    by_test (t (suc n))
    (λ y. by_test (eqb i n) (λ d. let z : i ≡ n = eqb-true i n d in (omega arith, ap (λ x. t (suc x)) z ∙ y))
    (λ d. let z : i ≢ n = eqb-false i n d in
    let k : suc n - 1 ≡ n = omega arith in
    let r = packed-bit t n i (omega arith) (with_only (packed t n).bits n i (rw (y, is_number_lem 32 (suc n) (omega arith) h, k) at e) z) in
    (omega (arith, r.0), r.1)))
    (λ y. let r = packed-bit t n i (omega arith) (rw y at e) in (omega (arith, r.0), r.1))

pub packed-has : (t : ℕ → Bool) (n i : ℕ) → n ≤ 32 → 1 ≤ i → i ≤ n → has_program (packed t n) i ≡ t i
unfolding packed
packed-has t zero i m l h = absurd (omega arith)
packed-has t (suc n) i m l h =
    by_test (eqb i (suc n))
    (λ e. let z : i ≡ suc n = eqb-true i (suc n) e in rw z last)
    (λ e. let z : i ≢ suc n = eqb-false i (suc n) e in
    by_test (t (suc n))
    (λ y. rw y (with_number-other 32 (packed t n).bits (suc n) i z ∙ packed-has t n i (omega arith) l (omega arith)))
    (λ y. rw y (packed-has t n i (omega arith) l (omega arith))))
  where
    is : is_number 32 (suc n) ≡ true
    is = is_number_lem 32 (suc n) (omega arith) m

    last : has_program (joined (packed t n) (suc n) (t (suc n))) (suc n) ≡ t (suc n)
    last =
        by_test (t (suc n)) (λ y. rw y (with_number-same 32 (packed t n).bits (suc n) is))
        (λ y. rw y (no_true (has_program (packed t n) (suc n)) (λ d. let k : suc n - 1 ≡ n = omega arith in
        let r = (packed-bit t n n (omega arith) (rw k at (has-bit 32 (packed t n).bits (suc n) d))).0 in omega arith)))

-- the set of the admitted names them
pub admitted-those : (b : Board) → keep (has_program (admitted_set b)) everyone ≡ admitted b
unfolding admitted admitted_set everyone
admitted-those b = keep_same _ _ (rising 32 1) (λ p m. let r = rising-mem 32 1 p m in
    packed-has (admits b) 32 p (omega arith) r.0 (omega (arith, r.1)))

-- a packed set is a number of 32 bits
pub packed_lt : (t : ℕ → Bool) (n : ℕ) → n ≤ 32 → (packed t n).bits < 2 ^ 32
unfolding packed
packed_lt t zero h = omega arith
packed_lt t (suc n) h = let r = packed_lt t n (omega arith) in by_test (t (suc n))
    (λ y. let k : suc n - 1 ≡ n = omega arith in
    rw (y, is_number_lem 32 (suc n) (omega arith) h, k) (or_lt 32 (packed t n).bits (2 ^ n) r (pow-lt {i = n} {j = 32} (omega arith))))
    (λ y. rw y r)

-- two sets with the same programs are the same
pub set_same : (s r : ProgramSet) → s.bits < 2 ^ 32 → r.bits < 2 ^ 32 → ((x : ℕ) → has_program s x ≡ has_program r x) → s ≡ r
set_same s r h k f = ap {B = ProgramSet} (λ x. record { bits = x }) (numbers_same 32 s.bits r.bits h k f)

-- who is of a set is a program
pub set_is : (s : ProgramSet) (x : ℕ) → has_program s x ≡ true → Is x
set_is s x e = let n = has-number 32 s.bits x e in record { least = least 32 x n; most = most 32 x n }

-- ---- members of sets of two sets

pub union_has : (s t : ProgramSet) (x : ℕ) → has_program (union_of s t) x ≡ (has_program s x || has_program t x)
union_has s t x = by_test (is_number 32 x) (λ e. rw e (or_has s.bits t.bits (x - 1))) (λ e. rw e)

pub common_has : (s t : ProgramSet) (x : ℕ) → has_program (common_of s t) x ≡ (has_program s x && has_program t x)
common_has s t x = by_test (is_number 32 x) (λ e. rw e (and_has s.bits t.bits (x - 1))) (λ e. rw e)

pub less_has : (s t : ProgramSet) (x : ℕ) → has_program (less_of s t) x ≡ (has_program s x && not (has_program t x))
less_has s t x = by_test (is_number 32 x) (λ e. rw e (bit-less s.bits t.bits (x - 1))) (λ e. rw e)

pub none_has : (x : ℕ) → has_program no_programs x ≡ false
none_has x = by_test (is_number 32 x) (λ e. rw e (zero_has (x - 1))) (λ e. rw e)

-- ---- the first number that passes a test

pub first_at : (t : ℕ → Bool) (n k p : ℕ) → k ≤ p → p < k + n → t p ≡ true → ((q : ℕ) → k ≤ q → q < p → t q ≡ false)
    → first t (rising n k) ≡ some p
unfolding first rising
first_at t zero k p l h e f = absurd (omega arith)
first_at t (suc n) k p l h e f =
    by_test (eqb k p)
    (λ z. let w : k ≡ p = eqb-true k p z in rw (ap t w ∙ e) (ap some w))
    (λ z. let w : k ≢ p = eqb-false k p z in
    rw (f k (omega arith) (omega arith)) (first_at t n (suc k) p (omega arith) (omega arith) e (λ q a b. f q (omega arith) b)))

pub first_no : (t : ℕ → Bool) (n k : ℕ) → ((q : ℕ) → t q ≡ false) → first t (rising n k) ≡ none
unfolding first rising
first_no t zero k f = refl
first_no t (suc n) k f = rw (f k) (first_no t n (suc k) f)

-- ---- the numbers from p to 32

pub rising_step : (p : ℕ) → p ≤ 32 → rising (33 - p) p ≡ p ∷ rising (33 - suc p) (suc p)
unfolding rising
rising_step p h = let e : 33 - p ≡ suc (33 - suc p) = omega arith in rw e

pub rising_end : (p : ℕ) → 32 < p → rising (33 - p) p ≡ []
unfolding rising
rising_end p h = let e : 33 - p ≡ 0 = omega arith in rw e

module _ (t : ℕ → Bool) (p : ℕ) where
  pub all-step : p ≤ 32 → all t (rising (33 - p) p) ≡ (t p && all t (rising (33 - suc p) (suc p)))
  unfolding all
  all-step h = ap (all t) (rising_step p h)

  pub all_end : 32 < p → all t (rising (33 - p) p) ≡ true
  unfolding all
  all_end h = ap (all t) (rising_end p h)

  pub any_step : p ≤ 32 → any t (rising (33 - p) p) ≡ (t p || any t (rising (33 - suc p) (suc p)))
  unfolding any
  any_step h = ap (any t) (rising_step p h)

  pub any_here : p ≤ 32 → t p ≡ true → any t (rising (33 - p) p) ≡ true
  any_here h e = any_step h ∙ ap (λ (x : Bool). x || any t (rising (33 - suc p) (suc p))) e

  pub any_more : p ≤ 32 → t p ≡ false → any t (rising (33 - p) p) ≡ any t (rising (33 - (p + 1)) (p + 1))
  any_more h e = let z : p + 1 ≡ suc p = omega arith in
      rw z (any_step h ∙ ap (λ (x : Bool). x || any t (rising (33 - suc p) (suc p))) e)

  pub any_end : 32 < p → any t (rising (33 - p) p) ≡ false
  unfolding any
  any_end h = ap (any t) (rising_end p h)
