-- Laws of the digits of a number: the lowest that is set, and how many are set. Assumes nothing.
use mathlib.Core.Path.{◌≡◌, sym, ap, ◌∙◌}
use mathlib.Core.Logic.{◌≢◌}
use mathlib.Core.Bool.{true, false}
use mathlib.Core.Option.{Option, get_or}
use Prim.Native.Nat.{ℕ, zero, suc, ◌+◌, ◌-◌, ◌/◌, ◌%◌, ◌^◌, ◌<◌}
use native.Mathlib.Nat.{div-div-eq-div-mul, mul_comm, pow-suc, div-one}
use native.Mathlib.Omega.{arith}
use lib.Bits.{bit_and, and_step, and_self}
use lib.Count.{ones, ones_step, count_trailing_zeros, under}
use lib.Dec.{eqb}
use lib.ListN.{length}
use borrow.Author.Tests.{eqb-true, eqb-false}
use Rattle.laws.specs.Tests.{by_test, no_true, never, and_both}
use Rattle.files.specs.Bits.{has_bit, has_number, is_number, without_number}
use Rattle.files.proofs.Bits.{is_number_lem, least, has-number, has-bit}
use Rattle.laws.specs.Lists.{keep, rising}
use Rattle.rules.specs.Boards.{everyone}
use Rattle.tables.specs.declared.ProgramSet.{ProgramSet}
use Rattle.tables.specs.ProgramSets.{has_program, lowest_of, IsLowest}
use Rattle.tables.proofs.Laws.{first_at}

-- a digit of a number's half
half_bit : (m i : ℕ) → has_bit m (suc i) ≡ has_bit (m / 2) i
half_bit m i = ap (λ (x : ℕ). eqb (x % 2) 1)
    (ap (λ (x : ℕ). m / x) (pow-suc 2 i ∙ mul_comm (2 ^ i) 2) ∙ sym (div-div-eq-div-mul m 2 (2 ^ i)))

low_bit : (m : ℕ) → has_bit m 0 ≡ eqb (m % 2) 1
low_bit m = ap (λ (x : ℕ). eqb (x % 2) 1) (div-one m)

-- ---- the lowest digit that is set

odd_none : (k n : ℕ) → n % 2 ≡ 1 → count_trailing_zeros (suc k) n ≡ 0
unfolding count_trailing_zeros
odd_none k n e = ap (λ (d : ℕ). under d (count_trailing_zeros k (n / 2))) e

even_more : (k n : ℕ) → n % 2 ≡ 0 → count_trailing_zeros (suc k) n ≡ suc (count_trailing_zeros k (n / 2))
unfolding count_trailing_zeros
even_more k n e = ap (λ (d : ℕ). under d (count_trailing_zeros k (n / 2))) e

pub trailing_lt : (k n : ℕ) → n ≢ 0 → n < 2 ^ k → count_trailing_zeros k n < k
trailing_lt zero n z h = absurd (omega arith)
trailing_lt (suc k) n z h =
    by_test (eqb (n % 2) 1)
    (λ t. let e = odd_none k n (eqb-true (n % 2) 1 t) in omega arith)
    (λ t. let d : n % 2 ≢ 1 = eqb-false (n % 2) 1 t in let e = even_more k n (omega arith) in
    let p = pow-suc 2 k in let r = trailing_lt k (n / 2) (omega arith) (omega arith) in omega arith)

pub trailing_has : (k n : ℕ) → count_trailing_zeros k n < k → has_bit n (count_trailing_zeros k n) ≡ true
trailing_has zero n h = absurd (omega arith)
trailing_has (suc k) n h =
    by_test (eqb (n % 2) 1)
    (λ t. ap (has_bit n) (odd_none k n (eqb-true (n % 2) 1 t)) ∙ low_bit n ∙ t)
    (λ t. let d : n % 2 ≢ 1 = eqb-false (n % 2) 1 t in let e = even_more k n (omega arith) in
    ap (has_bit n) e ∙ half_bit n (count_trailing_zeros k (n / 2)) ∙ trailing_has k (n / 2) (omega arith))

pub trailing_none : (k n i : ℕ) → i < count_trailing_zeros k n → has_bit n i ≡ false
unfolding count_trailing_zeros
trailing_none zero n i h = absurd (omega arith)
trailing_none (suc k) n zero h =
    by_test (eqb (n % 2) 1)
    (λ t. let e = odd_none k n (eqb-true (n % 2) 1 t) in absurd (omega arith))
    (λ t. low_bit n ∙ t)
trailing_none (suc k) n (suc i) h =
    by_test (eqb (n % 2) 1)
    (λ t. let e = odd_none k n (eqb-true (n % 2) 1 t) in absurd (omega arith))
    (λ t. let d : n % 2 ≢ 1 = eqb-false (n % 2) 1 t in let e = even_more k n (omega arith) in
    half_bit n i ∙ trailing_none k (n / 2) i (omega arith))

-- the lowest digit that is set, cleared
trailing_clear : (k n : ℕ) → n ≢ 0 → n < 2 ^ k → bit_and n (n - 1) + 2 ^ count_trailing_zeros k n ≡ n
trailing_clear zero n z h = absurd (omega arith)
trailing_clear (suc k) n z h =
    let s = and_step n (n - 1) in by_test (eqb (n % 2) 1)
    (λ t. let o = eqb-true (n % 2) 1 t in let e = odd_none k n o in
    let a : (n - 1) / 2 ≡ n / 2 = omega arith in let b : (n - 1) % 2 ≡ 0 = omega arith in
    let c : bit_and (n / 2) ((n - 1) / 2) ≡ n / 2 = ap (bit_and (n / 2)) a ∙ and_self (n / 2) in
    rw e (omega (arith, s, c, b, o)))
    (λ t. let d : n % 2 ≢ 1 = eqb-false (n % 2) 1 t in let e = even_more k n (omega arith) in
    let a : (n - 1) / 2 ≡ n / 2 - 1 = omega arith in
    let c : bit_and (n / 2) ((n - 1) / 2) ≡ bit_and (n / 2) (n / 2 - 1) = ap (bit_and (n / 2)) a in
    let p = pow-suc 2 k in let r = trailing_clear k (n / 2) (omega arith) (omega arith) in let q = pow-suc 2 (count_trailing_zeros k (n / 2)) in
    rw e (omega (arith, s, c, r, q, d)))

-- the lowest program of a set
pub lowest_is : (s : ProgramSet) → s.bits ≢ 0 → s.bits < 2 ^ 32 → IsLowest s (count_trailing_zeros 32 s.bits + 1)
lowest_is s z w =
    let t = count_trailing_zeros 32 s.bits in
    let h : t < 32 = trailing_lt 32 s.bits z w in
    let d : t + 1 - 1 ≡ t = omega arith in (
      omega arith,
      omega arith,
      and_both (is_number 32 (t + 1)) (has_bit s.bits (t + 1 - 1)) (is_number_lem 32 (t + 1) (omega arith) (omega arith))
          (ap (has_bit s.bits) d ∙ trailing_has 32 s.bits h),
      λ q l. no_true (has_program s q) (λ e. let k = least 32 q (has-number 32 s.bits q e) in
          never (has-bit 32 s.bits q e) (trailing_none 32 s.bits (q - 1) (omega arith))),
    )

-- it is the first that is found
pub lowest_first : (s : ProgramSet) (p : ℕ) → IsLowest s p → p ≡ lowest_of s
unfolding lowest_of everyone
lowest_first s p (h, k, t, f) =
    sym (ap (λ (o : Option ℕ). get_or o 0) (first_at (has_program s) 32 1 p h (omega arith) t (λ q l m. f q m)))

pub lowest_cleared : (s : ProgramSet) → s.bits ≢ 0 → s.bits < 2 ^ 32 → bit_and s.bits (s.bits - 1) ≡ without_number 32 s.bits (lowest_of s)
lowest_cleared s z w =
    let t = count_trailing_zeros 32 s.bits in let h : t < 32 = trailing_lt 32 s.bits z w in let e : t + 1 - 1 ≡ t = omega arith in
    ap-lowest (rw (is_number_lem 32 (t + 1) (omega arith) (omega arith), e, trailing_has 32 s.bits h) (omega (arith, trailing_clear 32 s.bits z w)))
  where
    ap-lowest : bit_and s.bits (s.bits - 1) ≡ without_number 32 s.bits (count_trailing_zeros 32 s.bits + 1)
        → bit_and s.bits (s.bits - 1) ≡ without_number 32 s.bits (lowest_of s)
    ap-lowest x = x ∙ ap (without_number 32 s.bits) (lowest_first s _ (lowest_is s z w))

-- ---- how many digits are set

half_place : (m k : ℕ) → m / 2 ^ suc k ≡ m / 2 ^ k / 2
half_place m k = ap (λ (x : ℕ). m / x) (pow-suc 2 k) ∙ sym (div-div-eq-div-mul m (2 ^ k) 2)

number_bit : (m k : ℕ) → k < 32 → has_number 32 m (suc k) ≡ has_bit m k
number_bit m k h = let z : suc k - 1 ≡ k = omega arith in rw (is_number_lem 32 (suc k) (omega arith) (omega arith), z)

-- the digits of m from place k on
ones_from : (m d k : ℕ) → k + d ≡ 32 → m / 2 ^ k < 2 ^ d → length (keep (has_number 32 m) (rising d (suc k))) ≡ ones (m / 2 ^ k)
unfolding keep rising ones
ones_from m zero k e h = let z : m / 2 ^ k ≡ 0 = omega arith in rw z
ones_from m (suc d) k e h =
    let half = half_place m k in
    let is = number_bit m k (omega arith) in
    let p = pow-suc 2 d in
    let rest = ones_from m d (suc k) (omega arith) (rw half (omega arith)) ∙ ap ones half in
    by_test (has_bit m k)
    (λ t. let y : m / 2 ^ k % 2 ≡ 1 = eqb-true (m / 2 ^ k % 2) 1 t in
    let o : suc (ones (m / 2 ^ k / 2)) ≡ ones (m / 2 ^ k) = omega (arith, ones_step (m / 2 ^ k), y) in rw (is ∙ t) (ap suc rest ∙ o))
    (λ t. let y : m / 2 ^ k % 2 ≢ 1 = eqb-false (m / 2 ^ k % 2) 1 t in
    let o : ones (m / 2 ^ k / 2) ≡ ones (m / 2 ^ k) = omega (arith, ones_step (m / 2 ^ k), y) in rw (is ∙ t) (rest ∙ o))

-- the numbers of a set are as many as its digits that are set
pub ones_all : (m : ℕ) → m < 2 ^ 32 → length (keep (has_number 32 m) (rising 32 1)) ≡ ones m
ones_all m h = let d = div-one m in ones_from m 32 0 (omega arith) (rw d h) ∙ ap ones d
