-- The laws of bits, at any width: what setting, clearing, sharing and covering mean bit by bit, and the masks that the code makes.
-- Assumes nothing.
use Prim.Native.Nat.{ℕ, zero, suc, ◌+◌, ◌-◌, ◌*◌, ◌/◌, ◌%◌, ◌^◌, ◌≤◌, ◌<◌, min, max}
use native.Mathlib.Nat.{div-div-eq-div-mul, mul_comm, mul_assoc, pow-suc, pow-succ', div-one, one-mul, zero-add, mod-eq_of_lt, div-eq_of_lt}
use native.Mathlib.Nat.{add-mul-div_left, add-mul-mod_self_left, mod-add-div}
use native.Mathlib.Omega.{arith}
use mathlib.Core.Path.{◌≡◌, refl, sym, ap, ap₂, ◌∙◌, subst}
use mathlib.Core.Logic.{◌≢◌, ◌↔◌}
use mathlib.Core.Bool.{Bool, true, false, not, ◌&&◌, ◌||◌}
use lib.Dec.{eqb, leb, ltb}
use lib.Pow.{pow-lt, pow-add, pow_pos, shr-shr}
use lib.Bits.{bit_and, bit_or, bit_xor, differ, and_step, or_step, xor_step, and_high, or_add_and, xor_add_and, and_le_l, and_comm, xor_self, and_lt, or_lt, xor_lt}
use borrow.Author.Tests.{eq-eqb, ne_eqb, eqb-true, eqb-false, leb-true, le-leb, ltb-true, ltb-false}
use Rattle.files.specs.Bits.{has_bit, with_bit, without_bit, share, covers, is_number, has_number, with_number, without_number}
use Rattle.laws.specs.Tests.{by_test, never, or_cases, and_left, and_right, and_both, same_test}

-- ---- bits by recursion

-- bit i of m
unfoldable bit : ℕ → ℕ → ℕ
bit m zero = m % 2
bit m (suc i) = bit (m / 2) i

bit_is : (m i : ℕ) → m / 2 ^ i % 2 ≡ bit m i
unfolding bit
bit_is m zero = ap (λ (x : ℕ). x % 2) (div-one m)
bit_is m (suc i) =
    ap (λ (x : ℕ). x % 2) (ap (λ (x : ℕ). m / x) (pow-suc 2 i ∙ mul_comm (2 ^ i) 2) ∙ sym (div-div-eq-div-mul m 2 (2 ^ i)))
    ∙ bit_is (m / 2) i

bit_lt : (m i : ℕ) → bit m i < 2
unfolding bit
bit_lt m zero = omega arith
bit_lt m (suc i) = bit_lt (m / 2) i

bit_zero : (i : ℕ) → bit 0 i ≡ 0
unfolding bit
bit_zero zero = refl
bit_zero (suc i) = bit_zero i

bit_and_lem : (a b i : ℕ) → bit (bit_and a b) i ≡ min (bit a i) (bit b i)
unfolding bit
bit_and_lem a b zero = let e = and_step a b in omega arith
bit_and_lem a b (suc i) =
    let e = and_step a b in
    let d : bit_and a b / 2 ≡ bit_and (a / 2) (b / 2) = omega arith in
    rw d (bit_and_lem (a / 2) (b / 2) i)

bit_or_lem : (a b i : ℕ) → bit (bit_or a b) i ≡ max (bit a i) (bit b i)
unfolding bit
bit_or_lem a b zero = let e = or_step a b in omega arith
bit_or_lem a b (suc i) =
    let e = or_step a b in
    let d : bit_or a b / 2 ≡ bit_or (a / 2) (b / 2) = omega arith in
    rw d (bit_or_lem (a / 2) (b / 2) i)

bit_pow_same : (i : ℕ) → bit (2 ^ i) i ≡ 1
unfolding bit
bit_pow_same zero = refl
bit_pow_same (suc i) = let d : 2 ^ suc i / 2 ≡ 2 ^ i = omega arith in rw d (bit_pow_same i)

bit_pow_other : (i j : ℕ) → j ≢ i → bit (2 ^ i) j ≡ 0
unfolding bit
bit_pow_other zero zero n = absurd (n refl)
bit_pow_other zero (suc j) n = bit_zero j
bit_pow_other (suc i) zero n = omega arith
bit_pow_other (suc i) (suc j) n = let d : 2 ^ suc i / 2 ≡ 2 ^ i = omega arith in rw d (bit_pow_other i j (λ e. n (ap suc e)))

-- a number that is not 0 has a bit
some_bit : (n m : ℕ) → m ≤ n → m ≢ 0 → (i : ℕ) × (bit m i ≡ 1)
unfolding bit
some_bit zero m k n = absurd (omega arith)
some_bit (suc f) m k n =
    by_test (eqb (m % 2) 1) (λ t. (0, eqb-true (m % 2) 1 t))
    (λ t. let d : m % 2 ≢ 1 = eqb-false (m % 2) 1 t in let r = some_bit f (m / 2) (omega arith) (omega arith) in (suc r.0, r.1))

-- numbers with the same bits are equal
bits_same : (n a b : ℕ) → a + b ≤ n → ((i : ℕ) → bit a i ≡ bit b i) → a ≡ b
unfolding bit
bits_same zero a b k f = omega arith
bits_same (suc n) a b k f =
    by_test (eqb (a + b) 0) (λ t. let z = eqb-true (a + b) 0 t in omega arith)
    (λ t. let z : a + b ≢ 0 = eqb-false (a + b) 0 t in
    let h = bits_same n (a / 2) (b / 2) (omega arith) (λ i. f (suc i)) in
    let l = f 0 in omega arith)

-- a number under 2 ^ w has no bit from w on
bit_high : (w m i : ℕ) → m < 2 ^ w → w ≤ i → bit m i ≡ 0
unfolding bit
bit_high zero m i h k = let z : m ≡ 0 = omega arith in rw z (bit_zero i)
bit_high (suc w) m zero h k = absurd (omega arith)
bit_high (suc w) m (suc i) h k = bit_high w (m / 2) i (let p = pow-suc 2 w in omega arith) (omega arith)

one_of : (m i : ℕ) → has_bit m i ≡ true → bit m i ≡ 1
one_of m i e = sym (bit_is m i) ∙ eqb-true _ 1 e

of_one : (m i : ℕ) → bit m i ≡ 1 → has_bit m i ≡ true
of_one m i e = eq-eqb _ 1 (bit_is m i ∙ e)

-- ---- no bit, and one more

pub zero_has : (i : ℕ) → has_bit 0 i ≡ false
zero_has i = ne_eqb _ 1 (λ z. let a = sym (bit_is 0 i) ∙ z in let b = bit_zero i in omega arith)

pub high-has : (w m i : ℕ) → m < 2 ^ w → has_bit m i ≡ true → i < w
high-has w m i h e = by_test (ltb i w) (λ t. ltb-true i w t)
    (λ t. let k = ltb-false i w t in let a = one_of m i e in let b = bit_high w m i h (omega arith) in absurd (omega arith))

pub some_has : (m : ℕ) → m ≢ 0 → (i : ℕ) × (has_bit m i ≡ true)
some_has m n = let (i, e) = some_bit m m (omega arith) n in (i, of_one m i e)

pub with_more : (m i j : ℕ) → has_bit m j ≡ true → has_bit (with_bit m i) j ≡ true
with_more m i j e =
    let a = one_of m j e in let b = bit_or_lem m (2 ^ i) j in let c = bit_lt (2 ^ i) j in
    of_one (with_bit m i) j (omega arith)

pub with_only : (m i j : ℕ) → has_bit (with_bit m i) j ≡ true → j ≢ i → has_bit m j ≡ true
with_only m i j e n =
    let a = one_of (with_bit m i) j e in let b = bit_or_lem m (2 ^ i) j in let c = bit_pow_other i j n in
    of_one m j (omega arith)

pub with_same : (m i : ℕ) → has_bit (with_bit m i) i ≡ true
with_same m i = let b = bit_or_lem m (2 ^ i) i in let c = bit_pow_same i in let d = bit_lt m i in of_one (with_bit m i) i (omega arith)

pub with_has : (m i j : ℕ) → has_bit (with_bit m i) j ≡ (eqb j i || has_bit m j)
with_has m i j =
    by_test (eqb j i)
    (λ e. rw e (ap (has_bit (with_bit m i)) (eqb-true j i e) ∙ with_same m i))
    (λ e. rw e (same_test (has_bit (with_bit m i) j) (has_bit m j) (λ u. with_only m i j u (eqb-false j i e)) (with_more m i j)))

-- ---- one less

and_pow : (a k : ℕ) → bit_and a (2 ^ k) ≡ (a / 2 ^ k % 2) * 2 ^ k
and_pow a k = rw mask at (and_high a 1 k)
  where
    mask : 2 ^ (1 + k) - 2 ^ k ≡ 2 ^ k
    mask = omega (arith, pow-add 2 1 k)

or_pow : (a k : ℕ) → bit_or a (2 ^ k) + (a / 2 ^ k % 2) * 2 ^ k ≡ a + 2 ^ k
or_pow a k = rw (and_pow a k) at (or_add_and a (2 ^ k))

or_out : (a k : ℕ) → a / 2 ^ k % 2 ≢ 1 → bit_or a (2 ^ k) ≡ a + 2 ^ k
or_out a k h = omega (arith, rw zero_bit at (or_pow a k))
  where
    zero_bit : a / 2 ^ k % 2 ≡ 0
    zero_bit = omega arith

or_in : (a k : ℕ) → a / 2 ^ k % 2 ≡ 1 → bit_or a (2 ^ k) ≡ a
or_in a k h = omega (arith, rw h at (or_pow a k))

xor_in : (a k : ℕ) → a / 2 ^ k % 2 ≡ 1 → bit_xor a (2 ^ k) ≡ a - 2 ^ k
xor_in a k h = omega (arith, xor_add_and a (2 ^ k), and_pow a k ∙ ap (λ (x : ℕ). x * 2 ^ k) h ∙ one-mul (2 ^ k))

differ_lt : (x y : ℕ) → x < 2 → y < 2 → differ x y < 2
differ_lt zero y a b = b
differ_lt (suc x) zero a b = a
differ_lt (suc x) (suc y) a b = differ_lt x y (omega arith) (omega arith)

differ_zero : (x : ℕ) → differ x 0 ≡ x
differ_zero zero = refl
differ_zero (suc x) = refl

differ_self : (x : ℕ) → differ x x ≡ 0
differ_self zero = refl
differ_self (suc x) = differ_self x

bit_xor_lem : (a b i : ℕ) → bit (bit_xor a b) i ≡ differ (bit a i) (bit b i)
unfolding bit
bit_xor_lem a b zero = let e = xor_step a b in let d = differ_lt (a % 2) (b % 2) (omega arith) (omega arith) in omega arith
bit_xor_lem a b (suc i) =
    let e = xor_step a b in let k = differ_lt (a % 2) (b % 2) (omega arith) (omega arith) in
    let d : bit_xor a b / 2 ≡ bit_xor (a / 2) (b / 2) = omega arith in
    rw d (bit_xor_lem (a / 2) (b / 2) i)

less_bit : (m i j : ℕ) → has_bit m i ≡ true → bit (m - 2 ^ i) j ≡ differ (bit m j) (bit (2 ^ i) j)
less_bit m i j e = ap (λ (x : ℕ). bit x j) (sym (xor_in m i (eqb-true _ 1 e))) ∙ bit_xor_lem m (2 ^ i) j

less_other : (m i j : ℕ) → has_bit m i ≡ true → j ≢ i → bit (m - 2 ^ i) j ≡ bit m j
less_other m i j e n = less_bit m i j e ∙ ap (differ (bit m j)) (bit_pow_other i j n) ∙ differ_zero _

pub without_other : (m i j : ℕ) → has_bit m j ≡ true → j ≢ i → has_bit (without_bit m i) j ≡ true
without_other m i j e n =
    by_test (has_bit m i) (λ t. rw t (of_one (m - 2 ^ i) j (less_other m i j t n ∙ one_of m j e))) (λ t. rw t e)

pub without-same : (m i : ℕ) → has_bit (without_bit m i) i ≡ false
without-same m i =
    by_test (has_bit m i)
    (λ t. rw t (ne_eqb _ 1 (λ z. let a = sym (bit_is (m - 2 ^ i) i) ∙ z in
    let b = less_bit m i i t ∙ ap₂ differ (one_of m i t) (bit_pow_same i) in
    let c : differ 1 1 ≡ 0 = differ_self 1 in omega arith)))
    (λ t. rw t t)

pub without_less : (m i j : ℕ) → has_bit (without_bit m i) j ≡ true → has_bit m j ≡ true
without_less m i j e =
    by_test (has_bit m i)
    (λ t. by_test (eqb j i) (λ u. ap (has_bit m) (eqb-true j i u) ∙ t)
    (λ u. of_one m j (sym (less_other m i j t (eqb-false j i u)) ∙ one_of (m - 2 ^ i) j (rw t at e))))
    (λ t. rw t at e)

pub without-has : (m i j : ℕ) → has_bit (without_bit m i) j ≡ (not (eqb j i) && has_bit m j)
without-has m i j =
    by_test (eqb j i)
    (λ e. rw e (ap (has_bit (without_bit m i)) (eqb-true j i e) ∙ without-same m i))
    (λ e. rw e (same_test (has_bit (without_bit m i) j) (has_bit m j) (without_less m i j) (λ u. without_other m i j u (eqb-false j i e))))

-- ---- a number of two parts: m, and n from bit k on

low_step : (i d m n : ℕ) → (m + 2 ^ (i + suc d) * n) / 2 ^ i % 2 ≡ m / 2 ^ i % 2
low_step i d m n =
    ap (λ (x : ℕ). x % 2) (ap (λ (x : ℕ). (m + x) / 2 ^ i) even ∙ add-mul-div_left m (2 * (2 ^ d * n)) (pow_pos i))
    ∙ add-mul-mod_self_left (m / 2 ^ i) 2 (2 ^ d * n)
  where
    even : 2 ^ (i + suc d) * n ≡ 2 ^ i * (2 * (2 ^ d * n))
    even =
        ap (λ (x : ℕ). x * n) (pow-add 2 i (suc d) ∙ ap (λ (x : ℕ). 2 ^ i * x) (pow-succ' 2 d))
        ∙ mul_assoc (2 ^ i) (2 * 2 ^ d) n ∙ ap (λ (x : ℕ). 2 ^ i * x) (mul_assoc 2 (2 ^ d) n)

-- below k the bits are those of m
pub low-has : (k m n i : ℕ) → i < k → has_bit (m + 2 ^ k * n) i ≡ has_bit m i
low-has k m n i h =
    let e : i + suc (k - suc i) ≡ k = omega arith in
    ap (λ (x : ℕ). eqb x 1) (subst (λ (x : ℕ). (m + 2 ^ x * n) / 2 ^ i % 2 ≡ m / 2 ^ i % 2) e (low_step i (k - suc i) m n))

-- from k on they are those of n
pub above-has : (k m n j : ℕ) → m < 2 ^ k → has_bit (m + 2 ^ k * n) (k + j) ≡ has_bit n j
above-has k m n j h =
    ap (λ (x : ℕ). eqb (x % 2) 1) (sym (shr-shr (m + 2 ^ k * n) k j) ∙ ap (λ (x : ℕ). x / 2 ^ j) rest)
  where
    rest : (m + 2 ^ k * n) / 2 ^ k ≡ n
    rest = add-mul-div_left m n (pow_pos k) ∙ ap (λ (x : ℕ). x + n) (div-eq_of_lt h) ∙ zero-add n

-- the lowest k bits of a number
pub mod_has : (k m i : ℕ) → i < k → has_bit (m % 2 ^ k) i ≡ has_bit m i
mod_has k m i h = sym (low-has k (m % 2 ^ k) (m / 2 ^ k) i h) ∙ ap (λ (x : ℕ). has_bit x i) (mod-add-div m (2 ^ k))

-- ---- two numbers

pub share_of : (a b i : ℕ) → has_bit a i ≡ true → has_bit b i ≡ true → share a b ≡ true
share_of a b i x y =
    by_test (eqb (bit_and a b) 0)
    (λ u. let k = eqb-true (bit_and a b) 0 u in let c = bit_and_lem a b i in let d = one_of a i x in let e = one_of b i y in
    let z = ap (λ (m : ℕ). bit m i) k ∙ bit_zero i in absurd (omega arith))
    (λ u. rw u)

pub of_share : (a b : ℕ) → share a b ≡ true → (i : ℕ) × (has_bit a i ≡ true) × (has_bit b i ≡ true)
of_share a b e =
    by_test (eqb (bit_and a b) 0) (λ u. never {t = false} (rw u at e) refl)
    (λ u. let (i, k) = some_bit (bit_and a b) (bit_and a b) (omega arith) (eqb-false (bit_and a b) 0 u) in
    let c = bit_and_lem a b i in let x = bit_lt a i in let y = bit_lt b i in
    (i, of_one a i (omega arith), of_one b i (omega arith)))

pub or_has : (a b i : ℕ) → has_bit (bit_or a b) i ≡ (has_bit a i || has_bit b i)
or_has a b i =
    let c = bit_or_lem a b i in let x = bit_lt a i in let y = bit_lt b i in
    same_test (has_bit (bit_or a b) i) (has_bit a i || has_bit b i)
    (λ e. let d = one_of (bit_or a b) i e in by_test (has_bit a i) (λ u. rw u)
    (λ u. let n : bit a i ≢ 1 = (λ z. never (of_one a i z) u) in rw u (of_one b i (omega arith))))
    (λ e. or_cases (has_bit a i) (has_bit b i) e (λ u. let d = one_of a i u in of_one (bit_or a b) i (omega arith))
    (λ u. let d = one_of b i u in of_one (bit_or a b) i (omega arith)))

pub and_has : (a b i : ℕ) → has_bit (bit_and a b) i ≡ (has_bit a i && has_bit b i)
and_has a b i =
    let c = bit_and_lem a b i in let x = bit_lt a i in let y = bit_lt b i in
    same_test (has_bit (bit_and a b) i) (has_bit a i && has_bit b i)
    (λ e. let d = one_of (bit_and a b) i e in and_both (has_bit a i) (has_bit b i) (of_one a i (omega arith)) (of_one b i (omega arith)))
    (λ e. let d = one_of a i (and_left (has_bit a i) (has_bit b i) e) in
    let f = one_of b i (and_right (has_bit a i) (has_bit b i) e) in of_one (bit_and a b) i (omega arith))

-- a number but the bits that it shares with another
pub less_has : (a b i : ℕ) → has_bit (bit_xor a (bit_and a b)) i ≡ (has_bit a i && not (has_bit b i))
less_has a b i = let c = bit_xor_lem a (bit_and a b) i in let d = bit_and_lem a b i in
    by_test (has_bit a i)
    (λ u. let x = one_of a i u in by_test (has_bit b i)
    (λ v. let y = one_of b i v in let e : bit (bit_and a b) i ≡ 1 = omega arith in
    rw (u, v) (zero_of (bit_xor a (bit_and a b)) i (c ∙ ap₂ differ x e)))
    (λ v. let y = none_of b i v in let e : bit (bit_and a b) i ≡ 0 = omega arith in
    rw (u, v) (of_one (bit_xor a (bit_and a b)) i (c ∙ ap₂ differ x e))))
    (λ u. let x = none_of a i u in let e : bit (bit_and a b) i ≡ 0 = omega arith in
    rw u (zero_of (bit_xor a (bit_and a b)) i (c ∙ ap₂ differ x e)))
  where
    none_of : (m j : ℕ) → has_bit m j ≡ false → bit m j ≡ 0
    none_of m j u = let n : bit m j ≢ 1 = (λ z. never (of_one m j z) u) in let k = bit_lt m j in omega arith

    zero_of : (m j : ℕ) → bit m j ≡ 0 → has_bit m j ≡ false
    zero_of m j z = ne_eqb _ 1 (λ e. let k = sym (bit_is m j) ∙ e in omega arith)

-- it is a word if both are
pub less_lt : (w a b : ℕ) → a < 2 ^ w → b < 2 ^ w → bit_xor a (bit_and a b) < 2 ^ w
less_lt w a b h l = xor_lt w a (bit_and a b) h (and_lt w a b h l)

-- two numbers or-ed are 0 exactly if both are
pub or_none : (a b : ℕ) → not (eqb (bit_or a b) 0) ≡ (not (eqb a 0) || not (eqb b 0))
or_none a b =
    by_test (eqb a 0)
    (λ x. let i : a ≡ 0 = eqb-true a 0 x in by_test (eqb b 0)
    (λ y. let j : b ≡ 0 = eqb-true b 0 y in
    let e : bit_or a b ≡ 0 = omega (arith, or_add_and a b, and_le_l a b) in rw (x, y, eq-eqb (bit_or a b) 0 e))
    (λ y. let j : b ≢ 0 = eqb-false b 0 y in
    let e : bit_or a b ≢ 0 = (λ d. omega (arith, or_add_and a b, and_le_l a b)) in rw (x, y, ne_eqb (bit_or a b) 0 e)))
    (λ x. let i : a ≢ 0 = eqb-false a 0 x in
    let k : bit_and a b ≤ b = rw (and_comm b a) at (and_le_l b a) in
    let e : bit_or a b ≢ 0 = (λ d. omega (arith, or_add_and a b)) in rw (x, ne_eqb (bit_or a b) 0 e))

-- nothing is shared with 0
pub zero_share : (a b : ℕ) → a ≡ 0 → share a b ≡ false
zero_share a b e = let d : bit_and a b ≡ 0 = omega (arith, and_le_l a b) in rw (eq-eqb (bit_and a b) 0 d)

pub of_covers : (a b : ℕ) → covers a b ≡ true → (i : ℕ) → has_bit a i ≡ true → has_bit b i ≡ true
of_covers a b e i x =
    let k = eqb-true (bit_and a b) a e in let c = bit_and_lem a b i in let d = one_of a i x in
    let z = ap (λ (m : ℕ). bit m i) k in let l = bit_lt b i in of_one b i (omega arith)

pub covers_of : (a b : ℕ) → ((i : ℕ) → has_bit a i ≡ true → has_bit b i ≡ true) → covers a b ≡ true
covers_of a b f = eq-eqb _ a (bits_same (bit_and a b + a) (bit_and a b) a (omega arith) each)
  where
    each : (i : ℕ) → bit (bit_and a b) i ≡ bit a i
    each i =
        let c = bit_and_lem a b i in let l = bit_lt a i in
        by_test (has_bit a i) (λ e. let x = one_of a i e in let y = one_of b i (f i e) in omega arith)
        (λ e. let n : bit a i ≢ 1 = (λ z. never (of_one a i z) e) in omega arith)

-- nothing is left of a but the bits of b exactly if b covers a
pub less_none : (a b : ℕ) → eqb (bit_xor a (bit_and a b)) 0 ≡ covers a b
less_none a b =
    same_test (eqb (bit_xor a (bit_and a b)) 0) (covers a b)
    (λ e. covers_of a b (λ i u. by_test (has_bit b i) (λ v. v)
    (λ v. never (less_has a b i ∙ ap₂ (λ (p q : Bool). p && not q) u v)
    (ap (λ (m : ℕ). has_bit m i) (eqb-true (bit_xor a (bit_and a b)) 0 e) ∙ zero_has i))))
    (λ e. eq-eqb (bit_xor a (bit_and a b)) 0 (ap (bit_xor a) (eqb-true (bit_and a b) a e) ∙ xor_self a))

-- ---- sets of the numbers 1 to w

pub least : (w k : ℕ) → is_number w k ≡ true → 1 ≤ k
least w k e = leb-true 1 k (and_left (leb 1 k) (leb k w) e)

pub most : (w k : ℕ) → is_number w k ≡ true → k ≤ w
most w k e = leb-true k w (and_right (leb 1 k) (leb k w) e)

pub is_number_lem : (w k : ℕ) → 1 ≤ k → k ≤ w → is_number w k ≡ true
is_number_lem w k h j = and_both (leb 1 k) (leb k w) (le-leb 1 k h) (le-leb k w j)

pub has-number : (w m k : ℕ) → has_number w m k ≡ true → is_number w k ≡ true
has-number w m k e = and_left (is_number w k) (has_bit m (k - 1)) e

pub has-bit : (w m k : ℕ) → has_number w m k ≡ true → has_bit m (k - 1) ≡ true
has-bit w m k e = and_right (is_number w k) (has_bit m (k - 1)) e

-- k is in the set and k, and any other number is in it if it was
pub with_number-same : (w m k : ℕ) → is_number w k ≡ true → has_number w (with_number w m k) k ≡ true
with_number-same w m k e = rw e (with_same m (k - 1))

pub with_number-other : (w m k j : ℕ) → j ≢ k → has_number w (with_number w m k) j ≡ has_number w m j
with_number-other w m k j n =
    by_test (is_number w k)
    (λ e. by_test (is_number w j)
    (λ d. rw (e, d) (let x = least w k e in let y = least w j d in
    same_test (has_bit (with_bit m (k - 1)) (j - 1)) (has_bit m (j - 1))
    (λ u. with_only m (k - 1) (j - 1) u (λ z. n (omega arith))) (with_more m (k - 1) (j - 1))))
    (λ d. rw (e, d)))
    (λ e. rw e)

-- it stays a set of numbers 1 to w
pub with_number_fits : (w m k : ℕ) → m < 2 ^ w → with_number w m k < 2 ^ w
with_number_fits w m k h = by_test (is_number w k)
    (λ e. let x = least w k e in let y = most w k e in rw e (or_lt w m (2 ^ (k - 1)) h (pow-lt (omega arith)))) (λ e. rw e h)

pub without_number_fits : (w m k : ℕ) → m < 2 ^ w → without_number w m k < 2 ^ w
without_number_fits w m k h = by_test (is_number w k)
    (λ e. rw e (by_test (has_bit m (k - 1)) (λ d. rw d (omega arith)) (λ d. rw d h))) (λ e. rw e h)

-- k is not in the set but k, and any other number is in it if it was
pub without-number-same : (w m k : ℕ) → has_number w (without_number w m k) k ≡ false
without-number-same w m k = by_test (is_number w k) (λ e. rw e (without-same m (k - 1))) (λ e. rw e)

pub without-number-other : (w m k j : ℕ) → j ≢ k → has_number w (without_number w m k) j ≡ has_number w m j
without-number-other w m k j n =
    by_test (is_number w k)
    (λ e. by_test (is_number w j)
    (λ d. rw (e, d) (let x = least w k e in let y = least w j d in
    same_test (has_bit (without_bit m (k - 1)) (j - 1)) (has_bit m (j - 1))
    (without_less m (k - 1) (j - 1)) (λ u. without_other m (k - 1) (j - 1) u (λ z. n (omega arith)))))
    (λ d. rw (e, d)))
    (λ e. rw e)

-- bit i of a set in w bits is that of i + 1
pub bit-number : (w m i : ℕ) → m < 2 ^ w → has_bit m i ≡ true → has_number w m (suc i) ≡ true
bit-number w m i o e =
    let z : suc i - 1 ≡ i = omega arith in let h = high-has w m i o e in
    and_both (is_number w (suc i)) (has_bit m (suc i - 1)) (is_number_lem w (suc i) (omega arith) (omega arith)) (rw z e)

-- two sets share a bit exactly when some number is in both
pub share_iff : (w a b : ℕ) → a < 2 ^ w → b < 2 ^ w
    → (share a b ≡ true) ↔ ((k : ℕ) × (has_number w a k ≡ true) × (has_number w b k ≡ true))
share_iff w a b o q = (
  λ e. let (i, x, y) = of_share a b e in (suc i, bit-number w a i o x, bit-number w b i q y),
  λ m. share_of a b (m.0 - 1) (has-bit w a m.0 m.1) (has-bit w b m.0 m.2),
)

-- b covers a exactly when every number of a is in b
pub covers_iff : (w a b : ℕ) → a < 2 ^ w → (covers a b ≡ true) ↔ ((k : ℕ) → has_number w a k ≡ true → has_number w b k ≡ true)
covers_iff w a b o = (
  λ e k m. and_both (is_number w k) (has_bit b (k - 1)) (has-number w a k m) (of_covers a b e (k - 1) (has-bit w a k m)),
  λ g. covers_of a b (λ i e. let z : suc i - 1 ≡ i = omega arith in rw z at (has-bit w b (suc i) (g (suc i) (bit-number w a i o e)))),
)

-- sets with the same numbers are equal
pub numbers_same : (w a b : ℕ) → a < 2 ^ w → b < 2 ^ w → ((k : ℕ) → has_number w a k ≡ has_number w b k) → a ≡ b
numbers_same w a b o q f =
    let x = eqb-true (bit_and a b) a ((covers_iff w a b o).1 (λ k e. sym (f k) ∙ e)) in
    let y = eqb-true (bit_and b a) b ((covers_iff w b a q).1 (λ k e. f k ∙ e)) in
    sym x ∙ and_comm a b ∙ y

-- ---- the masks that the code makes, in a word of w bits

-- the mask of bit k
mask_is : (w k : ℕ) → k < w → 1 * 2 ^ k % 2 ^ w ≡ 2 ^ k
mask_is w k h = ap (λ (x : ℕ). x % 2 ^ w) (one-mul (2 ^ k)) ∙ mod-eq_of_lt (pow-lt h)

-- the mask is within what is or-ed with it
pub mask_le : (w m k : ℕ) → k < w → 1 * 2 ^ k % 2 ^ w ≤ bit_or m (1 * 2 ^ k % 2 ^ w)
mask_le w m k h = rw (mask_is w k h) (omega (arith, or_pow m k, one_bit))
  where
    one_bit : (m / 2 ^ k % 2) * 2 ^ k ≤ m
    one_bit = rw (and_pow m k) at (and_le_l m (2 ^ k))

-- m or the mask of bit k, less the mask
pub mask_less : (w m k : ℕ) → k < w → bit_or m (1 * 2 ^ k % 2 ^ w) - 1 * 2 ^ k % 2 ^ w ≡ without_bit m k
mask_less w m k h =
    rw (mask_is w k h)
    (by_test (has_bit m k) (λ e. rw e (ap (λ (x : ℕ). x - 2 ^ k) (or_in m k (eqb-true _ _ e))))
    (λ e. rw e (omega (arith, or_out m k (eqb-false _ _ e)))))
