-- The laws of rows of words: which bits a row has, that a row changed, filled or joined is the set changed, made or joined, and the one law of
-- the tests that go through the words. Everything holds for any number of words.
-- Assumes nothing.
use Prim.Native.Nat.{ℕ, zero, suc, ◌+◌, ◌-◌, ◌*◌, ◌/◌, ◌%◌, ◌^◌, ◌≤◌, ◌<◌}
use native.Mathlib.Numerals.{add-one}
use native.Mathlib.Omega.{arith}
use mathlib.Core.Path.{◌≡◌, refl, sym, ap, ap₂, ◌∙◌, subst}
use mathlib.Core.Logic.{◌≢◌, ◌↔◌}
use mathlib.Core.Bool.{Bool, true, false, not, ◌&&◌, ◌||◌}
use mathlib.Core.List.{List, [], ◌∷◌}
use lib.Dec.{eqb, ltb}
use lib.Pow.{pow-add}
use lib.Bits.{bit_and, bit_or, bit_xor, and_comm, and_lt, or_lt, xor_lt}
use lib.ListN.{length, get_or, set, take, replicate, length-set, length-replicate}
use lib.Seq.{get_or-set_same, get_or-set_other, take_all}
use borrow.Author.Tests.{eq-eqb, ne_eqb, eqb-true, eqb-false, ltb-true, ltb-false}
use Rattle.files.specs.declared.FileSet.{FileSet}
use Rattle.files.specs.Bits.{has_bit, less_bits, with_bit, without_bit, with_number, without_number}
use Rattle.files.specs.Sets.{is_file, no_files, adding, removing, OfFiles}
use Rattle.files.specs.Words.{word_count, bits_of, set_of, with_file, without_file, words_for, wordwise}
use Rattle.laws.specs.Tests.{by_test, never, same_test}
use Rattle.files.proofs.Bits.{zero_has, high-has, some_has, with_has, without-has, low-has, above-has, mod_has}
use Rattle.files.proofs.Bits.{or_has, and_has, less_has, covers_of}

-- ---- the bits of a row

-- place i is bit i % 64 of word i / 64
pub has_words : (ws : List ℕ) (i : ℕ) → has_bit (bits_of ws) i ≡ has_bit (get_or ws (i / 64) 0) (i % 64)
unfolding bits_of
has_words [] i = zero_has i ∙ sym (zero_has (i % 64))
has_words (w ∷ ws) i =
    by_test (ltb i 64)
    (λ t. let h = ltb-true i 64 t in let d : i / 64 ≡ 0 = omega arith in let r : i % 64 ≡ i = omega arith in
    low-has 64 (w % 2 ^ 64) (bits_of ws) i h ∙ mod_has 64 w i h ∙ sym (ap₂ (λ (q p : ℕ). has_bit (get_or (w ∷ ws) q 0) p) d r))
    (λ t. let h = ltb-false i 64 t in let e : 64 + (i - 64) ≡ i = omega arith in
    let d : i / 64 ≡ suc ((i - 64) / 64) = omega arith in let r : i % 64 ≡ (i - 64) % 64 = omega arith in
    let l : w % 2 ^ 64 < 2 ^ 64 = omega arith in
    ap (has_bit (w % 2 ^ 64 + 2 ^ 64 * bits_of ws)) (sym e) ∙ above-has 64 (w % 2 ^ 64) (bits_of ws) (i - 64) l ∙ has_words ws (i - 64)
    ∙ sym (ap₂ (λ (q p : ℕ). has_bit (get_or (w ∷ ws) q 0) p) d r))

-- a row of n words has no place from 64 * n on
pub words_below : (ws : List ℕ) → bits_of ws < 2 ^ (64 * length ws)
unfolding bits_of
words_below [] = omega arith
words_below (w ∷ ws) =
    let h = words_below ws in let m : 64 * suc (length ws) ≡ 64 + 64 * length ws = omega arith in
    let e : 2 ^ (64 * suc (length ws)) ≡ 2 ^ 64 * 2 ^ (64 * length ws) = ap (λ (x : ℕ). 2 ^ x) m ∙ pow-add 2 64 (64 * length ws) in
    omega arith

-- numbers with the same bits are equal
pub bits_same : (m n : ℕ) → ((i : ℕ) → has_bit m i ≡ has_bit n i) → m ≡ n
bits_same m n f =
    sym (eqb-true (bit_and m n) m (covers_of m n (λ i e. sym (f i) ∙ e))) ∙ and_comm m n
    ∙ eqb-true (bit_and n m) n (covers_of n m (λ i e. f i ∙ e))

pub one_word : (w : ℕ) → w < 2 ^ 64 → bits_of (w ∷ []) ≡ w
unfolding bits_of
one_word w h = omega arith

zero_bits : (n : ℕ) → bits_of (replicate n 0) ≡ 0
unfolding bits_of
zero_bits zero = refl
zero_bits (suc n) = let e = zero_bits n in omega arith

-- words of which none has a bit
pub no_words : (n : ℕ) → set_of (replicate n 0) ≡ no_files
no_words n = ap {B = FileSet} (λ x. record { bits = x }) (zero_bits n)

for_bits : (n m : ℕ) → 1 ≤ n → m < 2 ^ 64 → bits_of (set (replicate n 0) 0 m) ≡ m
unfolding bits_of
for_bits zero m h l = absurd (omega arith)
for_bits (suc n) m h l = let e = zero_bits n in omega arith

-- the words of a set
pub words_for_lem : (n : ℕ) (s : FileSet) → 1 ≤ n → OfFiles s → set_of (words_for n s) ≡ s
words_for_lem n s h l = ap {B = FileSet} (λ x. record { bits = x }) (for_bits n s.bits h l)

-- ---- one place changed

-- the row whose word with place i is changed by op
abbrev changed : (ℕ → ℕ → ℕ) → List ℕ → ℕ → List ℕ
changed op ws i = set ws (i / 64) (op (get_or ws (i / 64) 0) (i % 64))

-- what changes bit i of a number, by g of whether it is that bit and of the bit, changes place i of a row so
module _ (op : ℕ → ℕ → ℕ) (g : Bool → Bool → Bool) (other : (b : Bool) → g false b ≡ b)
    (has : (m i j : ℕ) → has_bit (op m i) j ≡ g (eqb j i) (has_bit m j)) where
  same_place : (i j : ℕ) → j / 64 ≡ i / 64 → eqb (j % 64) (i % 64) ≡ eqb j i
  same_place i j d =
      same_test (eqb (j % 64) (i % 64)) (eqb j i)
      (λ u. let r = eqb-true (j % 64) (i % 64) u in eq-eqb j i (omega arith))
      (λ u. let r = eqb-true j i u in eq-eqb (j % 64) (i % 64) (ap (λ (x : ℕ). x % 64) r))

  place : (ws : List ℕ) (i j : ℕ) → i / 64 < length ws
      → has_bit (get_or (changed op ws i) (j / 64) 0) (j % 64) ≡ g (eqb j i) (has_bit (bits_of ws) j)
  place ws i j h =
      let v = op (get_or ws (i / 64) 0) (i % 64) in
      by_test (eqb (j / 64) (i / 64))
      (λ t. let d = eqb-true (j / 64) (i / 64) t in
      ap (λ (q : ℕ). has_bit (get_or (changed op ws i) q 0) (j % 64)) d
      ∙ ap (λ (m : ℕ). has_bit m (j % 64)) (get_or-set_same ws (i / 64) v 0 h)
      ∙ has (get_or ws (i / 64) 0) (i % 64) (j % 64)
      ∙ ap₂ g (same_place i j d) (ap (λ (q : ℕ). has_bit (get_or ws q 0) (j % 64)) (sym d) ∙ sym (has_words ws j)))
      (λ t. let d = eqb-false (j / 64) (i / 64) t in
      ap (λ (m : ℕ). has_bit m (j % 64)) (get_or-set_other ws (i / 64) (j / 64) v 0 d)
      ∙ sym (has_words ws j) ∙ sym (other (has_bit (bits_of ws) j))
      ∙ ap (λ (u : Bool). g u (has_bit (bits_of ws) j)) (sym (ne_eqb j i (λ r. d (ap (λ (x : ℕ). x / 64) r)))))

  place-changed : (ws : List ℕ) (i : ℕ) → i / 64 < length ws → bits_of (changed op ws i) ≡ op (bits_of ws) i
  place-changed ws i h = bits_same (bits_of (changed op ws i)) (op (bits_of ws) i)
      (λ j. has_words (changed op ws i) j ∙ place ws i j h ∙ sym (has (bits_of ws) i j))

with_bits : (ws : List ℕ) (f : ℕ) → (f - 1) / 64 < length ws → bits_of (with_file ws f) ≡ with_number 64 (bits_of ws) f
with_bits ws f h = by_test (is_file f) (λ e. rw e (place-changed with_bit ◌||◌ (λ b. refl) with_has ws (f - 1) h)) (λ e. rw e)

without_bits : (ws : List ℕ) (f : ℕ) → (f - 1) / 64 < length ws → bits_of (without_file ws f) ≡ without_number 64 (bits_of ws) f
without_bits ws f h =
    by_test (is_file f) (λ e. rw e (place-changed without_bit (λ a b. not a && b) (λ b. refl) without-has ws (f - 1) h)) (λ e. rw e)

-- the words with a file are the set and the file
pub words_with : (ws : List ℕ) (f : ℕ) → (f - 1) / 64 < length ws → set_of (with_file ws f) ≡ adding (set_of ws) f
words_with ws f h = ap {B = FileSet} (λ x. record { bits = x }) (with_bits ws f h)

-- the words without a file are the set but the file
pub words-without : (ws : List ℕ) (f : ℕ) → (f - 1) / 64 < length ws → set_of (without_file ws f) ≡ removing (set_of ws) f
words-without ws f h = ap {B = FileSet} (λ x. record { bits = x }) (without_bits ws f h)

-- ---- two rows, word by word

wordwise-nil : (g : ℕ → ℕ → ℕ) (a : List ℕ) → wordwise g a [] ≡ a
unfolding wordwise
wordwise-nil g [] = refl
wordwise-nil g (x ∷ a) = refl

get_d_wordwise : (g : ℕ → ℕ → ℕ) → g 0 0 ≡ 0 → (a b : List ℕ) → length a ≡ length b → (k : ℕ)
    → get_or (wordwise g a b) k 0 ≡ g (get_or a k 0) (get_or b k 0)
unfolding wordwise
get_d_wordwise g z [] [] e k = sym z
get_d_wordwise g z [] (y ∷ b) e k = absurd (let d : 0 ≡ suc (length b) = e in omega arith)
get_d_wordwise g z (x ∷ a) [] e k = absurd (let d : suc (length a) ≡ 0 = e in omega arith)
get_d_wordwise g z (x ∷ a) (y ∷ b) e zero = refl
get_d_wordwise g z (x ∷ a) (y ∷ b) e (suc k) = let d : suc (length a) ≡ suc (length b) = e in get_d_wordwise g z a b (omega arith) k

-- what joins numbers bit by bit joins rows so
module _ (g : ℕ → ℕ → ℕ) (t : Bool → Bool → Bool) (zeros : g 0 0 ≡ 0)
    (has : (m n i : ℕ) → has_bit (g m n) i ≡ t (has_bit m i) (has_bit n i)) where
  pub wordwise-has : (a b : List ℕ) (i : ℕ) → length a ≡ length b
      → has_bit (bits_of (wordwise g a b)) i ≡ t (has_bit (bits_of a) i) (has_bit (bits_of b) i)
  wordwise-has a b i e =
      has_words (wordwise g a b) i ∙ ap (λ (m : ℕ). has_bit m (i % 64)) (get_d_wordwise g zeros a b e (i / 64))
      ∙ has (get_or a (i / 64) 0) (get_or b (i / 64) 0) (i % 64) ∙ sym (ap₂ t (has_words a i) (has_words b i))

pub or_words : (a b : List ℕ) (i : ℕ) → length a ≡ length b
    → has_bit (bits_of (wordwise bit_or a b)) i ≡ (has_bit (bits_of a) i || has_bit (bits_of b) i)
or_words = wordwise-has bit_or ◌||◌ refl or_has

pub and_words : (a b : List ℕ) (i : ℕ) → length a ≡ length b
    → has_bit (bits_of (wordwise bit_and a b)) i ≡ (has_bit (bits_of a) i && has_bit (bits_of b) i)
and_words = wordwise-has bit_and ◌&&◌ refl and_has

pub but_words : (a b : List ℕ) (i : ℕ) → length a ≡ length b
    → has_bit (bits_of (wordwise less_bits a b)) i ≡ (has_bit (bits_of a) i && not (has_bit (bits_of b) i))
but_words = wordwise-has less_bits (λ x y. x && not y) refl less_has

-- ---- lengths

-- two rows of as many words as a set
pub same-words : {a b : ℕ} → a ≡ word_count → b ≡ word_count → a ≡ b
same-words e d = e ∙ sym d

pub length-wordwise : (g : ℕ → ℕ → ℕ) (a b : List ℕ) → length (wordwise g a b) ≡ length a
unfolding wordwise
length-wordwise g [] b = refl
length-wordwise g (x ∷ a) [] = refl
length-wordwise g (x ∷ a) (y ∷ b) = ap suc (length-wordwise g a b)

pub length_with : (ws : List ℕ) (f : ℕ) → length (with_file ws f) ≡ length ws
length_with ws f =
    by_test (is_file f) (λ e. rw e (length-set ws ((f - 1) / 64) (with_bit (get_or ws ((f - 1) / 64) 0) ((f - 1) % 64)))) (λ e. rw e)

pub length_without : (ws : List ℕ) (f : ℕ) → length (without_file ws f) ≡ length ws
length_without ws f =
    by_test (is_file f) (λ e. rw e (length-set ws ((f - 1) / 64) (without_bit (get_or ws ((f - 1) / 64) 0) ((f - 1) % 64)))) (λ e. rw e)

pub length_for : (n : ℕ) (s : FileSet) → length (words_for n s) ≡ n
length_for n s = length-set (replicate n 0) 0 s.bits ∙ length-replicate n 0

-- ---- the loops that write

-- the first k words joined, and then one more
pub join_none : (g : ℕ → ℕ → ℕ) (a b : List ℕ) → a ≡ wordwise g a (take 0 b)
join_none g a b = sym (wordwise-nil g a)

join_more : (g : ℕ → ℕ → ℕ) (a b : List ℕ) (k : ℕ) → k < length a → k < length b
    → set (wordwise g a (take k b)) k (g (get_or (wordwise g a (take k b)) k 0) (get_or b k 0)) ≡ wordwise g a (take (suc k) b)
unfolding wordwise
join_more g [] b k h l = absurd (omega arith)
join_more g (x ∷ a) [] k h l = absurd (omega arith)
join_more g (x ∷ a) (y ∷ b) zero h l = ap (λ (r : List ℕ). g x y ∷ r) (sym (wordwise-nil g a))
join_more g (x ∷ a) (y ∷ b) (suc k) h l =
    let i : suc k < suc (length a) = h in let j : suc k < suc (length b) = l in
    ap (λ (r : List ℕ). g x y ∷ r) (join_more g a b k (omega arith) (omega arith))

-- a row that is joined up to k, joined at k
pub join_next : (g : ℕ → ℕ → ℕ) (a b s : List ℕ) (k : ℕ) → length a ≡ length b → k < length b → s ≡ wordwise g a (take k b)
    → set s k (g (get_or s k 0) (get_or b k 0)) ≡ wordwise g a (take (k + 1) b)
join_next g a b s k e h i =
    rw i (join_more g a b k (omega arith) h ∙ ap (λ (n : ℕ). wordwise g a (take n b)) (sym (add-one k)))

pub join_all : (g : ℕ → ℕ → ℕ) (a b s : List ℕ) (k : ℕ) → length b ≤ k → s ≡ wordwise g a (take k b) → s ≡ wordwise g a b
join_all g a b s k h e = e ∙ ap (wordwise g a) (take_all k b h)

-- ---- the tests that go through the words

-- of words x whose bits are the places that pass t: some word below n is not 0 exactly when some place below 64 * n passes
module _ (x : ℕ → ℕ) (t : ℕ → Bool) (bits : (k j : ℕ) → j < 64 → has_bit (x k) j ≡ t (64 * k + j)) where
  pub words_test : (n : ℕ) → ((k : ℕ) × (k < n) × (x k % 2 ^ 64 ≢ 0)) ↔ ((i : ℕ) × (i < 64 * n) × (t i ≡ true))
  words_test n = (
    λ (k, h, z). let (j, e) = some_has (x k % 2 ^ 64) z in let b : x k % 2 ^ 64 < 2 ^ 64 = omega arith in
        let l = high-has 64 (x k % 2 ^ 64) j b e in
        (64 * k + j, omega arith, sym (bits k j l) ∙ sym (mod_has 64 (x k) j l) ∙ e),
    λ (i, h, e). let d : 64 * (i / 64) + i % 64 ≡ i = omega arith in let l : i % 64 < 64 = omega arith in
        let u = mod_has 64 (x (i / 64)) (i % 64) l ∙ bits (i / 64) (i % 64) l ∙ ap t d ∙ e in
        (i / 64, omega arith, λ z. never u (ap (λ (m : ℕ). has_bit m (i % 64)) z ∙ zero_has (i % 64))),
  )

-- y is the number whose n words are x
pub record Words (x : ℕ → ℕ) (y n : ℕ) : Type 0 where
  pub below : y < 2 ^ (64 * n)
  pub bits : (i : ℕ) → has_bit y i ≡ has_bit (x (i / 64)) (i % 64)

-- a number is 0 exactly if its words are
module _ {x : ℕ → ℕ} {y n : ℕ} (p : Words x y n) where
  places : ((k : ℕ) × (k < n) × (x k % 2 ^ 64 ≢ 0)) ↔ ((i : ℕ) × (i < 64 * n) × (has_bit y i ≡ true))
  places = words_test x (λ i. has_bit y i)
      (λ k j h. let d : (64 * k + j) / 64 ≡ k = omega arith in let r : (64 * k + j) % 64 ≡ j = omega arith in
      sym (p.bits (64 * k + j) ∙ ap₂ (λ (a b : ℕ). has_bit (x a) b) d r)) n

  pub some_word : (k : ℕ) → k < n → x k < 2 ^ 64 → (x k ≡ 0 → ⊥) → eqb y 0 ≡ false
  some_word k h l z =
      let w : x k ≢ 0 = z in let (i, b, e) = places.0 (k, h, omega arith) in
      ne_eqb y 0 (λ d. never e (ap (λ (m : ℕ). has_bit m i) d ∙ zero_has i))

  pub no_word : ((k : ℕ) → k < n → x k ≡ 0) → eqb y 0 ≡ true
  no_word f = by_test (eqb y 0) (λ e. e) (λ e. let (i, u) = some_has y (eqb-false y 0 e) in
      let (k, h, z) = places.1 (i, high-has (64 * n) y i p.below u, u) in
      absurd (z (ap (λ (m : ℕ). m % 2 ^ 64) (f k h))))

  -- the same by a test of all words, and of any
  pub all_words : {b : Bool} → ((k : ℕ) → x k < 2 ^ 64) → (b ≡ true) ↔ ((k : ℕ) → k < n → x k ≡ 0) → b ≡ eqb y 0
  all_words {b} fits f = by_test b
      (λ e. e ∙ sym (no_word (f.0 e)))
      (λ e. by_test (eqb y 0)
      (λ d. f.1 (λ k h. by_test (eqb (x k) 0) (λ z. eqb-true (x k) 0 z) (λ z. never d (some_word k h (fits k) (eqb-false (x k) 0 z)))) ∙ sym d)
      (λ d. e ∙ sym d))

  pub any_words : (b : Bool) → ((k : ℕ) → x k < 2 ^ 64) → (not b ≡ true) ↔ ((k : ℕ) → k < n → x k ≡ 0) → b ≡ not (eqb y 0)
  any_words true fits f = ap not (all_words {b = not true} fits f)
  any_words false fits f = ap not (all_words {b = not false} fits f)

-- the words of a row
pub row_words : (ws : List ℕ) (n : ℕ) → length ws ≡ n → Words (λ k. get_or ws k 0) (bits_of ws) n
row_words ws n e = record { below = subst (λ (m : ℕ). bits_of ws < 2 ^ (64 * m)) e (words_below ws); bits = has_words ws }

-- the words of two numbers that are joined bit by bit
module _ (g : ℕ → ℕ → ℕ) (t : Bool → Bool → Bool) (fits : (k a b : ℕ) → a < 2 ^ k → b < 2 ^ k → g a b < 2 ^ k)
    (has : (a b i : ℕ) → has_bit (g a b) i ≡ t (has_bit a i) (has_bit b i)) where
  joined_words : (x u : ℕ → ℕ) (y v n : ℕ) → Words x y n → Words u v n → Words (λ k. g (x k) (u k)) (g y v) n
  joined_words x u y v n p q = record {
    below = fits (64 * n) y v p.below q.below;
    bits = λ i. has y v i ∙ ap₂ t (p.bits i) (q.bits i) ∙ sym (has (x (i / 64)) (u (i / 64)) (i % 64));
  }

pub and_both_words : {x u : ℕ → ℕ} {y v n : ℕ} → Words x y n → Words u v n → Words (λ k. bit_and (x k) (u k)) (bit_and y v) n
and_both_words {x} {u} {y} {v} {n} p q = joined_words bit_and ◌&&◌ and_lt and_has x u y v n p q

pub or_both_words : {x u : ℕ → ℕ} {y v n : ℕ} → Words x y n → Words u v n → Words (λ k. bit_or (x k) (u k)) (bit_or y v) n
or_both_words {x} {u} {y} {v} {n} p q = joined_words bit_or ◌||◌ or_lt or_has x u y v n p q

pub less_words : {x u : ℕ → ℕ} {y v n : ℕ} → Words x y n → Words u v n
    → Words (λ k. bit_xor (x k) (bit_and (x k) (u k))) (bit_xor y (bit_and y v)) n
less_words {x} {u} {y} {v} {n} p q =
    joined_words (λ a b. bit_xor a (bit_and a b)) (λ a b. a && not b) (λ k a b h l. xor_lt k a (bit_and a b) h (and_lt k a b h l)) less_has
    x u y v n p q

-- what two rows share, and what the first has that the second has not
pub shared_words : (a b : List ℕ) → length a ≡ length b
    → Words (λ k. bit_and (get_or a k 0) (get_or b k 0)) (bit_and (bits_of a) (bits_of b)) (length a)
shared_words a b e = and_both_words (row_words a (length a) refl) (row_words b (length a) (sym e))

pub missing_words : (a b : List ℕ) → length a ≡ length b
    → Words (λ k. bit_xor (get_or a k 0) (bit_and (get_or a k 0) (get_or b k 0))) (bit_xor (bits_of a) (bit_and (bits_of a) (bits_of b))) (length a)
missing_words a b e = less_words (row_words a (length a) refl) (row_words b (length a) (sym e))
