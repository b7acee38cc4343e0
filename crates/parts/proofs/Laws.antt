-- The table of modes, as the code computes it.
-- Assumes nothing.
use Prim.Native.Nat.{ℕ, ◌^◌, ◌<◌}
use mathlib.Core.Path.{◌≡◌, refl, sym, ap, ap₂, ◌∙◌}
use mathlib.Core.Bool.{Bool, true, false, not, ◌||◌}
use mathlib.Core.List.{List}
use lib.Bits.{bit_and, bit_or, and_lt, or_lt}
use lib.Dec.{eqb}
use lib.ListN.{length, get_or}
use Rattle.files.specs.declared.FileSet.{FileSet}
use Rattle.files.specs.Bits.{has_bit, share}
use Rattle.files.specs.Sets.{meets}
use Rattle.files.specs.Words.{bits_of}
use Rattle.files.proofs.Bits.{or_none, or_has, share_of, of_share}
use Rattle.laws.specs.Tests.{same_test, or_cases, or_left, or_right}
use Rattle.files.proofs.Rows.{Words, row_words, and_both_words, or_both_words}
use Rattle.rules.specs.Modes.{by_mode, touching, touching_is}
use Rattle.parts.specs.Modes.{clashes, SameLengths}

-- two sets joined meet a third exactly when one of them does
join_meets : (a b c : ℕ) → share (bit_or a b) c ≡ (share a c || share b c)
join_meets a b c = same_test (share (bit_or a b) c) (share a c || share b c)
    (λ e. let (k, x, y) = of_share (bit_or a b) c e in or_cases (has_bit a k) (has_bit b k) (sym (or_has a b k) ∙ x)
    (λ u. or_left (share a c) (share b c) (share_of a c k u y)) (λ u. or_right (share a c) (share b c) (share_of b c k u y)))
    (λ e. or_cases (share a c) (share b c) e
    (λ u. let (k, x, y) = of_share a c u in share_of (bit_or a b) c k (or_has a b k ∙ or_left (has_bit a k) (has_bit b k) x) y)
    (λ u. let (k, x, y) = of_share b c u in share_of (bit_or a b) c k (or_has a b k ∙ or_right (has_bit a k) (has_bit b k) x) y))

-- the same tests by columns and by rows
regrouped : (wv rv iv wq iq wj rj : Bool)
    → ((((wv || rv) || iv) || (wq || iq)) || (wj || rj)) ≡ ((wv || wq || wj) || (rv || rj) || (iv || iq))
regrouped true rv iv wq iq wj rj = refl
regrouped false true iv true iq wj rj = refl
regrouped false true iv false iq true rj = refl
regrouped false true iv false iq false rj = refl
regrouped false false true true iq wj rj = refl
regrouped false false true false iq true rj = refl
regrouped false false true false iq false true = refl
regrouped false false true false iq false false = refl
regrouped false false false true iq wj rj = refl
regrouped false false false false true true rj = refl
regrouped false false false false true false true = refl
regrouped false false false false true false false = refl
regrouped false false false false false true rj = refl
regrouped false false false false false false true = refl
regrouped false false false false false false false = refl

-- some file is in it exactly when the sets touch
pub clashes_touch : (w r i v q j : FileSet)
    → not (eqb (clashes w.bits r.bits i.bits v.bits q.bits j.bits) 0) ≡ touching (by_mode w r i) (by_mode v q j)
clashes_touch w r i v q j =
    or_none (bit_or a b) c
    ∙ ap (λ (x : Bool). x || not (eqb c 0)) (or_none a b)
    ∙ ap₂ (λ (x y : Bool). x || y) (ap₂ (λ (x y : Bool). x || y)
    (join_meets (bit_or w.bits r.bits) i.bits v.bits ∙ ap (λ (x : Bool). x || meets i v) (join_meets w.bits r.bits v.bits))
    (join_meets w.bits i.bits q.bits)) (join_meets w.bits r.bits j.bits)
    ∙ regrouped (meets w v) (meets r v) (meets i v) (meets w q) (meets i q) (meets w j) (meets r j)
    ∙ sym (touching_is (by_mode w r i) (by_mode v q j))
  where
    a : ℕ
    a = bit_and (bit_or (bit_or w.bits r.bits) i.bits) v.bits

    b : ℕ
    b = bit_and (bit_or w.bits i.bits) q.bits

    c : ℕ
    c = bit_and (bit_or w.bits r.bits) j.bits

-- the same of rows, word by word
pub clash-words : (w r i v q j : List ℕ) → SameLengths w r i v q j
    → Words (λ k. clashes (get_or w k 0) (get_or r k 0) (get_or i k 0) (get_or v k 0) (get_or q k 0) (get_or j k 0))
    (clashes (bits_of w) (bits_of r) (bits_of i) (bits_of v) (bits_of q) (bits_of j)) (length w)
clash-words w r i v q j n =
    let a = row_words w (length w) refl in let b = row_words r (length w) n.of-r in let c = row_words i (length w) n.of-i in
    let x = row_words v (length w) n.of-v in let y = row_words q (length w) n.of-q in let z = row_words j (length w) n.of-j in
    or_both_words (or_both_words (and_both_words (or_both_words (or_both_words a b) c) x) (and_both_words (or_both_words a c) y))
    (and_both_words (or_both_words a b) z)

-- it is a word if the six are
pub clash_word : (w r i v q j : ℕ) → w < 2 ^ 64 → r < 2 ^ 64 → i < 2 ^ 64 → v < 2 ^ 64 → q < 2 ^ 64 → j < 2 ^ 64 → clashes w r i v q j < 2 ^ 64
clash_word w r i v q j a b c x y z =
    or_lt 64 _ (bit_and (bit_or w r) j) (or_lt 64 (bit_and (bit_or (bit_or w r) i) v) (bit_and (bit_or w i) q)
    (and_lt 64 (bit_or (bit_or w r) i) v (or_lt 64 (bit_or w r) i (or_lt 64 w r a b) c) x) (and_lt 64 (bit_or w i) q (or_lt 64 w i a c) y))
    (and_lt 64 (bit_or w r) j (or_lt 64 w r a b) z)
