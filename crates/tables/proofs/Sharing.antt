-- Laws of the files that some programs have and that two of them have: what the others have than one of them. Assumes nothing.
use mathlib.Core.Path.{◌≡◌, refl, sym, ap, ◌∙◌}
use mathlib.Core.Logic.{◌≢◌}
use mathlib.Core.Bool.{Bool, true, false, not, ◌&&◌, ◌||◌}
use mathlib.Core.List.{List}
use Prim.Native.Nat.{ℕ, zero, suc, ◌+◌, ◌-◌, ◌≤◌}
use native.Mathlib.Omega.{arith}
use lib.Bits.{bit_and, bit_or}
use lib.Dec.{eqb, leb}
use lib.ListN.{length, length-replicate}
use borrow.Author.Tests.{eqb-true, eqb-false, ne_eqb, leb-true, le-leb}
use Rattle.files.specs.declared.FileSet.{FileSet}
use Rattle.files.specs.Bits.{has_bit, less_bits}
use Rattle.files.specs.Sets.{member, is_file}
use Rattle.files.specs.Words.{word_count, set_of, wordwise}
use Rattle.files.proofs.Bits.{zero_has, has-number, has-bit}
use Rattle.files.proofs.Rows.{or_words, and_words, but_words, length-wordwise, no_words}
use Rattle.laws.specs.Tests.{by_test, never, no_true, not_true, true_not, same_test, and_left, and_right, and_both, or_cases, or_left, or_right}
use Rattle.laws.specs.Lists.{any}
use Rattle.laws.specs.Laws.{any_some, some-any}
use Rattle.rules.specs.declared.Mode.{Mode}
use Rattle.rules.specs.declared.Mode.TheVariants.{Write, Read, Inquiry}
use Rattle.rules.specs.Boards.{is_program, everyone}
use Rattle.store.specs.Sets.{Sets}
use Rattle.theory.specs.Programs.{is_of, of_is, mem-everyone, everyone_is}
use Rattle.tables.specs.declared.shared.Shared.{Shared}
use Rattle.tables.specs.Shared.{none_shared, sharing, shared_to, open_in, open_row, opened_in, others_of, in_words, SharedBy}

-- what all have open in a mode, by the sets
pub open_in_lem : (sets : Sets) (m : Mode) → open_in m (opened_in sets) ≡ (shared_to (open_row sets m) 32).once
open_in_lem sets Write = refl
open_in_lem sets Read = refl
open_in_lem sets Inquiry = refl

-- nothing is in no words
no_word : (x : ℕ) → in_words none_shared.once x ≡ false
no_word x = ap (λ (s : FileSet). has_bit s.bits x) (no_words word_count) ∙ zero_has x

module _ (g : ℕ → List ℕ) where
  abbrev has : ℕ → ℕ → Bool
  has p x = in_words (g p) x

  -- ---- one program after another

  pub shared_none : (t : ℕ → Bool) → ((p : ℕ) → t p ≡ false) → SharedBy g t none_shared
  shared_none t f = record {
    once-words = length-replicate {A = ℕ} word_count 0;
    twice-words = length-replicate {A = ℕ} word_count 0;
    once_is = λ x. (λ e. never e (no_word x), λ (p, a, b). never a (f p));
    twice-is = λ x. (λ e. never e (no_word x), λ (p, q, n, a, b, c, d). never a (f p));
  }

  pub shared_same : (t u : ℕ → Bool) (k : Shared) → ((p : ℕ) → t p ≡ u p) → SharedBy g t k → SharedBy g u k
  shared_same t u k f s = record {
    once-words = s.once-words;
    twice-words = s.twice-words;
    once_is = λ x. (λ e. let (p, a, b) = (s.once_is x).0 e in (p, sym (f p) ∙ a, b), λ (p, a, b). (s.once_is x).1 (p, f p ∙ a, b));
    twice-is = λ x. (
      λ e. let (p, q, n, a, b, c, d) = (s.twice-is x).0 e in (p, q, n, sym (f p) ∙ a, sym (f q) ∙ b, c, d),
      λ (p, q, n, a, b, c, d). (s.twice-is x).1 (p, q, n, f p ∙ a, f q ∙ b, c, d),
    );
  }

  -- p comes to those that passed the test
  module _ (t u : ℕ → Bool) (p : ℕ) (k : Shared) (w : length (g p) ≡ word_count) (out : t p ≡ false) (now : u p ≡ true)
      (rest : (q : ℕ) → q ≢ p → u q ≡ t q) (s : SharedBy g t k) where
    abbrev common : List ℕ
    common = wordwise bit_and k.once (g p)

    common-words : length common ≡ word_count
    common-words = length-wordwise bit_and k.once (g p) ∙ s.once-words

    once_or : (x : ℕ) → in_words (sharing k (g p)).once x ≡ (in_words k.once x || has p x)
    once_or x = or_words k.once (g p) x (s.once-words ∙ sym w)

    both_and : (x : ℕ) → in_words common x ≡ (in_words k.once x && has p x)
    both_and x = and_words k.once (g p) x (s.once-words ∙ sym w)

    twice_or : (x : ℕ) → in_words (sharing k (g p)).twice x ≡ (in_words k.twice x || in_words common x)
    twice_or x = or_words k.twice common x (s.twice-words ∙ sym common-words)

    other : (q : ℕ) → t q ≡ true → q ≢ p
    other q e z = never (ap t (sym z) ∙ e) out

    still : (q : ℕ) → t q ≡ true → u q ≡ true
    still q e = rest q (other q e) ∙ e

    before : (q : ℕ) → q ≢ p → u q ≡ true → t q ≡ true
    before q n e = sym (rest q n) ∙ e

    at_p : (q x : ℕ) → q ≡ p → has q x ≡ true → has p x ≡ true
    at_p q x z e = ap (λ (y : ℕ). has y x) (sym z) ∙ e

    with_p : (x q : ℕ) → t q ≡ true → has q x ≡ true → has p x ≡ true → in_words (sharing k (g p)).twice x ≡ true
    with_p x q a e d = twice_or x ∙ or_right (in_words k.twice x) _
        (both_and x ∙ and_both (in_words k.once x) (has p x) ((s.once_is x).1 (q, a, e)) d)

    two-more : (x q r : ℕ) → q ≢ r → u q ≡ true → u r ≡ true → has q x ≡ true → has r x ≡ true → in_words (sharing k (g p)).twice x ≡ true
    two-more x q r n a b c d = by_test (eqb q p)
        (λ e. let z = eqb-true q p e in with_p x r (before r (λ y. n (z ∙ sym y)) b) d (at_p q x z c))
        (λ e. by_test (eqb r p) (λ f. with_p x q (before q (eqb-false q p e) a) c (at_p r x (eqb-true r p f) d))
        (λ f. twice_or x ∙ or_left (in_words k.twice x) _
        ((s.twice-is x).1 (q, r, n, before q (eqb-false q p e) a, before r (eqb-false r p f) b, c, d))))

    pub shared_more : SharedBy g u (sharing k (g p))
    shared_more = record {
      once-words = length-wordwise bit_or k.once (g p) ∙ s.once-words;
      twice-words = length-wordwise bit_or k.twice common ∙ s.twice-words;
      once_is = λ x. (
        λ e. or_cases (in_words k.once x) (has p x) (sym (once_or x) ∙ e)
            (λ a. let (q, b, c) = (s.once_is x).0 a in (q, still q b, c)) (λ a. (p, now, a)),
        λ (q, a, b). once_or x ∙ by_test (eqb q p)
            (λ e. or_right (in_words k.once x) (has p x) (at_p q x (eqb-true q p e) b))
            (λ e. or_left (in_words k.once x) (has p x) ((s.once_is x).1 (q, before q (eqb-false q p e) a, b))),
      );
      twice-is = λ x. (
        λ e. or_cases (in_words k.twice x) (in_words common x)
            (sym (twice_or x) ∙ e)
            (λ a. let (q, r, n, b, c, d, f) = (s.twice-is x).0 a in (q, r, n, still q b, still r c, d, f))
            (λ a. let v = sym (both_and x) ∙ a in
            let (q, b, c) = (s.once_is x).0 (and_left (in_words k.once x) (has p x) v) in
            (q, p, other q b, still q b, now, c, and_right (in_words k.once x) (has p x) v)),
        λ (q, r, n, a, b, c, d). two-more x q r n a b c d,
      );
    }

  -- of 1 to n
  pub shared_to_lem : (n : ℕ) → ((p : ℕ) → 1 ≤ p → p ≤ n → length (g p) ≡ word_count) → SharedBy g (λ p. leb 1 p && leb p n) (shared_to g n)
  unfolding shared_to
  shared_to_lem zero w = shared_none _ (λ p. no_true _ (λ e. let a = leb-true 1 p (and_left (leb 1 p) (leb p 0) e) in
      let b = leb-true p 0 (and_right (leb 1 p) (leb p 0) e) in omega arith))
  shared_to_lem (suc n) w = shared_more (λ p. leb 1 p && leb p n) (λ p. leb 1 p && leb p (suc n)) (suc n) (shared_to g n)
      (w (suc n) (omega arith) (omega arith))
      (no_true _ (λ e. let b = leb-true (suc n) n (and_right (leb 1 (suc n)) (leb (suc n) n) e) in omega arith))
      (and_both (leb 1 (suc n)) (leb (suc n) (suc n)) (le-leb 1 (suc n) (omega arith)) (le-leb (suc n) (suc n) (omega arith)))
      (λ q d. ap (λ (w : Bool). leb 1 q && w) (same_test (leb q (suc n)) (leb q n)
      (λ e. let a = leb-true q (suc n) e in le-leb q n (omega arith)) (λ e. let a = leb-true q n e in le-leb q (suc n) (omega arith))))
      (shared_to_lem n (λ p h k. w p h (omega arith)))

  -- and of 1 to p
  pub to_more : (p : ℕ) (k r : Shared) → 1 ≤ p → k ≡ shared_to g (p - 1) → r ≡ sharing k (g p) → r ≡ shared_to g (p + 1 - 1)
  unfolding shared_to
  to_more zero k r h e d = absurd (omega arith)
  to_more (suc p) k r h e d =
      let a : suc p + 1 - 1 ≡ suc p = omega arith in let z : suc p - 1 ≡ p = omega arith in
      rw a (d ∙ ap (λ (x : Shared). sharing x (g (suc p))) (e ∙ ap (shared_to g) z))

  pub once_more : (p : ℕ) (w : List ℕ) → 1 ≤ p → w ≡ (shared_to g (p - 1)).once → wordwise bit_or w (g p) ≡ (shared_to g (p + 1 - 1)).once
  once_more p w h e = ap (λ (x : List ℕ). wordwise bit_or x (g p)) e
      ∙ ap (λ (k : Shared). k.once) (to_more p (shared_to g (p - 1)) (sharing (shared_to g (p - 1)) (g p)) h refl refl)

  -- ---- the others than p

  module _ (t : ℕ → Bool) (k : Shared) (s : SharedBy g t k) (p : ℕ) (e : t p ≡ true) (w : length (g p) ≡ word_count) where
    abbrev rest : List ℕ
    rest = wordwise less_bits k.once (g p)

    less : (x : ℕ) → in_words rest x ≡ (in_words k.once x && not (has p x))
    less x = but_words k.once (g p) x (s.once-words ∙ sym w)

    theirs_or : (x : ℕ) → in_words (others_of k (g p)) x ≡ (in_words k.twice x || in_words rest x)
    theirs_or x = or_words k.twice rest x (s.twice-words ∙ sym (length-wordwise less_bits k.once (g p) ∙ s.once-words))

    -- what another has
    pub of_others : (q x : ℕ) → t q ≡ true → q ≢ p → has q x ≡ true → in_words (others_of k (g p)) x ≡ true
    of_others q x a n b = theirs_or x ∙ by_test (has p x)
        (λ c. or_left (in_words k.twice x) _ ((s.twice-is x).1 (q, p, n, a, e, b, c)))
        (λ c. or_right (in_words k.twice x) _ (less x ∙ rw ((s.once_is x).1 (q, a, b), c)))

  -- ---- of all programs

  module _ (p : ℕ) (c : is_program p ≡ true) (w : (q : ℕ) → 1 ≤ q → q ≤ 32 → length (g q) ≡ word_count) where
    abbrev all : FileSet
    all = set_of (shared_to g 32).once

    -- a test of another program
    abbrev another : (FileSet → Bool) → ℕ → Bool
    another t i = not (eqb i p) && t (set_of (g i))

    some-other : (t : FileSet → Bool) (i : ℕ) → is_program i ≡ true → i ≢ p → t (set_of (g i)) ≡ true → any (another t) everyone ≡ true
    some-other t i a n b = some-any (another t) everyone i (mem-everyone i (is_of i a))
        (and_both (not (eqb i p)) (t (set_of (g i))) (true_not (eqb i p) (ne_eqb i p n)) b)

    other-some : (t : FileSet → Bool) → any (another t) everyone ≡ true → (i : ℕ) × (is_program i ≡ true) × (i ≢ p) × (t (set_of (g i)) ≡ true)
    other-some t e = let (i, m, b) = any_some (another t) everyone e in (
      i,
      of_is i (everyone_is i m),
      eqb-false i p (not_true (eqb i p) (and_left (not (eqb i p)) (t (set_of (g i))) b)),
      and_right (not (eqb i p)) (t (set_of (g i))) b,
    )

    -- a file that p has not: some program has it exactly if another has
    pub some-member : (f : ℕ) → member (set_of (g p)) f ≡ false → member all f ≡ any (λ i. not (eqb i p) && member (set_of (g i)) f) everyone
    some-member f out = same_test (member all f) _
        (λ e. let (i, a, b) = ((shared_to_lem 32 w).once_is (f - 1)).0 (has-bit 64 all.bits f e) in
        let m = and_both (is_file f) (has i (f - 1)) (has-number 64 all.bits f e) b in
        some-other (λ s. member s f) i a (λ z. never (ap (λ (x : ℕ). member (set_of (g x)) f) (sym z) ∙ m) out) m)
        (λ e. let (i, a, n, b) = other-some (λ s. member s f) e in
        and_both (is_file f) (has_bit all.bits (f - 1)) (has-number 64 (set_of (g i)).bits f b)
        (((shared_to_lem 32 w).once_is (f - 1)).1 (i, a, has-bit 64 (set_of (g i)).bits f b)))
