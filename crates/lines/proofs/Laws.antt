-- Laws of the names of a line, and of lists in 32 places. Assumes nothing.
use mathlib.Core.Path.{◌≡◌, refl, sym, ap, ◌∙◌}
use mathlib.Core.Bool.{Bool, true, ◌&&◌}
use mathlib.Core.List.{List, [], ◌∷◌, ◌++◌, append_assoc, append-nil}
use mathlib.Core.Logic.{◌≢◌}
use Prim.Native.Nat.{ℕ, zero, suc, ◌+◌, ◌-◌, ◌≤◌, ◌<◌}
use native.Mathlib.Numerals.{add-one}
use native.Mathlib.Omega.{arith}
use lib.Dec.{eqb}
use lib.ListN.{length, get_or, set, take, drop, replicate, drop_of_length-le, length-append, length-replicate}
use lib.Seq.{drop-cons, set-append_seam}
use borrow.Author.Tests.{eq-eqb, ne_eqb}
use Rattle.laws.specs.Tests.{by_test, and_left, and_right}
use Rattle.laws.specs.Lists.{all, keep, names, padded, without}
use Rattle.files.proofs.Bits.{least, most}
use Rattle.rules.specs.Boards.{is_program}
use Rattle.std.proofs.Common.{Option, None, Some, MatchOption}
use Rattle.std.proofs.lemmas.List.{take_more, length-take-le}

-- ---- the names from place k on

module _ (l : List ℕ) (k : ℕ) where
  pub names-on : k < length l → get_or l k 0 ≢ 0 → names (drop k l) ≡ get_or l k 0 ∷ names (drop (suc k) l)
  unfolding names
  names-on h ne = rw (drop-cons l k 0 h, ne_eqb (get_or l k 0) 0 ne)

  pub names_stop : k < length l → get_or l k 0 ≡ 0 → names (drop k l) ≡ []
  unfolding names
  names_stop h e = rw (drop-cons l k 0 h, eq-eqb (get_or l k 0) 0 e)

  pub names_end : length l ≤ k → names (drop k l) ≡ []
  unfolding names
  names_end h = rw (drop_of_length-le l h)

-- ---- a list in 32 places, with one more

pub padded_push : {A : Type 0} (z : A) (l : List A) (x : A) → length l < 32 → set (padded z l) (length l) x ≡ padded z (l ++ (x ∷ []))
unfolding padded
padded_push z l x h =
    let d : 32 - length l ≡ suc (31 - length l) = omega arith in
    let n : length (l ++ (x ∷ [])) ≡ suc (length l) = length-append l (x ∷ []) ∙ add-one (length l) in
    let e : 32 - suc (length l) ≡ 31 - length l = omega arith in
    rw (d, n, e, set-append_seam l z (replicate (31 - length l) z) x, append_assoc)

pub padded_length : {A : Type 0} (z : A) (l : List A) → length l ≤ 32 → length (padded z l) ≡ 32
unfolding padded
padded_length z l h = length-append l (replicate (32 - length l) z) ∙ ap (λ (n : ℕ). length l + n) (length-replicate (32 - length l) z) ∙ omega arith

-- ---- a line without a name

-- before the first 0 stand the names
pub names_before : (l : List ℕ) (k : ℕ) → k ≤ length l → ((j : ℕ) → j < k → get_or l j 0 ≢ 0) → (k < length l → get_or l k 0 ≡ 0)
    → names l ≡ take k l
unfolding names
names_before [] zero h f z = refl
names_before [] (suc k) h f z = absurd (omega arith)
names_before (x ∷ l) zero h f z = let e : x ≡ 0 = z (omega arith) in rw (eq-eqb x 0 e)
names_before (x ∷ l) (suc k) h f z =
    let ne : x ≢ 0 = f 0 (omega arith) in
    rw (ne_eqb x 0 ne) (ap (λ (r : List ℕ). x ∷ r)
    (names_before l k (omega arith) (λ j i. f (suc j) (omega arith)) (λ i. z (omega arith))))

-- the place of the first 0, or the end, is how many names there are
pub names_counted : (l : List ℕ) (r : Option ℕ) (n : ℕ) → length l ≡ 32 → MatchOption r (n ≡ 32) (λ k. n ≡ k)
    → MatchOption r ((j : ℕ) → j < length l → get_or l j 0 ≢ 0)
    (λ k. (k < length l) × (get_or l k 0 ≡ 0) × ((j : ℕ) → j < k → get_or l j 0 ≢ 0))
    → (n ≡ length (names l)) × (n ≤ 32)
names_counted l None n s u f =
    let e = names_before l 32 (omega arith) (λ j h. f j (omega arith)) (λ h. absurd (omega arith)) in
    let t = ap length e ∙ length-take-le 32 l (omega arith) in (omega arith, omega arith)
names_counted l (Some k) n s u f =
    let e = names_before l k (omega (arith, f.0)) f.2 (λ h. f.1) in
    let t = ap length e ∙ length-take-le k l (omega arith) in (omega arith, omega arith)

module _ (p : ℕ) where
  without-append : (a b : List ℕ) → without p (a ++ b) ≡ without p a ++ without p b
  unfolding without keep
  without-append [] b = refl
  without-append (x ∷ a) b =
      by_test (eqb x p) (λ e. rw e (without-append a b)) (λ e. rw e (ap (λ (r : List ℕ). x ∷ r) (without-append a b)))

  pub without_short : (l : List ℕ) → length (without p l) ≤ length l
  unfolding without keep
  without_short [] = omega arith
  without_short (x ∷ l) =
      let h = without_short l in by_test (eqb x p) (λ e. rw e (omega arith)) (λ e. rw e (omega arith))

  -- kept has what is before place k but p, and n is how many
  pub record KeptTo (l : List ℕ) (k : ℕ) (kept : List ℕ) (n : ℕ) : Type 0 where
    pub line_is : kept ≡ padded 0 (without p (take k l))
    pub count_is : n ≡ length (without p (take k l))

  module _ (l : List ℕ) (k : ℕ) (s : length l ≡ 32) (kept : List ℕ) (n : ℕ) (t : KeptTo l k kept n) where
    -- as many are kept as there were, at most
    pub kept_short : k ≤ 32 → n ≤ k
    kept_short h = omega (arith, t.count_is, without_short (take k l), length-take-le k l (omega arith))

    -- one place more: p is left out, and any other name is kept
    pub kept_p : k < 32 → get_or l k 0 ≡ p → KeptTo l (k + 1) kept n
    unfolding without keep
    kept_p h e = record { line_is = t.line_is ∙ ap (padded 0) same; count_is = t.count_is ∙ ap length same }
      where
        same : without p (take k l) ≡ without p (take (k + 1) l)
        same =
            let i : k < length l = omega arith in
            sym (rw (take_more l k 0 i, without-append (take k l) (get_or l k 0 ∷ []), eq-eqb (get_or l k 0) p e) (append-nil (without p (take k l))))

    pub kept_other : k < 32 → get_or l k 0 ≢ p → KeptTo l (k + 1) (set kept n (get_or l k 0)) (n + 1)
    unfolding without keep
    kept_other h e = record {
      line_is = rw (t.line_is, t.count_is, more) (padded_push 0 (without p (take k l)) (get_or l k 0) (omega (arith, t.count_is, kept_short (omega arith))));
      count_is = rw (t.count_is, more) (sym (length-append (without p (take k l)) (get_or l k 0 ∷ [])));
    }
      where
        more : without p (take (k + 1) l) ≡ without p (take k l) ++ (get_or l k 0 ∷ [])
        more =
            let i : k < length l = omega arith in
            rw (take_more l k 0 i, without-append (take k l) (get_or l k 0 ∷ []), ne_eqb (get_or l k 0) p e) refl

-- ---- steps of the tests of a line

module _ (l : List ℕ) (k : ℕ) where
  pub all-names-on : (t : ℕ → Bool) → k < length l → get_or l k 0 ≢ 0 → all t (names (drop k l)) ≡ (t (get_or l k 0) && all t (names (drop (suc k) l)))
  unfolding all
  all-names-on t h ne = rw (names-on l k h ne)

  pub all-names_stop : (t : ℕ → Bool) → k < length l → get_or l k 0 ≡ 0 → all t (names (drop k l)) ≡ true
  unfolding all
  all-names_stop t h e = rw (names_stop l k h e)

  pub all-names_end : (t : ℕ → Bool) → length l ≤ k → all t (names (drop k l)) ≡ true
  unfolding all
  all-names_end t h = rw (names_end l k h)

-- one more name at the end of a line
pub push_is : (l : List ℕ) (p : ℕ) → l ≡ padded 0 (names l) → length (names l) < 32 → set l (length (names l)) p ≡ padded 0 (names l ++ (p ∷ []))
push_is l p e h = ap (λ (x : List ℕ). set x (length (names l)) p) e ∙ padded_push 0 (names l) p h

-- ---- names that are programs

pub program_range : (p : ℕ) → is_program p ≡ true → (1 ≤ p) × (p ≤ 32)
program_range p e = (least 32 p e, most 32 p e)

-- the first name of what is left of a line is a program
pub name_range : (l : List ℕ) (k : ℕ) → k < length l → get_or l k 0 ≢ 0 → all is_program (names (drop k l)) ≡ true → (1 ≤ get_or l k 0) × (get_or l k 0 ≤ 32)
name_range l k h ne e = program_range (get_or l k 0) (and_left (is_program (get_or l k 0))
    (all is_program (names (drop (suc k) l))) (sym (all-names-on l k is_program h ne) ∙ e))

-- and so are the others
pub names_left : (t : ℕ → Bool) (l : List ℕ) (k : ℕ) → k < length l → get_or l k 0 ≢ 0 → all t (names (drop k l)) ≡ true
    → all t (names (drop (suc k) l)) ≡ true
names_left t l k h ne e = and_right (t (get_or l k 0)) (all t (names (drop (suc k) l))) (sym (all-names-on l k t h ne) ∙ e)
