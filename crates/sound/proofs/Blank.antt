-- Laws of lines that name nobody, and of programs that have no sets. Assumes nothing.
use mathlib.Core.Path.{◌≡◌, refl, sym, ap, ◌∙◌}
use mathlib.Core.Bool.{Bool, true, false, not, ◌&&◌, ◌||◌}
use mathlib.Core.List.{List, [], ◌∷◌}
use Prim.Native.Nat.{ℕ, ◌<◌, ◌^◌}
use native.Mathlib.Omega.{arith}
use lib.Bits.{bit_and, bit_or, and_le_l}
use lib.Dec.{eqb}
use Rattle.std.specs.Prelude.{fold}
use lib.ListN.{length, replicate}
use borrow.Author.Tests.{eq-eqb, eqb-true}
use Rattle.laws.specs.Tests.{by_test, and_left, and_right, and_both, and_true, and_false}
use Rattle.files.specs.Bits.{covers}
use Rattle.files.specs.Sets.{is_empty, within}
use Rattle.files.proofs.Bits.{or_none, zero_share}
use Rattle.rules.specs.declared.Standing.{Standing}
use Rattle.rules.specs.declared.Program.{Program}
use Rattle.laws.specs.Lists.{all, names, same, padded}
use Rattle.rules.specs.declared.Mode.TheVariants.{Write, Read}
use Rattle.rules.specs.Modes.{each_mode, claim_of, open_of}
use Rattle.rules.specs.Soundness.{sets_sound, standing_sound, line_sound}
use Rattle.theory.specs.Modes.{each_mode_lem, mode_each}
use Rattle.tables.specs.declared.ProgramSet.{ProgramSet}
use Rattle.tables.specs.ProgramSets.{has_program}
use Rattle.sound.specs.Parts.{takes}
use Rattle.sound.proofs.Taken.{takes_is}

-- x is 0
abbrev pub none : ℕ → Bool
none x = eqb x 0

or_zero : (a b : ℕ) → eqb (bit_or a b) 0 ≡ (eqb a 0 && eqb b 0)
or_zero a b = both (eqb (bit_or a b) 0) (eqb a 0) (eqb b 0) (or_none a b)
  where
    both : (x y z : Bool) → not x ≡ (not y || not z) → x ≡ (y && z)
    both true true true e = refl
    both true true false e = sym e
    both true false z e = sym e
    both false true true e = sym e
    both false true false e = refl
    both false false z e = refl

pub and_assoc : (x y z : Bool) → (x && y && z) ≡ (x && (y && z))
and_assoc true y z = refl
and_assoc false y z = refl

-- the bits of all places, and of m
fold-or : (m : ℕ) (l : List ℕ) → eqb (fold bit_or m l) 0 ≡ (eqb m 0 && all none l)
unfolding all
fold-or m [] = sym (and_true (eqb m 0))
fold-or m (x ∷ l) = fold-or (bit_or m x) l ∙ ap (λ (y : Bool). y && all none l) (or_zero m x) ∙ and_assoc (eqb m 0) (eqb x 0) (all none l)

pub blank_fold : (l : List ℕ) → eqb (fold bit_or 0 l) 0 ≡ all none l
blank_fold l = fold-or 0 l

zeros : (l : List ℕ) → all none l ≡ true → l ≡ replicate (length l) 0
unfolding all
zeros [] e = refl
zeros (x ∷ l) e = let z : x ≡ 0 = eqb-true x 0 (and_left (eqb x 0) (all none l) e) in
    rw z (ap (λ (y : List ℕ). 0 ∷ y) (zeros l (and_right (eqb x 0) (all none l) e)))

-- a line that names nobody is sound if there is nobody to name
pub blank_line : (l : List ℕ) (s : ProgramSet) → s.bits < 2 ^ 32 → length l ≡ 32 → all none l ≡ true → eqb s.bits 0 ≡ line_sound l (has_program s)
unfolding line_sound takes names same padded
blank_line l s h n e = let z : l ≡ replicate 32 0 = zeros l e ∙ ap (λ (x : ℕ). replicate x 0) n in
    rw z (takes_is [] s h ∙ sym (and_true _))

-- ---- programs by their standings

module _ (q : Program) where
  abbrev claims_none : Bool
  claims_none = each_mode (λ m. is_empty (claim_of m q))

  abbrev opens_none : Bool
  opens_none = each_mode (λ m. is_empty (open_of m q))

  -- a program that has no sets is sound by itself
  nothing-sound : claims_none ≡ true → opens_none ≡ true → sets_sound q ≡ true
  unfolding sets_sound
  nothing-sound e d =
      let c = mode_each (λ m. is_empty (claim_of m q)) e in
      let v : q.writable.bits ≡ 0 = eqb-true q.writable.bits 0 (c Write) in
      let r : q.readable.bits ≡ 0 = eqb-true q.readable.bits 0 (c Read) in
      and_both _ _ (each_mode_lem (λ m. within (open_of m q) (claim_of m q)) (λ m. none_within (open_of m q).bits (claim_of m q).bits
      (eqb-true (open_of m q).bits 0 (mode_each (λ m. is_empty (open_of m q)) d m))))
      (rw (
        zero_share q.writable.bits q.readable.bits v,
        zero_share q.writable.bits q.inquirable.bits v,
        zero_share q.readable.bits q.inquirable.bits r,
      ))
    where
      none_within : (a b : ℕ) → a ≡ 0 → covers a b ≡ true
      none_within a b e = eq-eqb (bit_and a b) a (omega (arith, and_le_l a b))

  -- so an absent program is sound by itself if it has no sets
  pub sound_absent : (sets_sound q && standing_sound Standing.Absent q) ≡ (claims_none && opens_none)
  unfolding standing_sound
  sound_absent = by_test claims_none
      (λ e. by_test opens_none (λ d. rw (nothing-sound e d) refl) (λ d. rw (e, d) (and_false (sets_sound q))))
      (λ e. rw e (and_false (sets_sound q)))

  -- a held one if it has nothing open, and its sets are sound
  pub sound_held : (sets_sound q && standing_sound Standing.Held q) ≡ (opens_none && sets_sound q)
  unfolding standing_sound
  sound_held = by_test opens_none (λ d. rw d (and_true (sets_sound q))) (λ d. rw d (and_false (sets_sound q)))

-- and an admitted one if its sets are
pub sound_admitted : (t : Bool) → t && true ≡ t
sound_admitted t = and_true t
