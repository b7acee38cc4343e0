-- On a board with an order, whose programs are sound by themselves, there is no conflict: two programs in conflict would hold back each
-- other. Assumes nothing.
use Prim.Native.Nat.{ℕ}
use mathlib.Core.Path.{◌≡◌, refl, sym, ap}
use mathlib.Core.Logic.{◌≢◌}
use mathlib.Core.Bool.{true, false, not, ◌&&◌}
use mathlib.Core.List.{[], ◌∷◌}
use lib.Dec.{eqb}
use borrow.Author.Tests.{eqb-true, eqb-false, ne_eqb}
use Rattle.files.specs.declared.FileSet.{FileSet}
use Rattle.files.specs.Sets.{no_files, is_empty, within}
use Rattle.files.proofs.Laws.{◌⊑◌, within_⊑}
use Rattle.laws.specs.Tests.{by_test, never, no_true, true_not, and_left, and_right, and_both, or_left, or_right}
use Rattle.laws.specs.Lists.{all, any, listed, distinct, found}
use Rattle.laws.specs.Laws.{all-each, each_all}
use Rattle.rules.specs.declared.Standing.{Standing}
use Rattle.rules.specs.declared.Program.{Program}
use Rattle.rules.specs.declared.Board.{Board}
use Rattle.rules.specs.declared.Mode.{Mode}
use Rattle.rules.specs.Modes.{each_mode, claim_of, open_of, claims_meet}
use Rattle.rules.specs.Boards.{is_admitted, is_program, everyone, at}
use Rattle.rules.specs.Orders.{conflict, holds_back, carried}
use Rattle.rules.specs.Digraph.{is_in, step, leads_to, closes, is_loop_of}
use Rattle.rules.specs.Soundness.{sets_sound, standing_sound, item_sound, program_sound, no_conflict}
use Rattle.theory.specs.Modes.{mode_each}
use Rattle.theory.specs.Programs.{Is, of_is, mem-everyone, everyone_is, Idle, conflict_sym, conflict-holds, idle_conflict, conflict_idle}
use Rattle.theory.proofs.Digraph.{loop_exists}
use Rattle.sound.specs.Parts.{is_sound_at}

empty_is : (s : FileSet) → is_empty s ≡ true → s ≡ no_files
empty_is s e = ap {B = FileSet} (λ n. record { bits = n }) (eqb-true s.bits 0 e)

-- who is not admitted has nothing open
idle_by : (q : Program) (s : Standing) → standing_sound s q ≡ true → is_admitted s ≡ false → Idle q
unfolding standing_sound
idle_by q Standing.Absent e d = λ m. empty_is _ (mode_each (λ m. is_empty (open_of m q))
    (and_right (each_mode (λ m. is_empty (claim_of m q))) (each_mode (λ m. is_empty (open_of m q))) e) m)
idle_by q Standing.Running e d = never {t = true} refl d
idle_by q (Standing.Waiting f) e d = never {t = true} refl d
idle_by q Standing.Held e d = λ m. empty_is _ (mode_each (λ m. is_empty (open_of m q)) e m)

-- what is open is claimed
inside_by : (q : Program) → sets_sound q ≡ true → (m : Mode) → open_of m q ⊑ claim_of m q
unfolding sets_sound
inside_by q e m = within_⊑ _ _ (mode_each (λ m. within (open_of m q) (claim_of m q))
    (and_left (each_mode (λ m. within (open_of m q) (claim_of m q))) (not (claims_meet q.writable q.readable q.inquirable)) e) m)

-- two that hold back each other are a loop
two_loop : (b : Board) (i j : ℕ) → i ≢ j → step b i j ≡ true → step b j i ≡ true → is_loop_of (step b) (i ∷ (j ∷ [])) ≡ true
unfolding is_loop_of distinct listed any closes leads_to
two_loop b i j n s t = rw (ne_eqb i j n, s, t)

module _ (b : Board) (e : all (is_sound_at b) everyone ≡ true) (o : found (carried b) ≡ true) where
  both : (p : ℕ) → Is p → (sets_sound (at b p) && standing_sound (at b p).standing (at b p)) ≡ true
  unfolding program_sound
  both p i = and_left (sets_sound (at b p) && standing_sound (at b p).standing (at b p)) (item_sound (at b p))
      (all-each (is_sound_at b) everyone e p (mem-everyone p i))

  idle : (p : ℕ) → Is p → is_admitted (at b p).standing ≡ false → Idle (at b p)
  idle p i = idle_by (at b p) (at b p).standing (and_right (sets_sound (at b p)) (standing_sound (at b p).standing (at b p)) (both p i))

  inside : (p : ℕ) → Is p → (m : Mode) → open_of m (at b p) ⊑ claim_of m (at b p)
  inside p i = inside_by (at b p) (and_left (sets_sound (at b p)) (standing_sound (at b p).standing (at b p)) (both p i))

  steps : (i j : ℕ) → Is i → Is j → i ≢ j → is_admitted (at b i).standing ≡ true → is_admitted (at b j).standing ≡ true
      → conflict (at b i) (at b j) ≡ true → step b i j ≡ true
  unfolding step
  steps i j x y n u v t = and_both (not (eqb i j)) ((is_in b i && is_in b j) && holds_back (at b i) (at b j)) (true_not (eqb i j) (ne_eqb i j n))
      (and_both (is_in b i && is_in b j) (holds_back (at b i) (at b j)) (and_both (is_in b i) (is_in b j)
      (and_both (is_program i) (is_admitted (at b i).standing) (of_is i x) u) (and_both (is_program j) (is_admitted (at b j).standing) (of_is j y) v))
      (conflict-holds (at b i) (at b j) (inside j y) t))

  apart : (i j : ℕ) → Is i → Is j → i ≢ j → conflict (at b i) (at b j) ≡ false
  apart i j x y n = no_true (conflict (at b i) (at b j)) (λ t. by_test (is_admitted (at b i).standing)
      (λ u. by_test (is_admitted (at b j).standing)
      (λ v. never o ((loop_exists b).0 (
        i ∷ (j ∷ []),
        two_loop b i j n (steps i j x y n u v t)
            (steps j i y x (λ d. n (sym d)) v u (conflict_sym (at b i) (at b j) t)),
      )))
      (λ v. never t (conflict_idle (at b i) (at b j) (idle j y v))))
      (λ u. never t (idle_conflict (at b i) (at b j) (idle i x u))))

  pub ordered-apart : no_conflict b ≡ true
  unfolding no_conflict
  ordered-apart = each_all _ everyone (λ i m. each_all _ everyone (λ j k. by_test (eqb i j)
      (λ t. or_left (eqb i j) (not (conflict (at b i) (at b j))) t)
      (λ t. or_right (eqb i j) (not (conflict (at b i) (at b j)))
      (true_not (conflict (at b i) (at b j)) (apart i j (everyone_is i m) (everyone_is j k) (eqb-false i j t))))))
