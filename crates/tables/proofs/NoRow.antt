-- Laws of the row of a program of whose open files the others claim nothing. Assumes nothing.
use mathlib.Core.Path.{◌≡◌, sym, ap, ◌∙◌}
use mathlib.Core.Logic.{◌≢◌}
use mathlib.Core.Bool.{Bool, true, false, ◌||◌}
use mathlib.Core.List.{List}
use Prim.Native.Nat.{ℕ, ◌-◌, ◌≤◌}
use native.Mathlib.Omega.{arith}
use lib.Bits.{bit_or}
use lib.Dec.{eqb}
use lib.ListN.{length}
use borrow.Author.Tests.{eqb-true, eqb-false}
use Rattle.files.specs.Sets.{meets}
use Rattle.files.specs.Words.{word_count, set_of, wordwise}
use Rattle.files.proofs.Bits.{share_of, of_share, without-number-same, without-number-other}
use Rattle.files.proofs.Rows.{or_words, length-wordwise}
use Rattle.laws.specs.Tests.{by_test, never, no_true, and_false}
use Rattle.rules.specs.declared.Mode.{Mode}
use Rattle.rules.specs.declared.Mode.TheVariants.{Write, Read, Inquiry}
use Rattle.store.specs.Sets.{Sets, IsStore, claim_place, open_place, row_in, claim_at, open_at, holds_one}
use Rattle.store.proofs.Laws.{claim_place_lem, open_place_lem}
use Rattle.theory.specs.Modes.{by-touching, some_mode_lem}
use Rattle.theory.specs.Programs.{Is}
use Rattle.tables.specs.declared.ProgramSet.{ProgramSet}
use Rattle.tables.specs.declared.shared.Shared.{Shared}
use Rattle.tables.specs.ProgramSets.{no_programs, has_program, without_program}
use Rattle.tables.specs.Shared.{others_of, open_row, in_any_mode, claimed_at, opened_at, in_words, SharedBy}
use Rattle.tables.specs.Tables.{held_by, packed}
use Rattle.tables.proofs.Laws.{packed_none, set_is}
use Rattle.tables.proofs.Sharing.{of_others}

-- three rows, by mode
module _ (g : Mode → List ℕ) (n : (m : Mode) → length (g m) ≡ word_count) where
  two-words : length (wordwise bit_or (g Write) (g Read)) ≡ word_count
  two-words = length-wordwise bit_or (g Write) (g Read) ∙ n Write

  any-words : length (in_any_mode g) ≡ word_count
  any-words = length-wordwise bit_or (wordwise bit_or (g Write) (g Read)) (g Inquiry) ∙ two-words

  -- what is in one of them is in all together
  in_any : (m : Mode) (x : ℕ) → in_words (g m) x ≡ true → in_words (in_any_mode g) x ≡ true
  in_any m x d = or_words (wordwise bit_or (g Write) (g Read)) (g Inquiry) x (two-words ∙ sym (n Inquiry))
      ∙ ap (λ (t : Bool). t || in_words (g Inquiry) x) (or_words (g Write) (g Read) x (n Write ∙ sym (n Read)))
      ∙ some_mode_lem (λ k. in_words (g k) x) m d

-- the rows of a program have as many words as a set
module _ (sets : Sets) (s : IsStore sets) (p : ℕ) (h : 1 ≤ p) (k : p ≤ 32) where
  pub claim_words : (m : Mode) → length (row_in sets (claim_place m (p - 1))) ≡ word_count
  claim_words m = s.words_are (claim_place m (p - 1)) (claim_place_lem m (p - 1) (omega arith))

  pub open_words : (m : Mode) → length (open_row sets m p) ≡ word_count
  open_words m = s.words_are (open_place m (p - 1)) (open_place_lem m (p - 1) (omega arith))

  pub claimed-words : length (claimed_at sets p) ≡ word_count
  claimed-words = any-words (λ m. row_in sets (claim_place m (p - 1))) claim_words

  -- what is open in a mode is open
  in_open : (m : Mode) (x : ℕ) → in_words (open_row sets m p) x ≡ true → in_words (opened_at sets p) x ≡ true
  in_open = in_any (λ m. open_row sets m p) open_words

  -- what is claimed in a mode is claimed
  in_claims : (m : Mode) (x : ℕ) → in_words (row_in sets (claim_place m (p - 1))) x ≡ true → in_words (claimed_at sets p) x ≡ true
  in_claims = in_any (λ m. row_in sets (claim_place m (p - 1))) claim_words

module _ (sets : Sets) (s : IsStore sets) (a : ProgramSet) (k : Shared) (f : SharedBy (claimed_at sets) (has_program a) k) (p : ℕ)
    (e : has_program a p ≡ true) where
  me : Is p
  me = set_is a p e

  abbrev others : List ℕ
  others = others_of k (claimed_at sets p)

  holds-none : meets (set_of (opened_at sets p)) (set_of others) ≡ false → (q : ℕ) → has_program a q ≡ true → q ≢ p → holds_one sets q p ≡ false
  holds-none z q h n = let i = set_is a q h in no_true _ (λ t. by-touching (open_at sets p) (claim_at sets q) t (λ m l _ u.
      let (x, b, c) = of_share (open_at sets p m).bits (claim_at sets q l).bits u in
      never (share_of (set_of (opened_at sets p)).bits (set_of others).bits x (in_open sets s p me.least me.most m x b)
      (of_others (claimed_at sets) (has_program a) k f p e (claimed-words sets s p me.least me.most) q x h n
      (in_claims sets s q i.least i.most l x c))) z))

  pub row-none : meets (set_of (opened_at sets p)) (set_of others) ≡ false → no_programs ≡ packed (held_by sets p (without_program a p)) 32
  row-none z = sym (packed_none (held_by sets p (without_program a p)) 32 (λ q. by_test (eqb q p)
      (λ t. rw (ap (has_program (without_program a p)) (eqb-true q p t) ∙ without-number-same 32 a.bits p))
      (λ t. let n = eqb-false q p t in by_test (has_program a q)
      (λ h. rw (holds-none z q h n) (and_false (has_program (without_program a p) q)))
      (λ h. rw (without-number-other 32 a.bits p q n ∙ h)))))
