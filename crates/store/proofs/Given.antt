-- The sets of a board's programs, with a file given. Assumes nothing.
use mathlib.Core.Path.{◌≡◌, sym, ap, ap₂, ◌∙◌}
use mathlib.Core.Logic.{◌≢◌}
use mathlib.Core.Bool.{true}
use mathlib.Core.List.{List, []}
use Prim.Native.Nat.{ℕ, ◌-◌, ◌/◌, ◌≤◌, ◌<◌}
use native.Mathlib.Omega.{arith}
use lib.Dec.{eqb}
use lib.ListN.{length, get_or, set}
use lib.Seq.{get_or-set_same, get_or-set_other, set-get_or, set-set, set_comm}
use borrow.Author.Tests.{eqb-true, eqb-false}
use Rattle.laws.specs.Tests.{by_test, never}
use Rattle.files.specs.declared.FileSet.{FileSet}
use Rattle.files.specs.Sets.{is_file, adding}
use Rattle.files.proofs.Bits.{most}
use Rattle.files.specs.Words.{set_of, with_file}
use Rattle.files.proofs.Rows.{words_with, length_with}
use Rattle.rules.specs.declared.Program.{Program}
use Rattle.rules.specs.declared.Board.{Board}
use Rattle.rules.specs.declared.Mode.{Mode}
use Rattle.rules.specs.declared.Mode.TheVariants.{Write, Read, Inquiry}
use Rattle.rules.specs.Modes.{is_mode, claim_of, open_of, mode_of}
use Rattle.rules.specs.Boards.{no_program, at, opened, opening}
use Rattle.theory.specs.Modes.{mode_is, opened_claim, opened_open, opened-same}
use Rattle.theory.specs.Programs.{Is, Sized, SameSets}
use Rattle.store.specs.Sets.{place_count, Sets, IsStore, claim_place, open_place, row_in, set_in, in_place, SetsOf, mode_at, joined_in, given_at}
use Rattle.store.proofs.Laws.{claim_apart, open_apart, open_place_lem, put-row, open_is, mode-at}

-- a file joins the set in a place
module _ (sets : Sets) (k f : ℕ) (s : IsStore sets) (h : k < place_count) where
  abbrev joined : List ℕ
  joined = with_file (row_in sets k) f

  -- a file's word is there
  word : is_file f ≡ true → (f - 1) / 64 < length (row_in sets k)
  word e = let m = most 64 f e in let n = s.words_are k h in omega arith

  joined-set : set_of joined ≡ adding (set_in sets k) f
  joined-set = by_test (is_file f) (λ e. words_with (row_in sets k) f (word e)) (λ e. rw e)

  pub joined_store : IsStore (joined_in sets k f)
  joined_store = put-row sets k (with_file (row_in sets k) f) s (length_with (row_in sets k) f ∙ s.words_are k h)

  pub joined-here : set_in (joined_in sets k f) k ≡ adding (set_in sets k) f
  joined-here = ap set_of (get_or-set_same sets k (with_file (row_in sets k) f) [] (omega (arith, h, s.places_are))) ∙ joined-set

  pub joined-there : (j : ℕ) → j ≢ k → set_in (joined_in sets k f) j ≡ set_in sets j
  joined-there j d = ap set_of (get_or-set_other sets k j (with_file (row_in sets k) f) [] d)

-- p is given f
pub given_store : (sets : Sets) (p f : ℕ) → 1 ≤ p → p ≤ 32 → IsStore sets → IsStore (given_at sets p f)
given_store sets p f h k s = joined_store sets (open_place (mode_at sets p f) (p - 1)) f s (open_place_lem (mode_at sets p f) (p - 1) (omega arith))

-- the board d has g in p's place, with the sets of p and f given, and else the programs of c
pub sets-given : (c d : Board) (g : Program) (p f : ℕ) (sets : Sets) → Sized c.programs → Is p → d.programs ≡ set c.programs (p - 1) g
    → SameSets (opening (at c p) f) g → SetsOf c sets → SetsOf d (given_at sets p f)
unfolding opening
sets-given c d g p f sets z i ed k (n, s) = (
  joined_store sets (open_place m (p - 1)) f n (open_place_lem m (p - 1) h),
  λ j l a. by_test (eqb j (p - 1))
      (λ t. let w : j ≡ p - 1 = eqb-true j (p - 1) t in rw w (
        not_open (p - 1) a h ∙ (s (p - 1) h a).0 ∙ sym (opened_claim (mode_of (at c p) f) a (at c p) f) ∙ k.same_claim a
            ∙ sym (ap (claim_of a) here-is),
        now_open a ∙ k.same_open a ∙ sym (ap (open_of a) here-is),
      ))
      (λ t. let w : j ≢ p - 1 = eqb-false j (p - 1) t in let o = sym (there-is j w) in (
        not_open j a l ∙ (s j l a).0 ∙ ap (claim_of a) o,
        joined-there sets (open_place m (p - 1)) f n (open_place_lem m (p - 1) h) (open_place a j) (open_apart j (p - 1) l h a m (λ _. w)) ∙ (s j l a).1
            ∙ ap (open_of a) o,
      )),
)
  where
    m : Mode
    m = mode_at sets p f

    h : p - 1 < 32
    h = let a = i.least in let b = i.most in omega arith

    same-mode-at : m ≡ mode_of (at c p) f
    same-mode-at = mode-at c sets (n, s) p f i.least i.most

    not_open : (j : ℕ) (a : Mode) → j < 32 → set_in (given_at sets p f) (claim_place a j) ≡ set_in sets (claim_place a j)
    not_open j a l = joined-there sets (open_place m (p - 1)) f n (open_place_lem m (p - 1) h) (claim_place a j) (claim_apart j (p - 1) l h a m)

    -- what p has open in a mode, with f given
    now_open : (a : Mode) → set_in (given_at sets p f) (open_place a (p - 1)) ≡ open_of a (opened (mode_of (at c p) f) (at c p) f)
    now_open a = by_test (is_mode a m)
        (λ t. let e = mode_is a m t in
        ap (λ (x : Mode). set_in (given_at sets p f) (open_place x (p - 1))) e
        ∙ joined-here sets (open_place m (p - 1)) f n (open_place_lem m (p - 1) h)
        ∙ ap (λ (x : FileSet). adding x f) (open_is c sets (n, s) p i.least i.most m)
        ∙ sym (opened-same m (at c p) f)
        ∙ ap₂ (λ (x y : Mode). open_of x (opened y (at c p) f)) (sym e) same-mode-at)
        (λ t. joined-there sets (open_place m (p - 1)) f n (open_place_lem m (p - 1) h) (open_place a (p - 1))
        (open_apart (p - 1) (p - 1) h h a m (λ u. never u t))
        ∙ (s (p - 1) h a).1 ∙ sym (opened_open (mode_of (at c p) f) a (at c p) f ∙ rw (ap (is_mode a) (sym same-mode-at) ∙ t)))

    here-is : in_place d (p - 1) ≡ g
    here-is = ap (λ (l : List Program). get_or l (p - 1) no_program) ed ∙ get_or-set_same c.programs (p - 1) g no_program (omega (arith, h, z))

    there-is : (j : ℕ) → j ≢ p - 1 → in_place d j ≡ in_place c j
    there-is j n' = ap (λ (l : List Program). get_or l j no_program) ed ∙ get_or-set_other c.programs (p - 1) j g no_program n'

-- ---- a file given, and the rows put back

module _ (sets : Sets) (p f : ℕ) (h : 1 ≤ p) (k : p ≤ 32) where
  -- the place of what p has open in a mode, and what stands there
  abbrev place : Mode → ℕ
  place m = open_place m (p - 1)

  abbrev row : Mode → List ℕ
  row m = row_in sets (place m)

  -- the three rows as they were
  abbrev back : Sets → Sets
  back l = set (set (set l (place Write) (row Write)) (place Read) (row Read)) (place Inquiry) (row Inquiry)

  rows_back : back sets ≡ sets
  rows_back = ap (λ (l : Sets). set (set l (place Read) (row Read)) (place Inquiry) (row Inquiry)) (set-get_or sets (place Write) [])
      ∙ ap (λ (l : Sets). set l (place Inquiry) (row Inquiry)) (set-get_or sets (place Read) []) ∙ set-get_or sets (place Inquiry) []

  -- a row that is put back was free to change
  back_from : (m : Mode) (x : List ℕ) → back (set sets (place m) x) ≡ sets
  back_from Write x =
      ap (λ (l : Sets). set (set l (place Read) (row Read)) (place Inquiry) (row Inquiry)) (set-set sets (place Write) x (row Write)) ∙ rows_back
  back_from Read x =
      ap (λ (l : Sets). set (set l (place Read) (row Read)) (place Inquiry) (row Inquiry))
      (set_comm sets (place Read) (place Write) x (row Write) (λ e. omega arith))
      ∙ ap (λ (l : Sets). set l (place Inquiry) (row Inquiry)) (set-set (set sets (place Write) (row Write)) (place Read) x (row Read)) ∙ rows_back
  back_from Inquiry x =
      ap (λ (l : Sets). set (set l (place Read) (row Read)) (place Inquiry) (row Inquiry))
      (set_comm sets (place Inquiry) (place Write) x (row Write) (λ e. omega arith))
      ∙ ap (λ (l : Sets). set l (place Inquiry) (row Inquiry))
      (set_comm (set sets (place Write) (row Write)) (place Inquiry) (place Read) x (row Read) (λ e. omega arith))
      ∙ set-set (set (set sets (place Write) (row Write)) (place Read) (row Read)) (place Inquiry) x (row Inquiry) ∙ rows_back

  -- the sets are as they were
  pub given_back : back (given_at sets p f) ≡ sets
  given_back = back_from (mode_at sets p f) (with_file (row_in sets (open_place (mode_at sets p f) (p - 1))) f)
