-- The sets of a board's programs in an array that is lent and not copied: in each place the words of a set.
-- Which place has which set is said here alone.
-- Assumes nothing.
use Rattle.std.specs.Prelude.{ℕ, ◌+◌, ◌-◌, ◌<◌, ◌≡◌, ◌≢◌, Bool, cond, ◌&&◌, eqb, List, [], get_or, set}
use Rattle.laws.specs.Tables.{IsTable}
use Rattle.files.specs.declared.FileSet.{FileSet}
use Rattle.files.specs.Sets.{member}
use Rattle.files.specs.Words.{word_count, set_of, with_file, without_file}
use Rattle.rules.specs.declared.Program.{Program}
use Rattle.rules.specs.declared.Board.{Board}
use Rattle.rules.specs.declared.Mode.{Mode}
use Rattle.rules.specs.declared.Mode.TheVariants.{Write, Read, Inquiry}
use Rattle.rules.specs.Modes.{clashing, some_mode, claim_of, open_of, touching}
use Rattle.rules.specs.Boards.{no_program}

abbrev pub Sets : Type 0
Sets = List (List ℕ)

-- how many places there are: V, Q, J, W, R and I of each program
abbrev pub place_count : ℕ
place_count = 192

-- these places, and as many words in each as a set has
abbrev pub IsStore : Sets → Type 0
IsStore sets = IsTable place_count word_count sets

-- ---- places

-- the place of a claim of the program at index i: V, then Q, then J
abbrev pub claim_place : Mode → ℕ → ℕ
claim_place Write i = i
claim_place Read i = 32 + i
claim_place Inquiry i = 64 + i

-- and of what it has open: W, then R, then I
abbrev pub open_place : Mode → ℕ → ℕ
open_place Write i = 96 + i
open_place Read i = 128 + i
open_place Inquiry i = 160 + i

-- the words in a place
abbrev pub row_in : Sets → ℕ → List ℕ
row_in sets k = get_or sets k []

-- the set in a place
abbrev pub set_in : Sets → ℕ → FileSet
set_in sets k = set_of (row_in sets k)

-- ---- the sets of a board

-- the program at index i
abbrev pub in_place : Board → ℕ → Program
in_place b i = get_or b.programs i no_program

-- the sets of the first n programs stand in their places
abbrev pub SetsTo : Board → ℕ → Sets → Type 0
SetsTo b n sets = (i : ℕ) → i < n → (m : Mode)
    → (set_in sets (claim_place m i) ≡ claim_of m (in_place b i)) × (set_in sets (open_place m i) ≡ open_of m (in_place b i))

-- the sets of all programs
abbrev pub SetsOf : Board → Sets → Type 0
SetsOf b sets = IsStore sets × SetsTo b 32 sets

-- ---- what is read from the sets

-- p's claim in a mode
abbrev pub claim_at : Sets → ℕ → Mode → FileSet
claim_at sets p m = set_in sets (claim_place m (p - 1))

-- what p has open in a mode
abbrev pub open_at : Sets → ℕ → Mode → FileSet
open_at sets p m = set_in sets (open_place m (p - 1))

-- the mode in which p opens f
abbrev pub mode_at : Sets → ℕ → ℕ → Mode
mode_at sets p f = cond (member (claim_at sets p Write) f) Write (cond (member (claim_at sets p Read) f) Read Inquiry)

-- p claims f in a mode that clashes with m
abbrev pub claims_at : Sets → ℕ → Mode → ℕ → Bool
claims_at sets f m p = some_mode (λ n. clashing m n && member (claim_at sets p n) f)

-- p has f open
abbrev pub opens_at : Sets → ℕ → ℕ → Bool
opens_at sets f p = some_mode (λ m. member (open_at sets p m) f)

-- program x holds back program y
abbrev pub holds_one : Sets → ℕ → ℕ → Bool
holds_one sets y x = touching (open_at sets x) (claim_at sets y)

-- ---- the sets changed

-- the sets of q are put at index i, and those of every other program stand as before
pub record PutAt (q : Program) (i : ℕ) (before after : Sets) : Type 0 where
  pub is_store : IsStore after
  pub here : (m : Mode) → (set_in after (claim_place m i) ≡ claim_of m q) × (set_in after (open_place m i) ≡ open_of m q)
  pub there : (j : ℕ) → j < 32 → j ≢ i → (m : Mode)
      → (row_in after (claim_place m j) ≡ row_in before (claim_place m j)) × (row_in after (open_place m j) ≡ row_in before (open_place m j))

-- the place of a mode, where the places of the modes begin with k
abbrev pub mode_place : ℕ → Mode → ℕ
mode_place k Write = k
mode_place k Read = 32 + k
mode_place k Inquiry = 64 + k

-- three sets are put in these places, by mode, and every other row stands as before
pub record PutsFrom (k : ℕ) (x : Mode → FileSet) (before after : Sets) : Type 0 where
  pub are_store : IsStore after
  pub put-here : (m : Mode) → set_in after (mode_place k m) ≡ x m
  pub put-there : (j : ℕ) → ((m : Mode) → j ≢ mode_place k m) → row_in after j ≡ row_in before j

-- file f leaves the set in a place
abbrev pub left_in : Sets → ℕ → ℕ → Sets
left_in sets k f = set sets k (without_file (row_in sets k) f)

-- the sets with f closed: it leaves what p has open
abbrev pub closed_at : Sets → ℕ → ℕ → Sets
closed_at sets p f = left_in (left_in (left_in sets (open_place Write (p - 1)) f) (open_place Read (p - 1)) f) (open_place Inquiry (p - 1)) f

-- the sets with f dropped: it leaves p's claim
abbrev pub dropped_at : Sets → ℕ → ℕ → Sets
dropped_at sets p f = left_in (left_in (left_in sets (claim_place Write (p - 1)) f) (claim_place Read (p - 1)) f) (claim_place Inquiry (p - 1)) f

-- file f joins the set in a place
abbrev pub joined_in : Sets → ℕ → ℕ → Sets
joined_in sets k f = set sets k (with_file (row_in sets k) f)

-- the sets with f given to p: it joins what p has open in the mode of its claim
abbrev pub given_at : Sets → ℕ → ℕ → Sets
given_at sets p f = joined_in sets (open_place (mode_at sets p f) (p - 1)) f
