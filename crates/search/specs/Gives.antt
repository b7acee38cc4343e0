-- Whether a file can be given, as the code decides it from the arrays of a board. The statements below, which proofs/ proves,
-- lead from the arrays to every board that has them.
-- Assumes nothing.
use Rattle.std.specs.Prelude.{ℕ, zero, suc, ◌≡◌, Bool, true, false, not, ◌&&◌, ◌||◌, List}
use Rattle.files.specs.Sets.{member}
use Rattle.files.specs.Words.{set_of}
use Rattle.rules.specs.declared.Board.{Board}
use Rattle.laws.specs.Lists.{any, found}
use Rattle.rules.specs.Modes.{clashing, some_mode}
use Rattle.rules.specs.Boards.{everyone, at, has_open}
use Rattle.rules.specs.Orders.{carried, in_use, safe, can_give}
use Rattle.rules.specs.Soundness.{no_conflict}
use Rattle.tables.specs.declared.ProgramSet.{ProgramSet}
use Rattle.tables.specs.ProgramSets.{no_programs, has_program, without_program}
use Rattle.store.specs.Sets.{Sets, SetsOf, mode_at, holds_one, claims_at}
use Rattle.tables.specs.Shared.{open_in, opened_in}
use Rattle.tables.specs.Tables.{packed, row_of}
use Rattle.search.specs.declared.Uses.{Uses}
use Rattle.tables.specs.Boards.{admits, admitted_set}

-- ---- by the arrays

-- what is open, with these admitted
abbrev pub uses_in : ProgramSet → Sets → Uses
uses_in a sets = record { admitted = a; files = opened_in sets }

-- some program has f open, in a mode that clashes with the one in which p would open it
abbrev pub used_in : Sets → Uses → ℕ → ℕ → Bool
used_in sets u p f = some_mode (λ m. clashing (mode_at sets p f) m && member (set_of (open_in m u.files)) f)

-- by the rows: x is of the set, and p stands in its row
abbrev pub holders_in : List ℕ → ℕ → ProgramSet → ℕ → Bool
holders_in rows p s x = has_program s x && has_program (row_of rows x) p

-- x was found before, or is among the others and holds back p or one that was found
abbrev pub joins : Sets → ProgramSet → ℕ → ProgramSet → ℕ → Bool
joins sets others p seen x = has_program seen x
    || (has_program others x && (holds_one sets p x || any (λ y. has_program seen y && holds_one sets y x) everyone))

-- those of the others that hold back p, directly or through others, found in n rounds
unfoldable pub backers : Sets → ProgramSet → ℕ → ℕ → ProgramSet
backers sets others p zero = no_programs
backers sets others p (suc n) = packed (joins sets others p (backers sets others p n)) 32

-- with f given to p, p would hold back none that holds it back: none of them claims f in a mode that clashes with p's;
-- after 32 rounds all of them are found
unfoldable pub safe_in : Sets → ProgramSet → ℕ → ℕ → Bool
safe_in sets a p f =
    not (any (λ x. has_program (backers sets (without_program a p) p 32) x && claims_at sets f (mode_at sets p f) x) everyone)

-- f is in no conflicting use, and giving it to p is safe
abbrev pub give_in : Sets → Uses → ℕ → ℕ → Bool
give_in sets u p f = not (used_in sets u p f) && safe_in sets u.admitted p f

-- ---- from the arrays to boards

-- who is admitted, and what is open
abbrev pub uses_of : Board → Sets → Uses
uses_of b sets = uses_in (admitted_set b) sets

-- on every board without conflict that has these sets, where p has not f open: the test says whether f is in conflicting use
abbrev pub UsedFor : Sets → Uses → ℕ → ℕ → Bool → Type 0
UsedFor sets u p f r = (b : Board) → SetsOf b sets → u ≡ uses_of b sets → no_conflict b ≡ true → has_open (at b p) f ≡ false → r ≡ in_use b p f

-- on every board with these sets and admitted programs that has an order: the test says whether an order comes back with f given to p
abbrev pub SafeFor : Sets → ProgramSet → ℕ → ℕ → Bool → Type 0
SafeFor sets a p f r = (b : Board) → SetsOf b sets → a ≡ admitted_set b → admits b p ≡ true → found (carried b) ≡ true
    → r ≡ safe b p f

-- on every board with an order and without conflict that has these sets: the test says whether an open would give f
-- to the admitted program p, which has it not open
abbrev pub GivenFor : Sets → Uses → ℕ → ℕ → Bool → Type 0
GivenFor sets u p f r = (b : Board) → SetsOf b sets → u ≡ uses_of b sets → no_conflict b ≡ true → found (carried b) ≡ true
    → admits b p ≡ true → has_open (at b p) f ≡ false → r ≡ can_give b p f
