-- 02, CR 3: "count for each program how many remaining ones hold it back, and lower these counts as programs are taken."
-- Assumes nothing.
use Rattle.std.specs.Prelude.{ℕ, suc, ◌+◌, ◌-◌, ◌≤◌, ◌<◌, ◌≡◌, Bool, true, not, cond, ◌&&◌, List, eqb, length, get_or, Option, None, Some}
use Rattle.rules.specs.declared.Board.{Board}
use Rattle.laws.specs.Lists.{keep, first, with_found}
use Rattle.rules.specs.Boards.{everyone, at}
use Rattle.rules.specs.Orders.{holds_back}
use Rattle.tables.specs.declared.ProgramSet.{ProgramSet}
use Rattle.tables.specs.ProgramSets.{has_program}
use Rattle.tables.specs.Tables.{places, row_of, RowsOf}

-- the programs left
abbrev pub those : ProgramSet → List ℕ
those left = keep (has_program left) everyone

-- by the rows: how many of those left hold p back
abbrev pub held_count : List ℕ → ProgramSet → ℕ → ℕ
held_count rows left p = length (keep (λ i. has_program (row_of rows i) p) (those left))

-- the count of p
abbrev pub count_of : List ℕ → ℕ → ℕ
count_of counts p = get_or counts (p - 1) 0

-- for each program left its count, and 0 for the others
unfoldable pub counts_of : List ℕ → ProgramSet → List ℕ
counts_of rows left = places (λ i. cond (has_program left (suc i)) (held_count rows left (suc i)) 0) 32 0

-- "before each taking every remaining program's count is that number": how many remaining ones hold it back
abbrev pub Counted : List ℕ → ProgramSet → List ℕ → Type 0
Counted rows left counts = (length counts ≡ 32) × ((p : ℕ) → has_program left p ≡ true → count_of counts p ≡ held_count rows left p)

-- the same on the board: how many other ones left hold p back, for each p that is left
abbrev pub CountedOn : Board → ProgramSet → List ℕ → Type 0
CountedOn b left counts = (p : ℕ) → has_program left p ≡ true
    → count_of counts p ≡ length (keep (λ i. not (eqb i p) && holds_back (at b i) (at b p)) (those left))

-- every program of the one set is of the other
abbrev pub Among : ProgramSet → ProgramSet → Type 0
Among left a = (x : ℕ) → has_program left x ≡ true → has_program a x ≡ true

-- of every board with these rows of the programs a, those left among them: counts by the rows are counts on the board
abbrev pub CountedFor : List ℕ → ProgramSet → Type 0
CountedFor rows a = (b : Board) (left : ProgramSet) (counts : List ℕ) → RowsOf b a rows → Among left a
    → Counted rows left counts → CountedOn b left counts

-- the counts of the programs of the set, changed by g
abbrev pub changed : (ℕ → ℕ) → ProgramSet → List ℕ → List ℕ
changed g s counts = places (λ i. cond (has_program s (suc i)) (g (get_or counts i 0)) (get_or counts i 0)) 32 0

-- one more for each program of the set
unfoldable pub raised : ProgramSet → List ℕ → List ℕ
raised s counts = changed (λ n. n + 1) s counts

-- one less for each program of the set
unfoldable pub lowered : ProgramSet → List ℕ → List ℕ
lowered s counts = changed (λ n. n - 1) s counts

-- no count of the set is at its greatest
abbrev pub CanRaise : ProgramSet → List ℕ → Type 0
CanRaise s counts = (length counts ≡ 32) × ((p : ℕ) → has_program s p ≡ true → count_of counts p < 255)

-- no count of the set is 0
abbrev pub CanLower : ProgramSet → List ℕ → Type 0
CanLower s counts = (length counts ≡ 32) × ((p : ℕ) → has_program s p ≡ true → 1 ≤ count_of counts p)

-- p is left, and its count is 0
abbrev pub at_zero : List ℕ → ProgramSet → ℕ → Bool
at_zero counts left p = has_program left p && eqb (count_of counts p) 0

-- the lowest program left whose count is 0
unfoldable pub lowest : List ℕ → ProgramSet → Option ℕ
lowest counts left = with_found (first (at_zero counts left) everyone) None Some
