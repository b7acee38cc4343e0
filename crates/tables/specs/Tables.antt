-- For each admitted program the set of those that it holds back, by the sets of the board's programs.
-- Assumes nothing.
use Rattle.std.specs.Prelude.{ℕ, zero, suc, ◌-◌, ◌≤◌, ◌≡◌, Bool, not, cond, ◌&&◌, List, [], ◌∷◌, eqb, get_or}
use Rattle.rules.specs.declared.Board.{Board}
use Rattle.rules.specs.Boards.{at}
use Rattle.rules.specs.Orders.{holds_back}
use Rattle.store.specs.Sets.{Sets, holds_one}
use Rattle.tables.specs.declared.ProgramSet.{ProgramSet}
use Rattle.tables.specs.ProgramSets.{no_programs, has_program, with_program, without_program}

-- f k, f (k + 1) and so on, in n places
unfoldable pub places : (ℕ → ℕ) → ℕ → ℕ → List ℕ
places f zero k = []
places f (suc n) k = f k ∷ places f n (suc k)

-- s, and n where the test passes
abbrev pub joined : ProgramSet → ℕ → Bool → ProgramSet
joined s n t = cond t (with_program s n) s

-- the set of those of 1 to n that pass the test
unfoldable pub packed : (ℕ → Bool) → ℕ → ProgramSet
packed t zero = no_programs
packed t (suc n) = joined (packed t n) (suc n) (t (suc n))

-- i is another program than p, and holds it back
abbrev pub stops : Board → ℕ → ℕ → Bool
stops b p i = not (eqb i p) && holds_back (at b i) (at b p)

-- x is of the set, and p holds it back
abbrev pub held_by : Sets → ℕ → ProgramSet → ℕ → Bool
held_by sets p s x = has_program s x && holds_one sets x p

-- x is of the set, and holds p back
abbrev pub holders_of : Sets → ℕ → ProgramSet → ℕ → Bool
holders_of sets p s x = has_program s x && holds_one sets p x

-- by the sets: for each program of the set a the others of a that it holds back, in 32 places
unfoldable pub rows_of : Sets → ProgramSet → List ℕ
rows_of sets a = places (λ i. cond (has_program a (suc i)) (packed (held_by sets (suc i) (without_program a (suc i))) 32).bits 0) 32 0

-- the row of p
abbrev pub row_of : List ℕ → ℕ → ProgramSet
row_of rows p = record { bits = get_or rows (p - 1) 0 }

-- the rows of the board: the row of i, one of the set a, has those others of a that i holds back
abbrev pub RowsOf : Board → ProgramSet → List ℕ → Type 0
RowsOf b a rows = (i x : ℕ) → 1 ≤ i → i ≤ 32 → 1 ≤ x → x ≤ 32
    → has_program (row_of rows i) x ≡ ((has_program a i && has_program a x) && stops b x i)
