-- The matrix as the code keeps it: a row for each of the 32 programs, each a set of programs.
-- Assumes nothing.
use Rattle.std.specs.Prelude.{ℕ, suc, ◌≡◌, Bool, cond, ◌&&◌, ◌||◌, List, length}
use Rattle.rules.specs.declared.Board.{Board}
use Rattle.rules.specs.Boards.{is_program, everyone}
use Rattle.rules.specs.Digraph.{paths, reaches}
use Rattle.store.specs.Sets.{Sets}
use Rattle.tables.specs.declared.ProgramSet.{ProgramSet}
use Rattle.tables.specs.ProgramSets.{has_program, without_program, union_of}
use Rattle.tables.specs.Tables.{places, packed, row_of, holders_of}

-- the rows that say g: in the row of each program p stand those x for which g x p says so
abbrev pub rows_saying : (ℕ → ℕ → Bool) → List ℕ
rows_saying g = places (λ i. (packed (λ x. g x (suc i)) 32).bits) 32 0

-- the matrix of the board: row p has those that reach p
unfoldable pub matrix_of : Board → List ℕ
matrix_of b = rows_saying (reaches b)

-- x is in the row of p
abbrev pub cell : List ℕ → ℕ → ℕ → Bool
cell rows x p = is_program p && has_program (row_of rows p) x

-- by the sets: for each program of the set a the others of a that hold it back
unfoldable pub holder_rows : Sets → ProgramSet → List ℕ
holder_rows sets a = places (λ i. cond (has_program a (suc i)) (packed (holders_of sets (suc i) (without_program a (suc i))) 32).bits 0) 32 0

-- ---- by way of one more

-- the row, with the row of k joined if k is in it
abbrev pub by_row : ProgramSet → ProgramSet → ℕ → ProgramSet
by_row row by k = cond (has_program row k) (union_of row by) row

-- x to p, or to k and from k
abbrev pub by_way : (ℕ → ℕ → Bool) → ℕ → ℕ → ℕ → Bool
by_way g k x p = g x p || g k p && g x k

-- whatever the rows said before, they say it by way of k
abbrev pub PassedBy : ℕ → List ℕ → List ℕ → Type 0
PassedBy k before after = (length after ≡ 32) × ((g : ℕ → ℕ → Bool) → before ≡ rows_saying g → after ≡ rows_saying (by_way g k))

-- closed over the paths by way of all programs
abbrev pub ClosedOver : List ℕ → List ℕ → Type 0
ClosedOver before after = (length after ≡ 32) × ((g : ℕ → ℕ → Bool) → before ≡ rows_saying g → after ≡ rows_saying (paths g everyone))
