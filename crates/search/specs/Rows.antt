-- The search for the carried order as the code makes it, by sets of programs. The laws of proofs/ show that it is the carried order of the rules.
-- Assumes nothing.
use Rattle.std.specs.Prelude.{ℕ, zero, suc, ◌+◌, ◌≡◌, Bool, true, false, ◌&&◌, List, [], ◌∷◌, ◌++◌, eqb, length, take, drop, replicate}
use Rattle.std.proofs.Math.Option.{Option, none, some}
use Rattle.rules.specs.declared.Board.{Board}
use Rattle.laws.specs.Lists.{first, with_found, padded}
use Rattle.rules.specs.Boards.{everyone}
use Rattle.rules.specs.Orders.{carried}
use Rattle.tables.specs.declared.ProgramSet.{ProgramSet}
use Rattle.search.specs.declared.Search.{Search}
use Rattle.search.specs.declared.Order.{Order}
use Rattle.tables.specs.ProgramSets.{has_program, without_program}
use Rattle.tables.specs.Tables.{RowsOf}
use Rattle.tables.specs.Boards.{admitted_set}
use Rattle.search.specs.Counts.{those, held_count}

-- p is left, and none that is left holds it back
abbrev pub free : List ℕ → ProgramSet → ℕ → Bool
free rows left p = has_program left p && eqb (held_count rows left p) 0

-- the order of the n programs left
unfoldable pub order_from : ℕ → List ℕ → ProgramSet → Option (List ℕ)
order_from zero rows left = some []
order_from (suc n) rows left =
    with_found (first (free rows left) everyone) none
    (λ p. with_found (order_from n rows (without_program left p)) none (λ l. some (p ∷ l)))

-- an order as the code gives it back: the numbers from place k on
abbrev pub placed : List ℕ → ℕ → Option (List ℕ) → Order
placed at k (some l) = record { kind = Search.Found (k + length l); at = take k at ++ (l ++ drop (k + length l) at) }
placed at k none = record { kind = Search.Stuck; at = replicate 32 0 }

-- the m programs that were placed, or none
abbrev pub outcome : Bool → ℕ → List ℕ → Order
outcome true m at = record { kind = Search.Found m; at = at }
outcome false m at = record { kind = Search.Stuck; at = replicate 32 0 }

-- an order, or none, as the code gives it back
abbrev pub as_order : Option (List ℕ) → Order
as_order (some l) = record { kind = Search.Found (length l); at = padded 0 l }
as_order none = record { kind = Search.Stuck; at = replicate 32 0 }

-- an order was found
abbrev pub is_found : Search → Bool
is_found (Search.Found n) = true
is_found Search.Stuck = false

-- the order of the programs left, by the rows
unfoldable pub order_in : List ℕ → ProgramSet → Order
order_in rows left = as_order (order_from (length (those left)) rows left)

-- the carried order of every board with these rows and admitted programs
abbrev pub OrderFor : List ℕ → ProgramSet → Order → Type 0
OrderFor rows left o = (b : Board) → RowsOf b left rows → left ≡ admitted_set b → o ≡ as_order (carried b)
