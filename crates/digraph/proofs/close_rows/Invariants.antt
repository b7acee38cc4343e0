-- The rows are closed by way of the programs from k + 1 on.
use Rattle.std.proofs.Common.{◌≡◌, ℕ, Bool, length}
use Rattle.rules.specs.Digraph.{paths}
use Rattle.digraph.specs.Rows.{rows_saying}
use Rattle.digraph.proofs.Laws.{above}
use Rattle.digraph.proofs.close_rows.Given as goal

abbrev pub invariant-loop-k : goal.invariant-loop-k
invariant-loop-k l =
    (length l.rows ≡ 32) × ((g : ℕ → ℕ → Bool) → l.fn.rows ≡ rows_saying g → l.rows ≡ rows_saying (paths g (above l.k)))
