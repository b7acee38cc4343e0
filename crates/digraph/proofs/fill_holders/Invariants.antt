-- The rows of the programs that have come are written. Assumes nothing.
use Rattle.std.proofs.Common.{ℕ, suc}
use Rattle.store.specs.Sets.{Sets}
use Rattle.tables.specs.declared.ProgramSet.{ProgramSet}
use Rattle.tables.specs.ProgramSets.{without_program}
use Rattle.tables.specs.Tables.{holders_of, packed}
use Rattle.tables.proofs.Walk.{WroteTo}
use Rattle.digraph.proofs.fill_holders.Given as goal

-- what is written at place i
abbrev pub row_bits : Sets → ProgramSet → ℕ → ℕ
row_bits sets a i = (packed (holders_of sets (suc i) (without_program a (suc i))) 32).bits

abbrev pub invariant-loop-p : goal.invariant-loop-p
invariant-loop-p l = WroteTo l.admitted (row_bits l.sets l.admitted) l.initial.rows l.p-iterator.left l.rows
