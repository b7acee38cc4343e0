-- The rows that `fill_rows` has written so far. Assumes nothing.
use Rattle.tables.proofs.Walk.{WroteTo}
use Rattle.tables.proofs.Whole.{row_bits}
use Rattle.tables.proofs.rows.fill_rows.Given as goal

abbrev pub invariant-loop-p : goal.invariant-loop-p
invariant-loop-p l = WroteTo l.admitted (row_bits l.sets l.admitted) l.initial.rows l.p-iterator.left l.rows
