-- The rows before this one are passed, and the others stand.
use Rattle.digraph.proofs.Laws.{MappedTo, pass_row}
use Rattle.digraph.proofs.pass.Given as goal

abbrev pub invariant-loop-row : goal.invariant-loop-row
invariant-loop-row l = MappedTo (pass_row l.fn.rows l.k) l.fn.rows l.row-index l.rows
