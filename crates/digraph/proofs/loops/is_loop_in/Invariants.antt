-- What is left to test: the places from this one on.
use Rattle.std.proofs.Common.{◌≡◌, drop}
use Rattle.rules.specs.Digraph.{is_loop_of}
use Rattle.digraph.specs.Rows.{cell}
use Rattle.digraph.specs.Loops.{goes}
use Rattle.digraph.proofs.loops.is_loop_in.Given as goal

abbrev pub invariant-loop-p : goal.invariant-loop-p
invariant-loop-p l = is_loop_of (cell l.rows) l.l ≡ goes l.rows l.left l.before (drop l.p-index l.l)
