use Rattle.std.proofs.Common.{◌≡◌, length}
use Rattle.reply.proofs.Laws.{LinesTo}
use Rattle.reply.proofs.lines_of.Given as goal

abbrev pub invariant-loop-i : goal.invariant-loop-i
invariant-loop-i l = (length l.ls ≡ 32) × LinesTo l.lines l.i l.ls
