use Rattle.std.proofs.Common.{◌≡◌, length}
use Rattle.whole.proofs.Laws.{made, SameTo}
use Rattle.whole.proofs.programs.Given as goal

abbrev pub invariant-loop-i : goal.invariant-loop-i
invariant-loop-i l = record { sized : length l.ps ≡ 32; same : SameTo (made l.sets l.seats) l.i l.ps }
