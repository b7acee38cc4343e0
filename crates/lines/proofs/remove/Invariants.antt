use Rattle.std.proofs.Common.{◌≢◌, ℕ, ◌<◌, get_or}
use Rattle.lines.proofs.Laws.{KeptTo}
use Rattle.lines.proofs.remove.Given as goal

abbrev pub invariant-loop-x : goal.invariant-loop-x
invariant-loop-x l = record { kept : KeptTo l.p l.fn.line l.x-index l.kept l.n; named : (j : ℕ) → j < l.x-index → get_or l.fn.line j 0 ≢ 0 }
