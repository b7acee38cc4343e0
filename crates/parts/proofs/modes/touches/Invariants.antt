use Rattle.std.proofs.Common.{◌≡◌, ℕ, ◌<◌, get_or}
use Rattle.parts.specs.Modes.{clashes}
use Rattle.parts.proofs.modes.touches.Given as goal

abbrev pub invariant-loop-k : goal.invariant-loop-k
invariant-loop-k l =
    (n : ℕ) → n < l.k → clashes (get_or l.w n 0) (get_or l.r n 0) (get_or l.i n 0) (get_or l.v n 0) (get_or l.q n 0) (get_or l.j n 0) ≡ 0
