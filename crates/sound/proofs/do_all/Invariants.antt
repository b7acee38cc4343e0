-- What is left to test of all programs: those from p on.
use Rattle.std.proofs.Common.{◌≡◌, ℕ, ◌-◌, ◌≤◌, Bool}
use Rattle.laws.specs.Lists.{all, rising}
use Rattle.rules.specs.Boards.{everyone}
use Rattle.sound.proofs.do_all.Given as goal

abbrev pub invariant-loop-p : goal.invariant-loop-p
invariant-loop-p g l =
    (t : ℕ → Bool) → ((p : ℕ) (r : Bool) → 1 ≤ p → p ≤ 32 → goal.F-post g l.test p r → r ≡ t p)
    → all t everyone ≡ all t (rising (33 - l.p) l.p)
