use Rattle.std.proofs.Common.{◌≡◌, ℕ, Bool, drop}
use Rattle.laws.specs.Lists.{first, names}
use Rattle.laws.specs.Laws.{◌∈◌}
use Rattle.settling.specs.Writing.{Tests}
use Rattle.settling.proofs.oldest.Given as goal

-- none of those before passes the test
abbrev pub invariant-loop-p : goal.invariant-loop-p
invariant-loop-p g l = ((p : ℕ) → p ∈ names (drop l.p-index l.p-items) → p ∈ names l.fn.line)
    × ((t : ℕ → Bool) → Tests (goal.F-post g l.test) t (names l.fn.line) → first t (names l.fn.line) ≡ first t (names (drop l.p-index l.p-items)))
