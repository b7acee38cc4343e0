-- The words before k are changed. Assumes nothing.
use Rattle.std.proofs.Common.{◌≡◌, ℕ, take}
use Rattle.files.specs.Words.{wordwise}
use Rattle.files.proofs.words.change.Given as goal

abbrev pub invariant-loop-k : goal.invariant-loop-k
invariant-loop-k f l = (g : ℕ → ℕ → ℕ) → ((v w r : ℕ) → goal.F-post f l.op v w r → r ≡ g v w) → l.s ≡ wordwise g l.initial.s (take l.k l.t)
