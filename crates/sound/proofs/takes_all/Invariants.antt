-- What is left to take out of the set: the names from here on.
use Rattle.std.proofs.Common.{◌≡◌, drop}
use Rattle.laws.specs.Lists.{names}
use Rattle.sound.specs.Parts.{takes}
use Rattle.sound.proofs.takes_all.Given as goal

abbrev pub invariant-loop-p : goal.invariant-loop-p
invariant-loop-p l = takes (names l.fn.line) l.fn.set ≡ takes (names (drop l.p-index l.fn.line)) l.left
