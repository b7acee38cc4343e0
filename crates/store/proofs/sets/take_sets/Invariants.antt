use Rattle.store.specs.Sets.{SetsTo}
use Rattle.store.proofs.sets.take_sets.Given as goal

abbrev pub invariant-loop-i : goal.invariant-loop-i
invariant-loop-i l = SetsTo l.b l.i l.sets
