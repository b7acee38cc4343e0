-- Whom `lowest_free` has still to try. Assumes nothing.
use Rattle.search.proofs.Lowest.{Untried}
use Rattle.search.proofs.lowest_free.Given as goal

abbrev pub invariant-loop-p : goal.invariant-loop-p
invariant-loop-p l = Untried l.counts l.fn.left l.p-iterator.left
