-- Whom `count_all` has still to count. Assumes nothing.
use Rattle.search.proofs.Counting.{CountedBut}
use Rattle.search.proofs.count_all.Given as goal

abbrev pub invariant-loop-p : goal.invariant-loop-p
invariant-loop-p l = CountedBut l.rows l.left l.p-iterator.left l.counts
