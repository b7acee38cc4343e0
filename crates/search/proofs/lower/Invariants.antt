-- The counts that `lower` has changed so far. Assumes nothing.
use Rattle.std.proofs.Common.{◌-◌, get_or}
use Rattle.tables.proofs.Walk.{WroteTo}
use Rattle.search.proofs.lower.Given as goal

abbrev pub invariant-loop-p : goal.invariant-loop-p
invariant-loop-p l = WroteTo l.fn.set (λ i. get_or l.initial.counts i 0 - 1) l.initial.counts l.p-iterator.left l.counts
