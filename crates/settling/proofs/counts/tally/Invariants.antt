use Rattle.std.proofs.Common.{◌≡◌, length}
use Rattle.store.specs.Store.{board_of}
use Rattle.settling.proofs.Counting.{TalliedTo}
use Rattle.settling.proofs.counts.tally.Given as goal

abbrev pub invariant-loop-i : goal.invariant-loop-i
invariant-loop-i l = (length l.counts ≡ 32) × TalliedTo (board_of l.fn.sets l.fn.rest) l.i l.counts
