-- What `of_all` has put together so far. Assumes nothing.
use Rattle.std.proofs.Common.{◌≡◌, ◌-◌, length}
use Rattle.files.specs.Words.{word_count}
use Rattle.tables.specs.Shared.{shared_to, open_row}
use Rattle.tables.proofs.shared.of_all.Given as goal

abbrev pub invariant-loop-p : goal.invariant-loop-p
invariant-loop-p l = (length l.files ≡ word_count) × (l.files ≡ (shared_to (open_row l.sets l.mode) (l.p - 1)).once)
