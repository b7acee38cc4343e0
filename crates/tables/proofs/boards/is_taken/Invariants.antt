-- Whom `is_taken` has still to look at. Assumes nothing.
use Rattle.std.proofs.Common.{◌≡◌, ◌-◌}
use Rattle.laws.specs.Lists.{any, rising}
use Rattle.store.specs.Store.{seat_at}
use Rattle.tables.specs.Boards.{other_uses, taken_in}
use Rattle.tables.proofs.boards.is_taken.Given as goal

abbrev pub invariant-loop-i : goal.invariant-loop-i
invariant-loop-i l = taken_in l.rest l.p l.f l.n ≡ any (λ k. other_uses (seat_at l.rest k) k l.p l.f l.n) (rising (33 - l.i) l.i)
