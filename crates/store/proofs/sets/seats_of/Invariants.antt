use Rattle.std.proofs.Common.{◌≡◌, length}
use Rattle.store.specs.Store.{SeatsTo}
use Rattle.store.proofs.sets.seats_of.Given as goal

abbrev pub invariant-loop-i : goal.invariant-loop-i
invariant-loop-i l = record { sized : length l.seats ≡ 32; seats : SeatsTo l.b l.i l.seats }
