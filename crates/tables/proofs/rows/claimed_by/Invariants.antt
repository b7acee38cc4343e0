-- What `claimed_by` has found claimed so far. Assumes nothing.
use Rattle.tables.specs.Shared.{claimed_at, SharedBy}
use Rattle.tables.proofs.Walk.{Rest, came}
use Rattle.tables.proofs.rows.claimed_by.Given as goal

abbrev pub invariant-loop-p : goal.invariant-loop-p
invariant-loop-p l = Rest l.fn.set l.p-iterator.left × SharedBy (claimed_at l.sets) (came l.fn.set l.p-iterator.left) l.claimed
