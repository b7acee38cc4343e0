-- What is left to test: the names from here on, which are those of waiting programs.
use Rattle.std.proofs.Common.{◌≡◌, true, false, drop}
use Rattle.laws.specs.Lists.{all, names}
use Rattle.store.specs.Store.{board_of}
use Rattle.sound.specs.Parts.{right_name, waiter_at}
use Rattle.sound.proofs.waiters_sound.Given as goal

abbrev pub invariant-loop-p : goal.invariant-loop-p
invariant-loop-p l =
    (all (right_name (board_of l.sets l.rest) false) (names (drop l.p-index l.fn.line)) ≡ true)
    × (all (waiter_at (board_of l.sets l.rest)) (names l.fn.line) ≡ all (waiter_at (board_of l.sets l.rest)) (names (drop l.p-index l.fn.line)))
