-- The bytes from the place on are the last digits, and those before it are to be filled with what is left of the number.
use Rattle.std.proofs.Common.{◌≡◌, ◌++◌, length, drop}
use Rattle.columns.specs.Columns.{leading}
use Rattle.columns.proofs.put_leading.Given as goal

abbrev pub invariant-loop-i : goal.invariant-loop-i
invariant-loop-i l = leading (length l.part) l.n ≡ leading l.i l.rest ++ drop l.i l.part
