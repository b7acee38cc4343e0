-- The number read so far is at most the highest, and with the bytes left it comes to what the whole part comes to.
use Rattle.std.proofs.Common.{◌≡◌, drop}
use Rattle.columns.specs.declared.Digits.{Digits}
use Rattle.columns.specs.Columns.{read_all, ranged, Below}
use Rattle.columns.proofs.read_number.Given as goal

abbrev pub invariant-loop-b : goal.invariant-loop-b
invariant-loop-b l = record {
  below : Below l.high l.d;
  read : ranged l.low l.high (read_all Digits.Blank l.part) ≡ ranged l.low l.high (read_all l.d (drop l.b-index l.part));
}
