use mathlib.Core.Path.{◌≡◌}
use mathlib.Core.List.{◌++◌}
use Prim.Native.Nat.{◌*◌}
use Rattle.std.proofs.Common.{take, drop}
use Rattle.columns.specs.Rows.{flat}
use Rattle.whole.proofs.Laws.{made}
use Rattle.image.specs.Image.{row_section, inquiry_section}
use Rattle.image.proofs.RoundTrip.{row_bytes, inquiry_bytes}
use Rattle.image.proofs.put_programs.Given as goal

abbrev pub invariant-loop-i : goal.invariant-loop-i
invariant-loop-i l = record {
  rows : l.rows ≡ flat row_bytes (take l.i (made l.sets l.fn.seats)) ++ drop (row_section.size * l.i) l.fn.rows;
  inquiries : l.inquiries ≡ flat inquiry_bytes (take l.i (made l.sets l.fn.seats)) ++ drop (inquiry_section.size * l.i) l.fn.inquiries;
}
