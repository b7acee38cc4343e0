use mathlib.Core.Path.{◌≡◌}
use mathlib.Core.List.{◌++◌}
use Prim.Native.Nat.{◌*◌}
use Rattle.std.proofs.Common.{take, drop}
use Rattle.columns.specs.Rows.{flat}
use Rattle.image.specs.Image.{bytes_n}
use Rattle.host.proofs.digraphs.put_rows.Given as goal

abbrev pub invariant-loop-i : goal.invariant-loop-i
invariant-loop-i l = l.out ≡ flat (bytes_n 4) (take l.i l.fn.rows) ++ drop (4 * l.i) l.fn.out
