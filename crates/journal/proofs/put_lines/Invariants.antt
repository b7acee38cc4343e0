use Prim.Native.Nat.{◌+◌, ◌*◌}
use mathlib.Core.Path.{◌≡◌}
use mathlib.Core.List.{◌++◌}
use Rattle.std.proofs.Common.{take, drop}
use Rattle.columns.specs.Rows.{flat}
use Rattle.parts.specs.Entries.{lines_in}
use Rattle.journal.specs.Journal.{journal_line, line_bytes}
use Rattle.journal.proofs.put_lines.Given as goal

abbrev pub invariant-loop-entry : goal.invariant-loop-entry
invariant-loop-entry l = record {
  at_is : l.at ≡ l.fn.place + journal_line * l.entry-index;
  journal_is : l.journal
      ≡ take l.fn.place l.fn.journal ++ flat line_bytes (take l.entry-index (lines_in l.fn.lines))
      ++ drop (l.fn.place + journal_line * l.entry-index) l.fn.journal;
}
