use mathlib.Core.Path.{◌≡◌, ap, sym, ◌∙◌}
use mathlib.Core.List.{[]}
use native.Mathlib.Omega.{arith}
use Rattle.std.proofs.Common.{rules}
use lib.ListN.{length, get_or, get_or-map}
use lib.Seq.{get_or-take}
use Rattle.columns.proofs.Rows.{start, step}
use Rattle.parts.specs.Entries.{line_in, lines_in}
use Rattle.parts.proofs.Lined.{length-lines}
use Rattle.journal.specs.Journal.{journal_line, line_bytes}
use Rattle.journal.proofs.Laws.{line-length, ends}
use Rattle.journal.proofs.put_lines.Goals as goal

pub loop-entry-init : goal.loop-entry-init
loop-entry-init c = record { at_is = omega arith; journal_is = start line_bytes c.args.journal.now c.args.place }

pub loop-entry-preserved : goal.loop-entry-preserved
loop-entry-preserved c =
    let a = c.args in
    let l = c.loop-entry in
    let ls = lines_in a.lines.now in
    let m : length a.lines.now ≡ 32 = search rules in
    let n : length ls ≡ 32 = length-lines a.lines.now ∙ m in
    let read : c.line_in.result ≡ get_or ls l.entry-index (line_in []) =
    c.line_in.ensures ∙ ap line_in (get_or-take a.count a.lines.now l.entry-index [] (omega arith)) ∙ sym (get_or-map line_in a.lines.now l.entry-index []) in
    record {
      at_is = omega arith;
      journal_is = step line_bytes journal_line line-length a.journal.now l.journal c.put_line.new.part ls (line_in []) a.place l.entry-index l.at
          (omega arith) (omega arith) l.invariant.at_is l.invariant.journal_is (rw (← read) c.put_line.ensures);
    }

pub returns-clause-journal_after : goal.returns-clause-journal_after
returns-clause-journal_after c =
    let a = c.args in
    let ls = lines_in a.lines.now in
    let m : length a.lines.now ≡ 32 = search rules in
    let n : length ls ≡ 32 = length-lines a.lines.now ∙ m in
    ends a.journal.now c.loop-entry.journal ls a.place c.loop-entry.entry-index a.count (omega arith) (omega arith) c.loop-entry.invariant.journal_is
