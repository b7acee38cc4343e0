use Rattle.std.proofs.Common.{◌≡◌, length, arith, rules, sym, ap, ◌∙◌}
use Rattle.parts.specs.Entries.{lines_in}
use Rattle.parts.proofs.Lined.{length-lines}
use Rattle.settling.specs.Writing.{written_in}
use Rattle.apply.specs.Replies.{replied}
use Rattle.linecall.specs.LineCall.{refuse_line}
use Rattle.linecall.proofs.Laws.{own_lines, own_count, refused-lines, put_one}
use Rattle.linecall.proofs.known.write_lines.Goals as goal

pub returns-then-n-eq0-clause-value : goal.returns-then-n-eq0-clause-value
returns-then-n-eq0-clause-value c =
    let a = c.args in
    let m : length a.lines.now ≡ 32 = search rules in
    let places : length (lines_in a.lines.now) ≡ 32 = length-lines a.lines.now ∙ m in
    let e = sym c.of_answer-n.ensures ∙ c.if-n-eq0.true in
    rw (own_count a.q (replied (written_in a.sets.now a.lines.now a.c.progress) a.c.answer) e (omega (arith, places, c.requires.1))) c.put_lines.ensures.value

pub returns-then-n-eq0-clause-journal_after : goal.returns-then-n-eq0-clause-journal_after
returns-then-n-eq0-clause-journal_after c =
    let a = c.args in
    let e = sym c.of_answer-n.ensures ∙ c.if-n-eq0.true in
    rw (own_lines a.q (replied (written_in a.sets.now a.lines.now a.c.progress) a.c.answer) e) c.put_lines.ensures.journal_after

pub returns-clause-value : goal.returns-clause-value
returns-clause-value c =
    let a = c.args in
    rw (refused-lines a.q (replied (written_in a.sets.now a.lines.now a.c.progress) a.c.answer) (λ z. c.if-n-eq0.false (c.of_answer-n.ensures ∙ z)))

pub returns-clause-journal_after : goal.returns-clause-journal_after
returns-clause-journal_after c =
    let a = c.args in
    let m = c.of_answer-n.ensures in
    let e = refused-lines a.q (replied (written_in a.sets.now a.lines.now a.c.progress) a.c.answer) (λ z. c.if-n-eq0.false (m ∙ z)) in
    let k = c.refuse_line-l.ensures ∙ ap (refuse_line a.q) m in
    rw (e, ← k) (put_one a.journal.now c.put_line.new.part _ a.place c.put_line.ensures)
