use Rattle.writer.proofs.Laws.{entry-put}
use Rattle.writer.proofs.put_entry.Goals as goal

pub returns-clause-line_after : goal.returns-clause-line_after
returns-clause-line_after c =
    let a = c.args in
    let h = c.put_head-after_program in
    let l = c.put-after_label in
    let w = c.put_number-after_w in
    let r = c.put_number-after_r in
    let j = c.put_number in
    entry-put a.verb a.program a.w a.r a.j a.label.now a.line.now h.new.line l.new.line w.new.line r.new.line
    j.new.line h.result l.result w.result r.result c.requires.0 c.requires.1 h.ensures.value h.ensures.line_after
    l.ensures.value l.ensures.line_after w.ensures.value w.ensures.line_after r.ensures.value r.ensures.line_after j.ensures.line_after
