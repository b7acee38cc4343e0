use Rattle.writer.proofs.Laws.{head_put}
use Rattle.writer.proofs.put_head.Goals as goal

pub returns-clause-line_after : goal.returns-clause-line_after
returns-clause-line_after c =
    let a = c.args in
    let k = c.put-at in
    (head_put a.verb a.program k.result c.verb_bytes-word.result a.line.now k.new.line c.put_number.new.line c.requires c.verb_bytes-word.ensures
    k.ensures.value k.ensures.line_after c.put_number.ensures.line_after).1
