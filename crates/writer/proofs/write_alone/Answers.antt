use Rattle.std.proofs.Common.{[]}
use Rattle.request.specs.declared.Shape.{Shape}
use Rattle.request.specs.Verbs.{alone_length}
use Rattle.request.specs.Requests.{line_as}
use Rattle.writer.proofs.Laws.{alone_length_lem, placed_short, placed_all}
use Rattle.writer.proofs.write_alone.Goals as goal

pub returns-then-line-lt-ALONE_LEN : goal.returns-then-line-lt-ALONE_LEN
returns-then-line-lt-ALONE_LEN c =
    let a = c.args in
    let p = placed_short (line_as Shape.Alone a.a []) a.line.now alone_length (alone_length_lem a.a) c.if-line-lt-ALONE_LEN.true in
    record { value = p.0; line_after = p.1 }

pub returns : goal.returns
returns c =
    let a = c.args in
    let k = c.put_head in
    let p = placed_all (line_as Shape.Alone a.a []) a.line.now k.new.line alone_length k.result (alone_length_lem a.a) c.if-line-lt-ALONE_LEN.false
    k.ensures.value k.ensures.line_after in
    record { value = p.0; line_after = p.1 }
