use Rattle.writer.proofs.Laws.{claims-put}
use Rattle.writer.proofs.put_claims.Goals as goal

pub returns-clause-line_after : goal.returns-clause-line_after
returns-clause-line_after c =
    let a = c.args in
    let x = c.put_files-after_v in
    let y = c.put_files-after_q in
    let z = c.put_files in
    claims-put a.c a.start x.result y.result a.line.now x.new.line y.new.line z.new.line c.requires x.ensures.value x.ensures.line_after
    y.ensures.value y.ensures.line_after z.ensures.line_after
