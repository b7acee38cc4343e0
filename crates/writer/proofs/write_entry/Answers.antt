use Rattle.std.proofs.Common.{◌≤◌, arith, length}
use Rattle.request.specs.declared.Shape.{Shape}
use Rattle.request.specs.Verbs.{entry_length}
use Rattle.request.specs.Requests.{line_as}
use Rattle.writer.specs.Rows.{claims_count}
use Rattle.writer.proofs.Laws.{enter-length, head_counts, enter-put, placed_short, placed_all}
use Rattle.writer.proofs.write_entry.Goals as goal

pub returns-then-line-len : goal.returns-then-line-len
returns-then-line-len c =
    let a = c.args in
    let p = placed_short (line_as Shape.Entry a.a a.label.now) a.line.now (entry_length (claims_count a.a.claims)) (enter-length a.a a.label.now c.requires)
    (omega (arith, c.if-line-len.true, c.count-w.ensures.value, c.count-r.ensures.value, c.count-j.ensures.value)) in
    record { value = p.0; line_after = p.1 }

pub returns : goal.returns
returns c =
    let a = c.args in
    let h = c.put_entry-after_counts in
    let x = c.put_claims in
    let room : entry_length (claims_count a.a.claims) ≤ length a.line.now =
    omega (arith, c.if-line-len.false, c.count-w.ensures.value, c.count-r.ensures.value, c.count-j.ensures.value) in
    let e = head_counts a.a c.count-w.result c.count-r.result c.count-j.result a.label.now a.line.now h.new.line
    c.count-w.ensures.value c.count-r.ensures.value c.count-j.ensures.value h.ensures.line_after in
    let p = placed_all (line_as Shape.Entry a.a a.label.now) a.line.now x.new.line (entry_length (claims_count a.a.claims)) x.result
    (enter-length a.a a.label.now c.requires) room (omega (arith, x.ensures.value, h.ensures.value))
    (enter-put a.a h.result a.label.now a.line.now h.new.line x.new.line c.requires room h.ensures.value e x.ensures.line_after) in
    record { value = p.0; line_after = p.1 }
