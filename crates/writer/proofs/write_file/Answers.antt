use Rattle.std.proofs.Common.{◌≡◌, true, [], arith, sym, ◌∙◌}
use Rattle.files.specs.Sets.{is_file}
use Rattle.request.specs.declared.Shape.{Shape}
use Rattle.request.specs.Verbs.{file_length}
use Rattle.request.specs.Requests.{line_as}
use Rattle.writer.proofs.Laws.{file_length_lem, file_put, placed_short, placed_all, file-placed}
use Rattle.writer.proofs.write_file.Goals as goal

pub returns-then-line-lt-FILE_LEN : goal.returns-then-line-lt-FILE_LEN
returns-then-line-lt-FILE_LEN c =
    let a = c.args in
    let f : is_file a.a.file ≡ true = sym c.is_number.ensures ∙ c.if-not-is_number.false in
    let p = file-placed a.a a.line.now _ _ f
    (placed_short (line_as Shape.File a.a []) a.line.now file_length (file_length_lem a.a) c.if-line-lt-FILE_LEN.true) in
    record { value = p.0; line_after = p.1 }

pub returns : goal.returns
returns c =
    let a = c.args in
    let h = c.put_head-at in
    let k = c.put_number in
    let f : is_file a.a.file ≡ true = sym c.is_number.ensures ∙ c.if-not-is_number.false in
    let e = file_put a.a h.result a.line.now h.new.line k.new.line c.if-line-lt-FILE_LEN.false h.ensures.value h.ensures.line_after
    k.ensures.line_after in
    let p = file-placed a.a a.line.now _ _ f
    (placed_all (line_as Shape.File a.a []) a.line.now k.new.line file_length k.result
    (file_length_lem a.a) c.if-line-lt-FILE_LEN.false (omega (arith, k.ensures.value, h.ensures.value)) e) in
    record { value = p.0; line_after = p.1 }
