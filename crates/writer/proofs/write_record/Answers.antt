use Rattle.std.proofs.Common.{◌≡◌, true, [], arith, sym, ◌∙◌}
use Rattle.files.specs.Sets.{is_file}
use Rattle.rules.specs.Checks.{is_record}
use Rattle.request.specs.declared.Shape.{Shape}
use Rattle.request.specs.Verbs.{record_length}
use Rattle.request.specs.Requests.{line_as}
use Rattle.writer.proofs.Laws.{record_length_lem, file_put, record_put, placed_short, placed_all, record_placed}
use Rattle.writer.proofs.write_record.Goals as goal

pub returns-then-line-lt-RECORD_LEN : goal.returns-then-line-lt-RECORD_LEN
returns-then-line-lt-RECORD_LEN c =
    let a = c.args in
    let f : is_file a.a.file ≡ true = sym c.is_number.ensures ∙ c.if-not-is_number.false in
    let n : is_record a.a.item ≡ true = sym c.is_number-2.ensures ∙ c.if-not-is_number-2.false in
    let p = record_placed a.a a.line.now _ _ f n
    (placed_short (line_as Shape.Record a.a []) a.line.now record_length (record_length_lem a.a) c.if-line-lt-RECORD_LEN.true) in
    record { value = p.0; line_after = p.1 }

pub returns : goal.returns
returns c =
    let a = c.args in
    let h = c.put_head-after_program in
    let k = c.put_number-after_file in
    let m = c.put_number in
    let f : is_file a.a.file ≡ true = sym c.is_number.ensures ∙ c.if-not-is_number.false in
    let n : is_record a.a.item ≡ true = sym c.is_number-2.ensures ∙ c.if-not-is_number-2.false in
    let e = file_put a.a h.result a.line.now h.new.line k.new.line (omega (arith, c.if-line-lt-RECORD_LEN.false)) h.ensures.value
    h.ensures.line_after k.ensures.line_after in
    let r = record_put a.a k.result a.line.now k.new.line m.new.line c.if-line-lt-RECORD_LEN.false (omega (arith, k.ensures.value, h.ensures.value)) e
    m.ensures.line_after in
    let p = record_placed a.a a.line.now _ _ f n
    (placed_all (line_as Shape.Record a.a []) a.line.now m.new.line record_length m.result
    (record_length_lem a.a) c.if-line-lt-RECORD_LEN.false (omega (arith, m.ensures.value, k.ensures.value, h.ensures.value)) r) in
    record { value = p.0; line_after = p.1 }
