use Rattle.std.proofs.Common.{sym, ◌∙◌}
use Rattle.request.specs.declared.Shape.{Shape}
use Rattle.request.specs.Verbs.{shape_of}
use Rattle.writer.proofs.Laws.{by_shape, shaped, out_of_range, as_entry, as_file, as_record, as_alone}
use Rattle.writer.proofs.write.Goals as goal

pub returns-then-not-is_number : goal.returns-then-not-is_number
returns-then-not-is_number c =
    let a = c.args in
    let w = by_shape a.a a.label.now a.line.now _ _ (out_of_range a.a a.label.now a.line.now (shape_of a.a.verb)
    (sym c.is_number.ensures ∙ c.if-not-is_number.true)) in
    record { value = w.0; line_after = w.1 }

pub returns-in-Entry : goal.returns-in-Entry
returns-in-Entry c =
    let a = c.args in
    let k = c.write_enter in
    let w = shaped a.a a.label.now a.line.now k.result k.new.line Shape.Entry _ c.in-Entry.is c.shape_of.ensures
    (as_entry a.a a.label.now a.line.now k.result k.new.line (sym c.is_number.ensures ∙ c.if-not-is_number.false) k.ensures.value k.ensures.line_after) in
    record { value = w.0; line_after = w.1 }

pub returns-in-File : goal.returns-in-File
returns-in-File c =
    let a = c.args in
    let k = c.write_file in
    let w = shaped a.a a.label.now a.line.now k.result k.new.line Shape.File _ c.in-File.is c.shape_of.ensures
    (as_file a.a a.label.now a.line.now k.result k.new.line (sym c.is_number.ensures ∙ c.if-not-is_number.false) k.ensures.value k.ensures.line_after) in
    record { value = w.0; line_after = w.1 }

pub returns-in-Record : goal.returns-in-Record
returns-in-Record c =
    let a = c.args in
    let k = c.write_record in
    let w = shaped a.a a.label.now a.line.now k.result k.new.line Shape.Record _ c.in-Record.is c.shape_of.ensures
    (as_record a.a a.label.now a.line.now k.result k.new.line (sym c.is_number.ensures ∙ c.if-not-is_number.false) k.ensures.value k.ensures.line_after) in
    record { value = w.0; line_after = w.1 }

pub returns-in-Alone : goal.returns-in-Alone
returns-in-Alone c =
    let a = c.args in
    let k = c.write_alone in
    let w = shaped a.a a.label.now a.line.now k.result k.new.line Shape.Alone _ c.in-Alone.is c.shape_of.ensures
    (as_alone a.a a.label.now a.line.now k.result k.new.line (sym c.is_number.ensures ∙ c.if-not-is_number.false) k.ensures.value k.ensures.line_after) in
    record { value = w.0; line_after = w.1 }
