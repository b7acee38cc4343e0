use Rattle.std.proofs.Common.{arith, sym, ◌∙◌}
use Rattle.files.specs.Sets.{member}
use Rattle.writer.proofs.Laws.{columns_in, columns_out, put-none}
use Rattle.writer.proofs.put_file.Goals as goal

pub put_number-requires : goal.put_number-requires
put_number-requires c =
    let a = c.args in
    let k = columns_in (member a.s a.f) a.f (sym c.has.ensures ∙ c.if-has.true) in
    (omega arith, omega (arith, k.0, c.requires))

pub returns-then-has : goal.returns-then-has
returns-then-has c =
    let a = c.args in
    let k = columns_in (member a.s a.f) a.f (sym c.has.ensures ∙ c.if-has.true) in
    record { value = rw k.0 c.put_number.ensures.value; line_after = rw (← k.1) c.put_number.ensures.line_after }

pub returns : goal.returns
returns c =
    let a = c.args in
    let k = columns_out (member a.s a.f) a.f (sym c.has.ensures ∙ c.if-has.false) in
    record { value = omega (arith, k.0); line_after = rw k.1 (sym (put-none a.at a.line.now)) }
