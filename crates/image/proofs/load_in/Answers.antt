use Prim.Native.Nat.{ℕ}
use mathlib.Core.Path.{sym, ◌∙◌}
use native.Mathlib.Omega.{arith}
use Rattle.image.specs.Sections.{◌▸◌}
use Rattle.image.specs.Image.{rows_section, line_section}
use Rattle.image.proofs.Laws.{byte_at, load_long, load_bad}
use Rattle.image.proofs.Stored.{read-good}
use Rattle.image.proofs.load_in.Goals as goal

-- where the three numbers begin
abbrev numbers_at : ℕ
numbers_at = (rows_section ▸ line_section ▸ line_section).size

pub returns-then-image-ne-IMAGE_LEN-clause-result_after : goal.returns-then-image-ne-IMAGE_LEN-clause-result_after
returns-then-image-ne-IMAGE_LEN-clause-result_after c = load_long c.args.image.now c.if-image-ne-IMAGE_LEN.true

pub returns-then-not-rows_fit-clause-result_after : goal.returns-then-not-rows_fit-clause-result_after
returns-then-not-rows_fit-clause-result_after c =
    load_bad c.args.image.now (omega arith) (sym c.rows_fit.ensures ∙ c.if-not-rows_fit.true)

pub returns-clause-result_after : goal.returns-clause-result_after
returns-clause-result_after c =
    let l = c.args.image.now in
    read-good l c.read_rows-seats.new.sets _ (omega arith) (sym c.rows_fit.ensures ∙ c.if-not-rows_fit.false) c.read_rows-seats.ensures.sets_of
    (record {
      seats_are = c.read_rows-seats.ensures.seats_to;
      waiting_is = c.read_places.ensures;
      entry-is = c.read_places-2.ensures;
      favoured_is = sym (byte_at l numbers_at 0);
      initial_is = sym (byte_at l numbers_at 1);
      leaves_are = sym (byte_at l numbers_at 2);
      passed_are = c.read_places-3.ensures;
    })
