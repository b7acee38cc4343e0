use Prim.Native.Nat.{◌+◌, ◌-◌, ◌<◌}
use mathlib.Core.Path.{◌≡◌, refl, ◌∙◌}
use native.Mathlib.Omega.{arith}
use borrow.Author.Rules.{rules}
use lib.Seq.{take_all}
use Rattle.columns.specs.Rows.{flat}
use Rattle.rules.specs.Boards.{no_program}
use Rattle.whole.proofs.Laws.{made, made_size, made_in}
use Rattle.image.specs.Image.{row_of, row_section, inquiry_of, inquiry_section}
use Rattle.image.proofs.Sections.{flat_map}
use Rattle.image.proofs.Laws.{put_row_part}
use Rattle.image.proofs.RoundTrip.{row_bytes, row-length, inquiry_bytes, inquiry_length}
use Rattle.image.proofs.put_programs.Goals as goal

pub loop-i-init : goal.loop-i-init
unfolding flat
loop-i-init c = record { rows = refl; inquiries = refl }

pub loop-i-preserved : goal.loop-i-preserved
loop-i-preserved c =
    let a = c.args in
    let l = c.loop-i in
    let m = made a.sets.now a.seats in
    let h : l.i < 32 = search rules in
    let z : l.i + 1 - 1 ≡ l.i = omega arith in
    let e = made_in a.sets.now a.seats l.i h in
    record {
      rows = put_row_part row_bytes row_section.size row-length a.rows.now l.rows c.put_row.new.out m no_program l.i
          (omega (arith, made_size a.sets.now a.seats)) l.invariant.rows (rw e (rw z at c.put_row.ensures));
      inquiries = put_row_part inquiry_bytes inquiry_section.size inquiry_length a.inquiries.now l.inquiries c.put_inquiry.new.out m no_program l.i
          (omega (arith, made_size a.sets.now a.seats)) l.invariant.inquiries (rw e (rw z at c.put_inquiry.ensures));
    }

pub returns-clause-rows_after : goal.returns-clause-rows_after
returns-clause-rows_after c =
    let m = made c.args.sets.now c.args.seats in
    let e : c.loop-i.i ≡ 32 = omega arith in
    (rw e at c.loop-i.invariant.rows) ∙ rw (take_all 32 m (omega (arith, made_size c.args.sets.now c.args.seats)), flat_map row_section.write row_of m)

pub returns-clause-inquiries_after : goal.returns-clause-inquiries_after
returns-clause-inquiries_after c =
    let m = made c.args.sets.now c.args.seats in
    let e : c.loop-i.i ≡ 32 = omega arith in
    (rw e at c.loop-i.invariant.inquiries)
    ∙ rw (take_all 32 m (omega (arith, made_size c.args.sets.now c.args.seats)), flat_map inquiry_section.write inquiry_of m)
