use mathlib.Core.Path.{◌≡◌, refl, sym, ◌∙◌}
use native.Mathlib.Omega.{arith}
use native.Mathlib.Numerals.{add-one}
use Rattle.image.specs.Sections.{read_many, agree}
use Rattle.image.specs.Image.{inquiries_in, row_section, inquiry_section, rows_agree}
use Rattle.image.proofs.Sections.{agree-more, agree_fail}
use Rattle.image.proofs.Stored.{fits_is}
use Rattle.image.proofs.rows_fit.Goals as goal

pub loop-i-init : goal.loop-i-init
unfolding read_many agree
loop-i-init c = refl

pub loop-i-preserved : goal.loop-i-preserved
loop-i-preserved c =
    let s = c.args.s.now in
    rw (add-one c.loop-i.i)
    (agree-more row_section inquiry_section rows_agree c.loop-i.i s (inquiries_in s) c.loop-i.invariant (sym c.row_fits.ensures ∙ c.if-not-row_fits.false))

pub returns-then-not-row_fits : goal.returns-then-not-row_fits
returns-then-not-row_fits c =
    let s = c.args.s.now in
    sym (fits_is s ∙ agree_fail row_section inquiry_section rows_agree c.loop-i.i 32 s (inquiries_in s) (sym c.row_fits.ensures ∙ c.if-not-row_fits.true) (omega arith))

pub returns : goal.returns
returns c = let e : c.loop-i.i ≡ 32 = omega arith in sym (fits_is c.args.s.now ∙ (rw e at c.loop-i.invariant))
