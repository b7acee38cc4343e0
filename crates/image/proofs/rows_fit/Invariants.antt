use mathlib.Core.Path.{◌≡◌}
use mathlib.Core.Bool.{true}
use Rattle.image.specs.Image.{inquiries_in, row_section, inquiry_section, rows_agree}
use Rattle.image.proofs.Sections.{agree_many}
use Rattle.image.proofs.rows_fit.Given as goal

abbrev pub invariant-loop-i : goal.invariant-loop-i
invariant-loop-i l = agree_many row_section inquiry_section rows_agree l.i l.s (inquiries_in l.s) ≡ true
