use mathlib.Core.Path.{◌∙◌}
use Rattle.image.proofs.Stored.{seat_tested}
use Rattle.image.proofs.row_fits.Goals as goal

pub returns : goal.returns
returns c =
    rw (c.row-row.ensures.value, c.inquiry-inquiry.ensures.value) at
    (c.seat_fits.ensures ∙ seat_tested c.row-row.result.now c.inquiry-inquiry.result.now c.read_item-u.result c.read_item-a.result
    c.inquiry-inquiry.ensures.len c.read_item-u.ensures c.read_item-a.ensures)
