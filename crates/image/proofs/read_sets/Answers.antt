use Rattle.image.specs.Image.{joined, row_section, inquiry_section}
use Rattle.image.proofs.Laws.{take_same}
use Rattle.image.proofs.Stored.{sets-taken}
use Rattle.image.proofs.read_sets.Goals as goal

pub returns : goal.returns
returns c =
    let a = c.args in
    sets-taken (joined (row_section.read a.s.now) (inquiry_section.read a.x.now)) a.p c.claim_at.result c.open_at.result
    c.requires.le_p.0 c.requires.le_p.1 c.claim_at.ensures.0 c.open_at.ensures.0
    (simp take_same at c.take_three.ensures) (simp take_same at c.take_three-2.ensures)
