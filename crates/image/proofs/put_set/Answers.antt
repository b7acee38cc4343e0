use mathlib.Core.Path.{ap}
use Rattle.files.specs.declared.FileSet.{FileSet}
use Rattle.image.proofs.Laws.{eight_written}
use Rattle.image.proofs.put_set.Goals as goal

pub returns : goal.returns
returns c = rw (eight_written _ _ c.to_le_bytes.ensures (ap (λ (s : FileSet). s.bits) c.set_at-s.ensures)) at c.put_at.ensures
