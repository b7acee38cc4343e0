use Prim.Native.Nat.{ℕ}
use mathlib.Core.Path.{ap, ◌∙◌}
use Rattle.std.proofs.Common.{w64}
use Rattle.std.specs.Int.{from_le_bytes}
use Rattle.files.specs.declared.FileSet.{FileSet}
use Rattle.image.proofs.Laws.{word_eight}
use Rattle.image.proofs.read_set.Goals as goal

pub returns : goal.returns
returns c =
    ap {B = FileSet} (λ (x : ℕ). record { bits = x })
    (c.from_le_bytes.ensures ∙ ap (from_le_bytes w64) c.copy_from_slice.ensures.after ∙ word_eight c.args.s.now c.requires)
