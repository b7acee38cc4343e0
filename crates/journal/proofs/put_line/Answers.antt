use Prim.Native.Nat.{ℕ}
use mathlib.Core.Path.{ap, ◌∙◌}
use mathlib.Core.List.{List, ◌++◌}
use lib.ListN.{drop}
use Rattle.columns.specs.Columns.{word_width}
use Rattle.journal.proofs.Laws.{line-put}
use Rattle.journal.proofs.put_line.Goals as goal

pub returns : goal.returns
returns c =
    line-put c.args.l c.args.part.now _ _ _ _ _ c.requires
    (ap (λ (w : List ℕ). w ++ drop word_width c.args.part.now) (c.copy_from_slice.ensures.after ∙ c.word_bytes.ensures))
    c.put_number.ensures c.put_number-2.ensures c.put_number-3.ensures c.put_number-4.ensures
