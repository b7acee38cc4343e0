use Rattle.std.proofs.Common.{ap, ◌∙◌}
use Rattle.rules.specs.declared.Board.{Board}
use Rattle.rules.specs.Digraph.{step}
use Rattle.digraph.specs.Rows.{rows_saying}
use Rattle.digraph.proofs.Laws.{matrix_of_lem}
use Rattle.digraph.proofs.fill_matrix.Goals as goal

pub returns : goal.returns
returns c = let b = c.args.b in
    matrix_of_lem b _ (c.close_rows.ensures.1 (step b) (c.fill_steps.ensures ∙ ap (λ (x : Board). rows_saying (step x)) c.take-rest.ensures.1))
