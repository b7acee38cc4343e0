use Rattle.std.proofs.Common.{ap, ◌∙◌}
use Rattle.store.proofs.Boards.{board-sets}
use Rattle.tables.proofs.Given.{seats_admitted}
use Rattle.digraph.specs.Rows.{holder_rows}
use Rattle.digraph.proofs.Laws.{steps_are}
use Rattle.digraph.proofs.fill_steps.Goals as goal

pub returns : goal.returns
returns c = let a = c.args in
    c.fill_holders.ensures ∙ ap (holder_rows a.sets.now) (c.admitted_seats.ensures ∙ seats_admitted a.sets.now a.rest)
    ∙ steps_are _ _ (board-sets a.sets.now a.rest c.sized.ensures)
