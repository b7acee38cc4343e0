-- `in_own` meets its contract. Assumes nothing.
use Rattle.std.proofs.Common.{rules}
use Rattle.tables.proofs.Walk.{all-passing}
use Rattle.digraph.specs.Rows.{cell}
use Rattle.digraph.proofs.LoopLaws.{cell_of}
use Rattle.digraph.proofs.loops.in_own.Goals as goal

pub returns : goal.returns
returns c = let rows = c.args.rows.now in all-passing c.those.result (λ p. cell rows p p) (search rules)
    (λ x h k. search (rules, cell_of rows x x h k, c.those.ensures x h k))
