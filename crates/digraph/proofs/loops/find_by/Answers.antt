use Rattle.rules.specs.Digraph.{step}
use Rattle.store.specs.Store.{board_of}
use Rattle.digraph.proofs.Laws.{matrix_of_lem}
use Rattle.digraph.proofs.loops.find_by.Goals as goal

pub returns : goal.returns
returns c = let b = board_of c.args.sets.now c.args.rest in let e = c.fill_steps.ensures in
    c.find_in.ensures b e (matrix_of_lem b _ (c.close_rows.ensures.1 (step b) e))
