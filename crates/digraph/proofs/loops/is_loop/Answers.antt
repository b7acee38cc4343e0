use Rattle.std.proofs.Common.{◌∙◌}
use Rattle.store.specs.Store.{board_of}
use Rattle.digraph.proofs.LoopLaws.{loop_on}
use Rattle.digraph.proofs.loops.is_loop.Goals as goal

pub returns : goal.returns
returns c = c.is_loop_in.ensures ∙ loop_on (board_of c.args.sets.now c.args.rest) _ c.args.l.now c.fill_steps.ensures
