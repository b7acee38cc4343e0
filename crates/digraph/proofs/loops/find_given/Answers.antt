use Rattle.std.proofs.Common.{ap, subst, ◌∙◌}
use Rattle.rules.specs.declared.Board.{Board}
use Rattle.store.specs.Sets.{Sets}
use Rattle.store.specs.Store.{board_of}
use Rattle.digraph.specs.Loops.{LoopOf}
use Rattle.digraph.proofs.LoopLaws.{given_as}
use Rattle.digraph.proofs.loops.find_given.Goals as goal

pub returns : goal.returns
returns c = let a = c.args in let k = c.take-rest in subst (λ (x : Board). LoopOf x c.find_by.result)
    (ap (λ (x : Sets). board_of x k.result) c.give.ensures
    ∙ given_as a.b k.new.sets k.result k.ensures.0 k.ensures.1 a.p c.requires.0 c.requires.1 a.f)
    c.find_by.ensures
