use Rattle.std.proofs.Common.{ap, ◌∙◌}
use Rattle.rules.specs.declared.Answer.{Answer}
use Rattle.store.specs.Store.{board_of}
use Rattle.settling.specs.Writing.{Written}
use Rattle.apply.specs.Replies.{replied}
use Rattle.apply.proofs.Laws.{none-lines, wrote_none}
use Rattle.apply.proofs.replies.refused.Goals as goal

pub returns-clause-comes_to : goal.returns-clause-comes_to
returns-clause-comes_to c = let a = c.args in let b = board_of a.sets.now a.rest in
    rw c.unordered.ensures
    (ap (λ (w : Written). replied w (Answer.Refuse a.refusal)) (none-lines b a.lines.now c.requires) ∙ wrote_none b a.refusal)
