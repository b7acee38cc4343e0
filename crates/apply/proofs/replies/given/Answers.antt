use Rattle.std.proofs.Common.{ap, ◌∙◌}
use Rattle.rules.specs.declared.Answer.{Answer}
use Rattle.rules.specs.declared.Word.{Word}
use Rattle.rules.specs.Settling.{line}
use Rattle.store.specs.Store.{board_of}
use Rattle.settling.specs.Writing.{Written}
use Rattle.apply.specs.Replies.{replied}
use Rattle.apply.proofs.Laws.{wrote-reply}
use Rattle.apply.proofs.replies.given.Goals as goal

pub returns-clause-comes_to : goal.returns-clause-comes_to
returns-clause-comes_to c = let a = c.args in
    ap (λ (w : Written). replied w Answer.Given) c.one_line-progress.ensures.result_after
    ∙ wrote-reply (board_of a.sets.now a.rest) Answer.Given (line Word.Given a.p a.f)
