use Rattle.std.proofs.Common.{ap, ◌∙◌}
use Rattle.rules.specs.Settling.{line_of}
use Rattle.store.specs.Store.{board_of}
use Rattle.settling.specs.Writing.{Written}
use Rattle.apply.specs.Replies.{replied}
use Rattle.apply.proofs.Laws.{wrote-reply}
use Rattle.apply.proofs.replies.answered.Goals as goal

pub returns-clause-comes_to : goal.returns-clause-comes_to
returns-clause-comes_to c = let a = c.args in
    rw c.unordered.ensures
    (ap (λ (w : Written). replied w a.answer) c.one_line-progress.ensures.result_after
    ∙ wrote-reply (board_of a.sets.now a.rest) a.answer (line_of a.word a.p a.f a.n))
