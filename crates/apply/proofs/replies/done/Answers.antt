use Rattle.store.specs.Store.{board_of}
use Rattle.apply.proofs.Laws.{done_is}
use Rattle.apply.proofs.replies.done.Goals as goal

pub returns-clause-comes_to : goal.returns-clause-comes_to
returns-clause-comes_to c = let a = c.args in
    rw c.unordered-c.ensures
    (done_is _ _ (board_of a.sets.now a.rest) a.p a.f c.one_line-w.ensures.result_after c.settled.ensures c.requires.0)
