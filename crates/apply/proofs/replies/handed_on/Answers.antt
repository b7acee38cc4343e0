use Rattle.store.specs.Store.{board_of}
use Rattle.apply.proofs.Handing.{handed_settles, finish-is}
use Rattle.apply.proofs.replies.handed_on.Goals as goal

pub settled-requires : goal.settled-requires
settled-requires c = let a = c.args in
    let k = handed_settles _ _ (board_of a.sets.now a.rest) a.p a.f a.n c.one_line-w.ensures.result_after c.hand_on-h.ensures c.requires.0 in
    k

pub returns-clause-comes_to : goal.returns-clause-comes_to
returns-clause-comes_to c = let a = c.args in
    rw c.unordered-c.ensures
    (finish-is _ _ (board_of a.sets.now a.rest) a.p a.f a.n c.one_line-w.ensures.result_after c.hand_on-h.ensures
    c.requires.0 _ c.settled.ensures)
