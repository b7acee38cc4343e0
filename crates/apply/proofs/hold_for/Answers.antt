use Rattle.store.specs.Store.{board_of}
use Rattle.apply.proofs.Laws.{entry_free, held_for_is}
use Rattle.apply.proofs.hold_for.Goals as goal

pub put_held-c-requires : goal.put_held-c-requires
put_held-c-requires c = let a = c.args in
    (c.requires.0, entry_free a.sets.now a.rest a.p a.claims c.requires.1 c.requires.2)

pub returns-clause-comes_to : goal.returns-clause-comes_to
returns-clause-comes_to c = let a = c.args in
    rw c.unordered.ensures
    (held_for_is _ _ (board_of a.sets.now a.rest) _ a.p a.claims.writable a.claims.readable a.claims.inquirable a.w
    c.put_held-c.ensures c.one_line-held.ensures.result_after c.favour_waiter-progress.ensures)
