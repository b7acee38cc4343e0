use Rattle.std.proofs.Common.{ap, ◌∙◌}
use Rattle.rules.specs.Boards.{set_program}
use Rattle.rules.specs.Calls.{hold}
use Rattle.store.specs.Store.{board_of}
use Rattle.store.proofs.Boards.{with_entry_lem}
use Rattle.apply.proofs.put_held.Goals as goal

pub returns : goal.returns
unfolding board_of hold
returns c = let a = c.args in
    with_entry_lem _ c.put.result _
    (c.put.ensures.result_after ∙ ap (set_program (board_of a.sets.now a.rest) a.p) c.new_program-held.ensures)
    _ _ c.append.ensures
