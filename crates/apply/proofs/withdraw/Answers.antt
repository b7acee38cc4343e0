use Rattle.std.proofs.Common.{ap, ◌∙◌}
use Rattle.rules.specs.declared.Board.{Board}
use Rattle.rules.specs.Calls.{count_cancel}
use Rattle.store.specs.Store.{board_of}
use Rattle.store.proofs.Boards.{with_entry_lem}
use Rattle.apply.proofs.Laws.{with_cancelled}
use Rattle.apply.proofs.withdraw.Goals as goal

pub returns-in-Waiting : goal.returns-in-Waiting
unfolding board_of
returns-in-Waiting c =
    rw c.in-Waiting.is
    (c.cancel_counted.ensures ∙ ap (λ (x : Board). count_cancel x c.args.p)
    (with_cancelled _ c.put-c.result _ c.put-c.ensures.result_after c.args.p _ _ c.remove-c.ensures))

pub returns-in-Held : goal.returns-in-Held
unfolding board_of
returns-in-Held c =
    rw c.in-Held.is (with_entry_lem _ c.put.result _ c.put.ensures.result_after _ _ c.remove.ensures)
