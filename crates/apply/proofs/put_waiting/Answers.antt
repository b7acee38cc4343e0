use Rattle.std.proofs.Common.{◌≡◌, length, ap, ◌∙◌, rules}
use Rattle.rules.specs.declared.Standing.{Standing}
use Rattle.store.specs.declared.Rest.{Rest}
use Rattle.store.specs.Store.{board_of}
use Rattle.store.proofs.Changing.{reseat_board}
use Rattle.store.proofs.Boards.{with_waiting_lem}
use Rattle.apply.proofs.put_waiting.Goals as goal

pub returns : goal.returns
unfolding board_of
returns c = let a = c.args in let n : length a.rest.seats ≡ 32 = search rules in
    with_waiting_lem a.sets.now c.put_seat.result _
    (ap (λ (r : Rest). board_of a.sets.now r) c.put_seat.ensures
    ∙ reseat_board a.sets.now a.rest a.p c.requires.0.0 c.requires.0.1 c.sized.ensures
    (record { standing = Standing.Waiting a.f; file = a.g; item = a.n }) n)
    _ _ c.append.ensures
