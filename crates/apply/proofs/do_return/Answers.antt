use Rattle.std.proofs.Common.{ℕ, ap, ap₂, ◌∙◌}
use Rattle.rules.specs.declared.Board.{Board}
use Rattle.rules.specs.Boards.{at, set_program, set_item}
use Rattle.rules.specs.Settling.{hand_on}
use Rattle.rules.specs.Calls.{finish, return_item}
use Rattle.store.specs.Store.{board_of}
use Rattle.apply.proofs.Laws.{seat-file, seat-item}
use Rattle.apply.proofs.Handing.{return_hands}
use Rattle.apply.proofs.do_return.Goals as goal

pub handed_on-requires : goal.handed_on-requires
handed_on-requires c = let a = c.args in (
  return_hands (board_of a.sets.now a.rest) _ a.p _ _ c.put_record-free.ensures
      (seat-file a.sets.now a.rest a.p c.requires.0 c.sized.ensures c.seat_at-seat.ensures)
      (seat-item a.sets.now a.rest a.p c.requires.0 c.sized.ensures c.seat_at-seat.ensures) c.requires.1 c.requires.2,
  c.requires.3,
)

pub returns-clause-comes_to : goal.returns-clause-comes_to
unfolding return_item
returns-clause-comes_to c = let a = c.args in let b = board_of a.sets.now a.rest in
    c.handed_on.ensures.comes_to
    ∙ ap (λ (x : Board). finish (hand_on x c.seat_at-seat.result.file c.seat_at-seat.result.item) a.p 0) c.put_record-free.ensures
    ∙ ap₂ (λ (x y : ℕ). finish (hand_on (set_program b a.p (set_item (at b a.p) 0 0)) x y) a.p 0)
    (seat-file a.sets.now a.rest a.p c.requires.0 c.sized.ensures c.seat_at-seat.ensures)
    (seat-item a.sets.now a.rest a.p c.requires.0 c.sized.ensures c.seat_at-seat.ensures)
