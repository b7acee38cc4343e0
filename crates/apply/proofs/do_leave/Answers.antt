use Rattle.std.proofs.Common.{ℕ, ◌≤◌, sym, ap, ap₂, subst, ◌∙◌}
use Rattle.rules.specs.declared.Board.{Board}
use Rattle.rules.specs.Boards.{no_program, set_program}
use Rattle.rules.specs.Settling.{hand_on}
use Rattle.rules.specs.Calls.{count_leave, finish, leave}
use Rattle.store.specs.declared.Rest.{Rest}
use Rattle.store.specs.Store.{board_of}
use Rattle.apply.proofs.Laws.{seat-file, seat-item, leaves-few}
use Rattle.apply.proofs.Handing.{leave_hands}
use Rattle.apply.proofs.do_leave.Goals as goal

pub counted-c-requires : goal.counted-c-requires
counted-c-requires c =
    subst (λ (r : Rest). r.leaves ≤ 32) (sym c.put-left.ensures.value.0) (leaves-few c.args.sets.now c.args.rest c.requires.1)

pub handed_on-requires : goal.handed_on-requires
handed_on-requires c = let a = c.args in (
  leave_hands (board_of a.sets.now a.rest) _ a.p _ _
      (c.counted-c.ensures ∙ ap count_leave c.put-left.ensures.result_after)
      (seat-file a.sets.now a.rest a.p c.requires.0 c.sized.ensures c.seat_at-seat.ensures)
      (seat-item a.sets.now a.rest a.p c.requires.0 c.sized.ensures c.seat_at-seat.ensures) c.requires.1 c.requires.2,
  c.requires.3,
)

pub returns-clause-comes_to : goal.returns-clause-comes_to
unfolding leave
returns-clause-comes_to c = let a = c.args in let b = board_of a.sets.now a.rest in
    c.handed_on.ensures.comes_to
    ∙ ap (λ (x : Board). finish (hand_on x c.seat_at-seat.result.file c.seat_at-seat.result.item) a.p 0)
    (c.counted-c.ensures ∙ ap count_leave c.put-left.ensures.result_after)
    ∙ ap₂ (λ (x y : ℕ). finish (hand_on (count_leave (set_program b a.p no_program)) x y) a.p 0)
    (seat-file a.sets.now a.rest a.p c.requires.0 c.sized.ensures c.seat_at-seat.ensures)
    (seat-item a.sets.now a.rest a.p c.requires.0 c.sized.ensures c.seat_at-seat.ensures)
