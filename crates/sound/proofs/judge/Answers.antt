use Rattle.std.proofs.Common.{true, false, ap, ◌∙◌}
use Rattle.rules.specs.Boards.{is_held, is_waiting}
use Rattle.rules.specs.Orders.{carried}
use Rattle.search.specs.declared.Order.{Order}
use Rattle.search.specs.Rows.{is_found}
use Rattle.search.proofs.Laws.{has-found}
use Rattle.search.proofs.Ordered.{order_of_lem}
use Rattle.store.specs.Store.{board_of}
use Rattle.store.proofs.Boards.{board-sets}
use Rattle.tables.proofs.Given.{seats_admitted}
use Rattle.sound.proofs.Seats.{seats_stand}
use Rattle.sound.proofs.judge.Goals as goal

pub is_sound_by-sound-requires : goal.is_sound_by-sound-requires
is_sound_by-sound-requires c = let a = c.args in let b = board_of a.sets.now a.rest in
    let admitted = c.admitted_seats-admitted.ensures ∙ seats_admitted a.sets.now a.rest in
    let order = c.order_in-order.ensures ∙ order_of_lem b _ _ _ (board-sets a.sets.now a.rest c.sized.ensures) c.fill_rows.ensures admitted in (
      record {
        admitted_are = admitted;
        is-ordered = c.is_found-ordered.ensures ∙ ap (λ (z : Order). is_found z.kind) order ∙ has-found (carried b);
        waiters_are = c.standing_set-waiters.ensures is_waiting (λ s r e. e.1) ∙ seats_stand a.sets.now a.rest false;
        held_are = c.standing_set-held.ensures is_held (λ s r e. e.1) ∙ seats_stand a.sets.now a.rest true;
      },
      c.fill_rows.ensures,
    )

pub returns : goal.returns
returns c = let a = c.args in (
  c.is_sound_by-sound.ensures,
  c.order_in-order.ensures ∙ order_of_lem (board_of a.sets.now a.rest) _ _ _ (board-sets a.sets.now a.rest c.sized.ensures) c.fill_rows.ensures
      (c.admitted_seats-admitted.ensures ∙ seats_admitted a.sets.now a.rest),
)
