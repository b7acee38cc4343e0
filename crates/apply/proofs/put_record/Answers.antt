use Rattle.std.proofs.Common.{◌≡◌, length, sym, ap, ◌∙◌, rules}
use Rattle.rules.specs.declared.Standing.{Standing}
use Rattle.rules.specs.Boards.{at, set_program, set_standing, set_item}
use Rattle.store.specs.declared.Rest.{Rest}
use Rattle.store.specs.Store.{board_of}
use Rattle.store.proofs.Changing.{reseat_board, standing_is}
use Rattle.apply.proofs.put_record.Goals as goal

pub returns : goal.returns
returns c = let a = c.args in let b = board_of a.sets.now a.rest in let n : length a.rest.seats ≡ 32 = search rules in
    ap (λ (r : Rest). board_of a.sets.now r) c.put_seat.ensures
    ∙ reseat_board a.sets.now a.rest a.p c.requires.0 c.requires.1 c.sized.ensures
    (record { standing = c.standing_at.result; file = a.f; item = a.n }) n
    ∙ ap (λ (x : Standing). set_program b a.p (set_item (set_standing (at b a.p) x) a.f a.n))
    (c.standing_at.ensures ∙ sym (standing_is a.sets.now a.rest a.p c.requires.0 c.requires.1 c.sized.ensures))
