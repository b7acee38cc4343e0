use Rattle.std.proofs.Common.{sym, ap, ◌∙◌}
use Rattle.rules.specs.declared.Standing.{Standing}
use Rattle.rules.specs.declared.Board.{Board}
use Rattle.rules.specs.Calls.{done, withdrawn, cancel}
use Rattle.store.specs.Store.{board_of}
use Rattle.store.proofs.Changing.{standing_is}
use Rattle.apply.proofs.Laws.{cancel_settles, leaves-few}
use Rattle.apply.proofs.do_cancel.Goals as goal

pub withdraw-c-requires : goal.withdraw-c-requires
withdraw-c-requires c = (c.requires.0, leaves-few c.args.sets.now c.args.rest c.requires.1)

-- the standing is that of the board
pub done-requires : goal.done-requires
done-requires c = let a = c.args in let b = board_of a.sets.now a.rest in (
  cancel_settles b _ a.p
      (c.withdraw-c.ensures ∙ ap (λ (x : Standing). withdrawn b a.p x)
      (c.standing_at-s.ensures ∙ sym (standing_is a.sets.now a.rest a.p c.requires.0.0 c.requires.0.1 c.sized.ensures)))
      c.requires.1 c.requires.2,
  c.requires.3,
)

pub returns-clause-comes_to : goal.returns-clause-comes_to
unfolding cancel
returns-clause-comes_to c = let a = c.args in let b = board_of a.sets.now a.rest in
    c.done.ensures.comes_to ∙ ap (λ (x : Board). done x a.p 0)
    (c.withdraw-c.ensures ∙ ap (λ (x : Standing). withdrawn b a.p x)
    (c.standing_at-s.ensures ∙ sym (standing_is a.sets.now a.rest a.p c.requires.0.0 c.requires.0.1 c.sized.ensures)))
