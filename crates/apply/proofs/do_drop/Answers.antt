use Rattle.std.proofs.Common.{◌≡◌, ℕ, ◌≤◌, ap, ◌∙◌}
use Rattle.rules.specs.declared.Board.{Board}
use Rattle.rules.specs.Boards.{at, set_program, dropping}
use Rattle.rules.specs.Calls.{done, drop_file}
use Rattle.store.specs.declared.Rest.{Rest}
use Rattle.store.specs.Sets.{Sets, IsStore, dropped_at}
use Rattle.store.specs.Store.{board_of}
use Rattle.store.proofs.Changing.{dropped_board}
use Rattle.apply.proofs.Laws.{drop_settles}
use Rattle.apply.proofs.do_drop.Goals as goal

-- the board before settling
changed : (old new : Sets) (r : Rest) (p f : ℕ) → (1 ≤ p) × (p ≤ 32) → IsStore old → new ≡ dropped_at old p f
    → board_of new r ≡ set_program (board_of old r) p (dropping (at (board_of old r) p) f)
changed old new r p f i st e = ap (λ (x : Sets). board_of x r) e ∙ dropped_board old r p f i.0 i.1 st

pub done-requires : goal.done-requires
done-requires c = let a = c.args in (
  drop_settles (board_of a.sets.now a.rest) _ a.p a.f (changed _ _ a.rest a.p a.f c.requires.0 c.sized.ensures c.drop.ensures) c.requires.1 c.requires.2,
  c.requires.3,
)

pub returns-clause-comes_to : goal.returns-clause-comes_to
unfolding drop_file
returns-clause-comes_to c = let a = c.args in c.done.ensures.comes_to ∙ ap (λ (x : Board). done x a.p a.f) (changed _ _ a.rest a.p a.f c.requires.0 c.sized.ensures c.drop.ensures)
