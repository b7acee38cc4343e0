use Rattle.std.proofs.Common.{◌≡◌, ℕ, ◌≤◌, ap, ◌∙◌}
use Rattle.rules.specs.declared.Board.{Board}
use Rattle.rules.specs.Boards.{at, set_program, closing}
use Rattle.rules.specs.Calls.{done, close_file}
use Rattle.store.specs.declared.Rest.{Rest}
use Rattle.store.specs.Sets.{Sets, IsStore, closed_at}
use Rattle.store.specs.Store.{board_of}
use Rattle.store.proofs.Changing.{closed-board}
use Rattle.apply.proofs.Laws.{close_settles}
use Rattle.apply.proofs.do_close.Goals as goal

-- the board before settling
changed : (old new : Sets) (r : Rest) (p f : ℕ) → (1 ≤ p) × (p ≤ 32) → IsStore old → new ≡ closed_at old p f
    → board_of new r ≡ set_program (board_of old r) p (closing (at (board_of old r) p) f)
changed old new r p f i st e = ap (λ (x : Sets). board_of x r) e ∙ closed-board old r p f i.0 i.1 st

pub done-requires : goal.done-requires
done-requires c = let a = c.args in (
  close_settles (board_of a.sets.now a.rest) _ a.p a.f (changed _ _ a.rest a.p a.f c.requires.0 c.sized.ensures c.close.ensures) c.requires.1 c.requires.2,
  c.requires.3,
)

pub returns-clause-comes_to : goal.returns-clause-comes_to
unfolding close_file
returns-clause-comes_to c = let a = c.args in c.done.ensures.comes_to ∙ ap (λ (x : Board). done x a.p a.f) (changed _ _ a.rest a.p a.f c.requires.0 c.sized.ensures c.close.ensures)
