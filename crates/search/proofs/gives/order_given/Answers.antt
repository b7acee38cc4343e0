-- `order_given` meets its contract. Assumes nothing.
use Rattle.std.proofs.Common.{◌≡◌, ℕ, ◌-◌, ◌≤◌, set, ap, ◌∙◌}
use Rattle.rules.specs.declared.Board.{Board}
use Rattle.rules.specs.declared.Mode.TheVariants.{Write, Read, Inquiry}
use Rattle.rules.specs.Orders.{carried, with_given}
use Rattle.store.specs.Sets.{Sets, open_place, row_in, given_at}
use Rattle.store.specs.Store.{board_of}
use Rattle.store.proofs.Given.{given_back}
use Rattle.store.proofs.Changing.{given-board}
use Rattle.search.specs.Rows.{as_order}
use Rattle.search.proofs.gives.order_given.Goals as goal

-- the rows are put back
put_back : (sets after : Sets) (p f w r i : ℕ) → 1 ≤ p → p ≤ 32 → after ≡ given_at sets p f → w ≡ open_place Write (p - 1) → r ≡ open_place Read (p - 1)
    → i ≡ open_place Inquiry (p - 1) → set (set (set after w (row_in sets w)) r (row_in sets r)) i (row_in sets i) ≡ sets
put_back sets after p f w r i h k e d c b = rw (e, d, c, b) (given_back sets p f h k)

pub returns-clause-value : goal.returns-clause-value
unfolding with_given
returns-clause-value c = let a = c.args in
    c.carried_in-order.ensures ∙ ap (λ (b : Board). as_order (carried b)) (ap (λ (l : Sets). board_of l a.rest) c.give.ensures
    ∙ given-board a.sets.now a.rest a.p a.f c.requires.0 c.requires.1 c.sized.ensures)

pub returns-clause-sets_unchanged : goal.returns-clause-sets_unchanged
returns-clause-sets_unchanged c =
    put_back c.args.sets.now _ c.args.p c.args.f _ _ _ c.requires.0 c.requires.1 c.give.ensures
    c.open_at-w.ensures.0 c.open_at-r.ensures.0 c.open_at-i.ensures.0
