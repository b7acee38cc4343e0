-- From the arrays to boards: the carried order. Assumes nothing.
use mathlib.Core.Path.{◌≡◌, refl, sym, ap, ◌∙◌}
use mathlib.Core.Bool.{true}
use mathlib.Core.Option.{Option, none, some}
use mathlib.Core.List.{List}
use Prim.Native.Nat.{ℕ}
use Rattle.rules.specs.declared.Board.{Board}
use Rattle.rules.specs.Orders.{carried}
use Rattle.tables.specs.declared.ProgramSet.{ProgramSet}
use Rattle.store.specs.Sets.{Sets, SetsOf}
use Rattle.tables.specs.Tables.{rows_of}
use Rattle.tables.proofs.Whole.{rows_for}
use Rattle.tables.specs.Boards.{admitted_set}
use Rattle.laws.specs.Tests.{never}
use Rattle.laws.specs.Lists.{found}
use Rattle.search.specs.declared.Search.{Search}
use Rattle.search.specs.declared.Order.{Order}
use Rattle.search.specs.Rows.{as_order, order_in, is_found}
use Rattle.search.proofs.Laws.{order_for}

-- by the arrays of the board
pub order_of_lem : (b : Board) (sets : Sets) (rows : List ℕ) (left : ProgramSet) → SetsOf b sets → rows ≡ rows_of sets left → left ≡ admitted_set b
    → order_in rows left ≡ as_order (carried b)
order_of_lem b sets rows left s e d = ap (λ (l : List ℕ). order_in l left) e ∙ order_for (rows_of sets left) left b (rows_for b sets left s) d

-- ---- what a search comes back with

pub order-none : (o : Option (List ℕ)) (r : Order) → r ≡ as_order o → r.kind ≡ Search.Stuck → o ≡ none
order-none none r e k = refl
order-none (some l) r e k = never {t = true} refl (ap is_found (sym (ap (λ (x : Order). x.kind) e) ∙ k))

pub order-found : (o : Option (List ℕ)) (r : Order) (n : ℕ) → r ≡ as_order o → r.kind ≡ Search.Found n → found o ≡ true
order-found none r n e k = never {t = true} refl (ap is_found (sym k ∙ ap (λ (x : Order). x.kind) e))
order-found (some l) r n e k = refl
