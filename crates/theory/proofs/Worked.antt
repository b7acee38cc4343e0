-- Where a program waits, two are admitted, and while somebody is favoured fewer programs have left than were admitted, by at least two.
-- Assumes nothing.
use Rattle.std.specs.Prelude.{ℕ, ◌≤◌, ◌+◌, ◌≡◌, refl, ◌≢◌, true, false, List, [], ◌∷◌, eqb, length}
use Rattle.std.proofs.Common.{arith, sym, ◌∙◌, ap, subst, ⊎_elim, eqb-true}
use mathlib.Core.List.Memᴰ
use Rattle.std.proofs.lemmas.Bool.{eqb-false}
use Rattle.laws.specs.Tests.{by_test, never}
use Rattle.rules.specs.declared.Board.{Board}
use Rattle.laws.specs.Lists.{all}
use Rattle.rules.specs.Boards.{is_admitted, is_waiting}
use Rattle.laws.specs.Laws.{◌∈◌, here}
use Rattle.theory.specs.Order.{IsOrder}
use Rattle.theory.specs.Programs.{Is, holds, ins, mem-ins, admitted_is}
use Rattle.theory.specs.Loose.{stands, waits_in, waiting_in, Good}
use Rattle.theory.specs.Carried.{holds_on}
use Rattle.theory.specs.Worked.{AwaitsInUse, first_runs}

two-members : (l : List ℕ) (a b : ℕ) → a ∈ l → b ∈ l → a ≢ b → 2 ≤ length l
two-members [] a b m k n = absurd (Memᴰ.not-nil m)
two-members (x ∷ []) a b m k n = absurd (n (Memᴰ.eq_of_singleton m ∙ sym (Memᴰ.eq_of_singleton k)))
two-members (x ∷ y ∷ l) a b m k n = omega arith

-- Where a program waits, two are admitted: it, and the first of an order or the user of the record that it waits for.
pub waiter_bound : (b : Board) (p : ℕ) → Good b → Is p → waits_in b.programs p ≡ true → 2 ≤ length (ins b.programs)
waiter_bound b p g c w = go g.loose.base.order.0 g.loose.base.order.1
  where
    m : p ∈ ins b.programs
    m = mem-ins b.programs p c (waiting_in (stands b.programs p) w)

    go : (o : List ℕ) → IsOrder (holds b.programs) (ins b.programs) o → 2 ≤ length (ins b.programs)
    go [] i = absurd (Memᴰ.not-nil (i.all p m))
    go (q ∷ o) i =
        let r = first_runs b q o g (subst (λ l. IsOrder (holds_on b) l (q ∷ o)) (sym (admitted_is b)) i) in
        by_test (eqb p q)
        (λ t. let d = eqb-true p q t in ⊎_elim (λ u. never w (ap (waits_in b.programs) d ∙ u))
        (λ (u : AwaitsInUse b q). two-members (ins b.programs) p u.user m (mem-ins b.programs u.user u.is
        (ap is_admitted u.used.0)) (λ e. never {t = false} (sym (ap is_waiting u.used.0) ∙ ap (waits_in b.programs) (sym e) ∙ w) refl)) r)
        (λ t. two-members (ins b.programs) p q m (i.only q here) (eqb-false p q t))

-- While somebody is favoured, fewer programs have left than were admitted, by at least two.
pub favoured_bound : (b : Board) → Good b → b.favoured ≢ 0 → b.leaves + 2 ≤ b.initial
favoured_bound b g n = let (i, w) = g.loose.fav-waits n in let k = waiter_bound b b.favoured g i w in
    let j = g.loose.count n in omega arith
