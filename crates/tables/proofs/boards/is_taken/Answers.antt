-- `is_taken` meets its contract. Assumes nothing.
use Rattle.std.proofs.Common.{◌≡◌, true, false, refl, sym, ◌∙◌, arith}
use Rattle.rules.specs.Boards.{everyone}
use Rattle.store.specs.Store.{seat_at}
use Rattle.tables.specs.Boards.{other_uses}
use Rattle.tables.proofs.Laws.{any_here, any_more, any_end}
use Rattle.tables.proofs.boards.is_taken.Goals as goal

pub loop-i-init : goal.loop-i-init
unfolding everyone
loop-i-init c = refl

pub returns-then-another_has : goal.returns-then-another_has
returns-then-another_has c =
    let a = c.args in let i = c.loop-i.i in
    let e : other_uses (seat_at a.rest i) i a.p a.f a.n ≡ true = cc in
    sym (c.loop-i.invariant ∙ any_here (λ k. other_uses (seat_at a.rest k) k a.p a.f a.n) i (omega arith) e)

pub loop-i-preserved : goal.loop-i-preserved
loop-i-preserved c =
    let a = c.args in let i = c.loop-i.i in
    let e : other_uses (seat_at a.rest i) i a.p a.f a.n ≡ false = cc in
    c.loop-i.invariant ∙ any_more (λ k. other_uses (seat_at a.rest k) k a.p a.f a.n) i (omega arith) e

pub returns : goal.returns
returns c = let a = c.args in sym (c.loop-i.invariant ∙ any_end (λ k. other_uses (seat_at a.rest k) k a.p a.f a.n) c.loop-i.i (omega arith))
