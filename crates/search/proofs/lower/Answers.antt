-- `lower` meets its contract. Assumes nothing.
use Rattle.std.proofs.Common.{ℕ, ◌-◌, ap, ◌∙◌, get_or}
use Rattle.search.specs.Counts.{lowered}
use Rattle.tables.proofs.Walk.{wrote-next, wrote-here, wrote-done}
use Rattle.search.proofs.lower.Goals as goal

pub loop-p-preserved : goal.loop-p-preserved
loop-p-preserved c =
    let s = c.args.set in let before = c.args.counts.now in let g = λ (i : ℕ). get_or before i 0 - 1 in
    let rest = c.loop-p.p-iterator.left in let l = c.loop-p.counts in let p = c.in-Some.p in let i = c.place_of.ensures.0 in
    wrote-next s g before rest _ l p _ _ c.loop-p.invariant c.in-Some.ensures.steps i
    (ap (λ (n : ℕ). n - 1) (ap (λ (k : ℕ). get_or l k 0) i ∙ wrote-here s g before rest l p c.loop-p.invariant c.in-Some.ensures.steps.0))

pub returns : goal.returns
unfolding lowered
returns c = let before = c.args.counts.now in
    wrote-done c.args.set (λ (i : ℕ). get_or before i 0 - 1) before c.loop-p.p-iterator.left c.loop-p.counts c.in-None.ensures.steps c.loop-p.invariant
