-- `lowest_free` meets its contract. Assumes nothing.
use Rattle.std.proofs.Common.{ℕ, ap, sym, ◌∙◌, get_or}
use borrow.Author.Tests.{eq-eqb, ne_eqb}
use Rattle.search.specs.Counts.{count_of}
use Rattle.search.proofs.Lowest.{untried_more, lowest-at, lowest-no}
use Rattle.search.proofs.lowest_free.Goals as goal

pub returns-then-counts-place_of-eq0-clause-value : goal.returns-then-counts-place_of-eq0-clause-value
returns-then-counts-place_of-eq0-clause-value c =
    let counts = c.args.counts.now in let p = c.in-Some.p in
    lowest-at counts c.args.left c.loop-p.p-iterator.left p c.loop-p.invariant c.in-Some.ensures.steps.0
    (eq-eqb (count_of counts p) 0 (ap (λ (k : ℕ). get_or counts k 0) (sym c.place_of.ensures.0) ∙ c.if-counts-place_of-eq0.true))

pub loop-p-preserved : goal.loop-p-preserved
loop-p-preserved c =
    let counts = c.args.counts.now in let p = c.in-Some.p in
    rw c.in-Some.ensures.steps.1 (untried_more counts c.args.left c.loop-p.p-iterator.left p c.loop-p.invariant
    (ne_eqb (count_of counts p) 0 (λ z. c.if-counts-place_of-eq0.false (ap (λ (k : ℕ). get_or counts k 0) c.place_of.ensures.0 ∙ z))))

pub returns-clause-value : goal.returns-clause-value
returns-clause-value c = lowest-no c.args.counts.now c.args.left c.loop-p.p-iterator.left c.loop-p.invariant c.in-None.ensures.steps
