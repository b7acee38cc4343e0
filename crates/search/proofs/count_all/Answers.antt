-- `count_all` meets its contract. Assumes nothing.
use Rattle.std.proofs.Common.{sym, ap, subst, ◌∙◌}
use Rattle.tables.specs.declared.ProgramSet.{ProgramSet}
use Rattle.tables.specs.ProgramSets.{without_program, common_of}
use Rattle.search.specs.Counts.{raised, CanRaise}
use Rattle.search.proofs.Counting.{CountedBut, counting_start, can_raise, counting_more, counting_done}
use Rattle.search.proofs.count_all.Goals as goal

pub loop-p-init : goal.loop-p-init
loop-p-init c = rw c.into_iter-p-iterator.ensures.into_iter_gives (counting_start c.args.rows.now c.args.left c.args.counts.now c.requires)

pub raise-requires : goal.raise-requires
raise-requires c = subst (λ (x : ProgramSet). CanRaise x c.loop-p.counts) (sym c.and.ensures)
    (can_raise c.args.rows.now c.args.left c.loop-p.p-iterator.left c.loop-p.counts c.loop-p.invariant c.row_of.result)

pub loop-p-preserved : goal.loop-p-preserved
loop-p-preserved c =
    let rows = c.args.rows.now in let left = c.args.left in let rest = c.loop-p.p-iterator.left in let p = c.in-Some.p in
    let (l, e) = c.in-Some.ensures.steps in
    rw e (subst (CountedBut rows left (without_program rest p))
    (sym (c.raise.ensures ∙ ap (λ (x : ProgramSet). raised x c.loop-p.counts) (c.and.ensures ∙ ap (λ (x : ProgramSet). common_of x left) c.row_of.ensures)))
    (counting_more rows left rest c.loop-p.counts c.loop-p.invariant p l.2))

pub returns : goal.returns
returns c = counting_done c.args.rows.now c.args.left c.loop-p.p-iterator.left c.loop-p.counts c.loop-p.invariant c.in-None.ensures.steps
