-- `claimed_by` meets its contract. Assumes nothing.
use Rattle.std.proofs.Common.{rules}
use Rattle.tables.specs.ProgramSets.{has_program, without_program}
use Rattle.tables.specs.Shared.{claimed_at}
use Rattle.tables.proofs.Walk.{came, rest_more, came-start, came-here, came-other, came_not, came-all}
use Rattle.tables.proofs.Sharing.{shared_none, shared_more, shared_same}
use Rattle.tables.proofs.rows.claimed_by.Goals as goal

pub loop-p-init : goal.loop-p-init
loop-p-init c = rw c.into_iter-p-iterator.ensures.into_iter_gives
    (λ x e. e, shared_none (claimed_at c.args.sets.now) (came c.args.set c.args.set) (came-start c.args.set))

pub loop-p-preserved : goal.loop-p-preserved
loop-p-preserved c =
    let s = c.args.sets.now in let a = c.args.set in let r = c.loop-p.p-iterator.left in let p = c.in-Some.p in
    let (l, e) = c.in-Some.ensures.steps in let i = c.loop-p.invariant in
    rw (e, c.with-claimed.ensures, c.claims_of.ensures) (
      rest_more a r p i.0,
      shared_more (claimed_at s) (came a r) (came a (without_program r p)) p c.loop-p.claimed (search rules)
          (came_not a r p l.2) (came-here a r p i.0 l.2) (came-other a r p) i.1,
    )

pub returns : goal.returns
returns c = shared_same (claimed_at c.args.sets.now) (came c.args.set c.loop-p.p-iterator.left) (has_program c.args.set) c.loop-p.claimed
    (λ p. came-all c.args.set c.loop-p.p-iterator.left p c.in-None.ensures.steps) c.loop-p.invariant.1
