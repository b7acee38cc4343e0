use Rattle.std.proofs.Common.{◌+◌, cond, sym, ap, ◌∙◌, get_or, arith, length-set}
use Rattle.rules.specs.Boards.{is_waiting}
use Rattle.store.specs.Store.{board_of}
use Rattle.store.proofs.Boards.{board_in}
use Rattle.settling.proofs.Counting.{few_here, tally_more, tally_all}
use Rattle.settling.proofs.counts.tally.Goals as goal

pub one_more-requires : goal.one_more-requires
one_more-requires c = few_here c.args.rest.passed c.loop-i.i (omega arith) c.requires

pub loop-i-preserved : goal.loop-i-preserved
unfolding board_of
loop-i-preserved c = let a = c.args in let l = c.loop-i in (
  length-set l.counts l.i c.one_more.result ∙ l.invariant.0,
  tally_more (board_of a.sets.now a.rest) l.i l.counts c.one_more.result (omega arith) l.invariant.0 l.invariant.1
      (c.one_more.ensures ∙ sym (ap (λ q. cond (is_waiting q.standing) (get_or a.rest.passed l.i 0 + 1) 0) (board_in a.sets.now a.rest l.i (omega arith)))),
)

pub returns : goal.returns
returns c = tally_all (board_of c.args.sets.now c.args.rest) c.loop-i.counts c.loop-i.invariant.0 (λ i m. c.loop-i.invariant.1 i (omega arith))
