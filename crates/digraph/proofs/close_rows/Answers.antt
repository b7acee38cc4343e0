use Rattle.std.proofs.Common.{arith}
use Rattle.rules.specs.Digraph.{paths}
use Rattle.digraph.proofs.Laws.{above, close_none, close_more, close_all}
use Rattle.digraph.proofs.close_rows.Goals as goal

pub loop-k-init : goal.loop-k-init
loop-k-init c = (c.requires, λ g s. close_none g c.args.rows.now s)

pub loop-k-preserved : goal.loop-k-preserved
loop-k-preserved c = let l = c.loop-k in (
  c.pass.ensures.0,
  λ g s. close_more g l.k c.pass.new.rows (omega arith) (omega arith) (c.pass.ensures.1 (paths g (above l.k)) (l.invariant.1 g s)),
)

pub returns : goal.returns
returns c = let l = c.loop-k in (l.invariant.0, λ g s. close_all g l.k l.rows (omega arith) (l.invariant.1 g s))
