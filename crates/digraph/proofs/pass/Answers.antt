use Rattle.std.proofs.Common.{◌≡◌, arith}
use Rattle.digraph.proofs.Laws.{pass_says, pass-none}
use Rattle.digraph.proofs.pass.Goals as goal

pub returns-then-by-eq0 : goal.returns-then-by-eq0
returns-then-by-eq0 c = (c.requires.1, pass-none c.args.rows.now c.args.k c.requires.0.0 c.requires.0.1 c.if-by-eq0.true)

pub returns : goal.returns
returns c = let l = c.loop-row in let z : l.row-index ≡ 32 = omega arith in
    (l.invariant.0, pass_says c.args.rows.now l.rows c.args.k c.requires.0.0 c.requires.0.1 (rw z at l.invariant))
