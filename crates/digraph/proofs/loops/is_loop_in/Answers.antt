use Rattle.std.proofs.Common.{◌+◌, sym, ap, ◌∙◌, drop, get_or, arith}
use Rattle.tables.specs.declared.ProgramSet.{ProgramSet}
use Rattle.digraph.specs.Rows.{cell}
use Rattle.digraph.specs.Loops.{goes}
use Rattle.digraph.proofs.LoopLaws.{goes_is, loop_short, goes-pass, goes_fail, goes_end}
use Rattle.digraph.proofs.loops.is_loop_in.Goals as goal

pub returns-then-l-lt2 : goal.returns-then-l-lt2
returns-then-l-lt2 c = sym (loop_short (cell c.args.rows.now) c.args.l.now c.if-l-lt2.true)

pub loop-p-init : goal.loop-p-init
loop-p-init c = goes_is c.args.rows.now c.args.l.now (omega arith)

pub returns-then-not-follows : goal.returns-then-not-follows
returns-then-not-follows c = let l = c.loop-p in
    sym (l.invariant ∙ goes_fail c.args.rows.now c.args.l.now l.p-index l.left l.before (omega arith) (sym c.follows.ensures ∙ c.if-not-follows.true))

pub loop-p-preserved : goal.loop-p-preserved
loop-p-preserved c = let l = c.loop-p in let rows = c.args.rows.now in let all = c.args.l.now in
    l.invariant ∙ goes-pass rows all l.p-index l.left l.before (omega arith) (sym c.follows.ensures ∙ c.if-not-follows.false)
    ∙ ap (λ (s : ProgramSet). goes rows s (get_or all l.p-index 0) (drop (l.p-index + 1) all)) (sym c.without-left.ensures)

pub returns : goal.returns
returns c = let l = c.loop-p in
    sym (l.invariant ∙ goes_end c.args.rows.now c.args.l.now l.p-index l.left l.before (omega arith))
