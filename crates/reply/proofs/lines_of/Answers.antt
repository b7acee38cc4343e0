use Rattle.std.proofs.Common.{◌≡◌, length, sym, ◌∙◌, arith, rules}
use Rattle.reply.proofs.Laws.{line_at, lines_more, lines_all}
use Rattle.reply.proofs.lines_of.Goals as goal

pub loop-i-preserved : goal.loop-i-preserved
loop-i-preserved c = let e = c.args.lines.now in let m : length e ≡ 32 = search rules in (
  search rules,
  lines_more e c.loop-i.i c.loop-i.ls c.line_in.result (omega (arith, c.loop-i.invariant.0))
      (c.line_in.ensures ∙ sym (line_at e c.loop-i.i (omega (arith, m)))) c.loop-i.invariant.1,
)

pub returns : goal.returns
returns c = let m : length c.args.lines.now ≡ 32 = search rules in
    lines_all c.args.lines.now c.loop-i.i c.loop-i.ls c.loop-i.invariant.0 m (omega arith) c.loop-i.invariant.1
