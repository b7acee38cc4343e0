use Rattle.std.proofs.Common.{◌≡◌, suc, drop, length, sym, ap, ◌∙◌, add-one, arith, rules}
use Rattle.laws.specs.Lists.{names}
use Rattle.lines.proofs.Laws.{names_stop, names_end}
use Rattle.tables.specs.declared.ProgramSet.{ProgramSet}
use Rattle.sound.specs.Parts.{takes}
use Rattle.sound.proofs.Taken.{takes-on, takes_none}
use Rattle.sound.proofs.takes_all.Goals as goal
use Rattle.sound.proofs.takes_all.Goals.{else-loop-p-test, then-loop-p-test+then-p-eq0}

pub returns-then-not-has : goal.returns-then-not-has
returns-then-not-has c = let l = c.loop-p in let long : length c.args.line ≡ 32 = search rules in
    sym (rw (sym c.has.ensures ∙ c.if-not-has.true) at (l.invariant ∙ takes-on c.args.line l.p-index l.left (omega arith) c.if-p-eq0.false))

pub loop-p-preserved : goal.loop-p-preserved
loop-p-preserved c = let l = c.loop-p in let long : length c.args.line ≡ 32 = search rules in
    rw (add-one l.p-index) ((rw (sym c.has.ensures ∙ c.if-not-has.false) at
    (l.invariant ∙ takes-on c.args.line l.p-index l.left (omega arith) c.if-p-eq0.false))
    ∙ ap (λ (s : ProgramSet). takes (names (drop (suc l.p-index) c.args.line)) s) (sym c.without-left.ensures))

pub returns : goal.returns
returns c = let l = c.loop-p in let long : length c.args.line ≡ 32 = search rules in elim c.loop-p-test.branch [
  | else-loop-p-test w ↦ sym (l.invariant ∙ takes_none c.args.line l.p-index l.left (names_end c.args.line l.p-index (omega arith)))
  | then-loop-p-test+then-p-eq0 w ↦
      sym (l.invariant ∙ takes_none c.args.line l.p-index l.left (names_stop c.args.line l.p-index (omega arith) w.if-p-eq0.true))
]
