use Rattle.std.proofs.Common.{◌≡◌, sym, ap, ◌∙◌, length, get_or, arith, rules}
use Rattle.lines.proofs.Laws.{names_stop, names_end}
use Rattle.settling.specs.Writing.{as_option}
use Rattle.settling.proofs.Lines.{first-here, first-later, name-in, name_later, first_none_left}
use Rattle.settling.proofs.oldest.Goals as goal

pub returns-then-p-eq0 : goal.returns-then-p-eq0
returns-then-p-eq0 g c = let m : length c.args.line ≡ 32 = search rules in λ t f.
    sym (ap as_option (c.loop-p.invariant.1 t f ∙ first_none_left t _ (names_stop c.args.line c.loop-p.p-index (omega arith) c.if-p-eq0.true)))

pub test-requires : goal.test-requires
test-requires g c = let m : length c.args.line ≡ 32 = search rules in
    let h = c.requires (get_or c.args.line c.loop-p.p-index 0)
    (c.loop-p.invariant.0 _ (name-in c.args.line c.loop-p.p-index (omega arith) c.if-p-eq0.false)) in
    search rules

pub returns-then-test : goal.returns-then-test
returns-then-test g c = let m : length c.args.line ≡ 32 = search rules in
    let p = get_or c.args.line c.loop-p.p-index 0 in λ t f.
    sym (ap as_option (c.loop-p.invariant.1 t f ∙ first-here c.args.line c.loop-p.p-index (omega arith) c.if-p-eq0.false t
    (sym (f p (c.loop-p.invariant.0 p (name-in c.args.line c.loop-p.p-index (omega arith) c.if-p-eq0.false)) c.test.result c.test.ensures) ∙ c.if-test.true)))

pub loop-p-preserved : goal.loop-p-preserved
loop-p-preserved g c = let m : length c.args.line ≡ 32 = search rules in
    let p = get_or c.args.line c.loop-p.p-index 0 in (
      λ q m. c.loop-p.invariant.0 q (name_later c.args.line c.loop-p.p-index (omega arith) c.if-p-eq0.false q m),
      λ t f. c.loop-p.invariant.1 t f ∙ first-later c.args.line c.loop-p.p-index (omega arith) c.if-p-eq0.false t
          (sym (f p (c.loop-p.invariant.0 p (name-in c.args.line c.loop-p.p-index (omega arith) c.if-p-eq0.false)) c.test.result c.test.ensures) ∙ c.if-test.false),
    )

pub returns : goal.returns
returns g c = let m : length c.args.line ≡ 32 = search rules in λ t f.
    sym (ap as_option (c.loop-p.invariant.1 t f ∙ first_none_left t _ (names_end c.args.line c.loop-p.p-index (omega arith))))
