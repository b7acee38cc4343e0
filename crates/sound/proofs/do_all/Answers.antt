use Rattle.std.proofs.Common.{◌≡◌, true, false, refl, sym, ◌∙◌, add-one}
use Rattle.rules.specs.Boards.{everyone}
use Rattle.tables.proofs.Laws.{all-step, all_end}
use Rattle.sound.proofs.do_all.Goals as goal

pub loop-p-init : goal.loop-p-init
unfolding everyone
loop-p-init g c = λ t f. refl

pub loop-p-preserved : goal.loop-p-preserved
loop-p-preserved g c = λ t f.
    let passes : t c.loop-p.p ≡ true = sym (f c.loop-p.p c.test.result c.loop-p.auto.p c.loop-p-test.true c.test.ensures) ∙ c.if-not-test.false in
    rw (add-one c.loop-p.p) (rw passes at (c.loop-p.invariant t f ∙ all-step t c.loop-p.p c.loop-p-test.true))

pub returns-then-not-test : goal.returns-then-not-test
returns-then-not-test g c = λ t f.
    let fails : t c.loop-p.p ≡ false = sym (f c.loop-p.p c.test.result c.loop-p.auto.p c.loop-p-test.true c.test.ensures) ∙ c.if-not-test.true in
    sym (rw fails at (c.loop-p.invariant t f ∙ all-step t c.loop-p.p c.loop-p-test.true))

pub returns : goal.returns
returns g c = λ t f. sym (c.loop-p.invariant t f ∙ all_end t c.loop-p.p c.loop-p-test.false)
