use Rattle.std.proofs.Common.{◌≡◌, ◌-◌, ◌+◌, arith, rules, sym, ◌∙◌}
use Rattle.whole.proofs.Laws.{made, made_size, made_in, same_more, same_all}
use Rattle.whole.proofs.programs.Goals as goal

pub loop-i-preserved : goal.loop-i-preserved
loop-i-preserved c = let l = c.loop-i in let a = c.args in let z : l.i + 1 - 1 ≡ l.i = omega arith in record {
  sized = search rules;
  same = same_more (made a.sets.now a.seats) l.i l.ps c.program.result (omega (arith, l.invariant.sized))
      (c.program.ensures ∙ rw z (sym (made_in a.sets.now a.seats l.i c.loop-i-test.true))) l.invariant.same;
}

pub returns : goal.returns
returns c = let l = c.loop-i in let a = c.args in
    same_all (made a.sets.now a.seats) 32 l.i l.ps l.invariant.sized (made_size a.sets.now a.seats) (omega arith) l.invariant.same
