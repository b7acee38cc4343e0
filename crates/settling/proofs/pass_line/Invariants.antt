use Rattle.settling.specs.Writing.{written_in}
use Rattle.settling.proofs.Giving.{Passing}
use Rattle.settling.proofs.pass_line.Given as goal

abbrev pub invariant-loop-p : goal.invariant-loop-p
invariant-loop-p l = Passing (written_in l.fn.sets l.fn.lines l.fn.w) l.p-items l.p-index l.sets l.lines l.s l.admitted l.uses
