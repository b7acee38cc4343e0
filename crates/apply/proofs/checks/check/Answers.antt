use Rattle.std.proofs.Common.{arith}
use Rattle.std.proofs.lemmas.Grind.{common_steps}
use Rattle.std.proofs.lemmas.Option.{MatchOption-at_some, MatchOption-at_none}
use Rattle.store.specs.Store.{board_of}
use Rattle.apply.proofs.Laws.{checked_far, checked-number}
use Rattle.apply.proofs.checks.check.Goals as goal

pub returns-in_err-p : goal.returns-in_err-p
returns-in_err-p c = let a = c.args in
    let n = MatchOption-at_none {o = c.program_of.result} _ _ (grind arith) c.program_of.ensures in
    let e = checked_far (board_of a.sets.now a.rest) a.a n in grind (arith, common_steps)

pub returns-in_err-check_call : goal.returns-in_err-check_call
returns-in_err-check_call c = let a = c.args in
    let n = MatchOption-at_some {o = c.program_of.result} _ _ c.in_ok-p.p (grind arith) c.program_of.ensures in
    let e = checked-number a.sets.now a.rest a.a c.in_ok-p.p c.seat_at.result c.check_call.result c.sized.ensures n c.seat_at.ensures c.check_call.ensures in
    grind (arith, common_steps)

pub returns : goal.returns
returns c = let a = c.args in
    let n = MatchOption-at_some {o = c.program_of.result} _ _ c.in_ok-p.p (grind arith) c.program_of.ensures in
    let e = checked-number a.sets.now a.rest a.a c.in_ok-p.p c.seat_at.result c.check_call.result c.sized.ensures n c.seat_at.ensures c.check_call.ensures in
    grind (arith, common_steps)
