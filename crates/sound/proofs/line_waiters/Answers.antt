use Rattle.std.proofs.Common.{◌≡◌, length, sym, rules, arith}
use Rattle.store.specs.Store.{board_of}
use Rattle.lines.proofs.Laws.{all-names_stop}
use Rattle.sound.specs.Parts.{waiter_at}
use Rattle.sound.proofs.line_waiters.Goals as goal

pub returns-then-line-eq0 : goal.returns-then-line-eq0
returns-then-line-eq0 c = let long : length c.args.line ≡ 32 = search rules in
    sym (all-names_stop c.args.line 0 (waiter_at (board_of c.args.sets.now c.args.rest)) (omega arith) c.if-line-eq0.true)
