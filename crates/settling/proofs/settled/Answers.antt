use Rattle.std.proofs.Common.{◌≡◌, length, arith, rules}
use Rattle.lines.proofs.Laws.{names_stop}
use Rattle.store.specs.Store.{board_of}
use Rattle.settling.specs.Writing.{written_in}
use Rattle.settling.proofs.Laws.{settle-nobody}
use Rattle.settling.proofs.settled.Goals as goal

pub returns-then-w-eq0-2 : goal.returns-then-w-eq0-2
unfolding board_of
returns-then-w-eq0-2 c = let w = c.args.w in
    let m : length w.rest.waiting ≡ 32 = search rules in let n : length w.rest.entry ≡ 32 = search rules in
    settle-nobody (written_in c.args.sets.now c.args.lines.now w) c.requires.0 (names_stop w.rest.waiting 0 (omega arith) c.if-w-eq0.true)
    (names_stop w.rest.entry 0 (omega arith) c.if-w-eq0-2.true)
