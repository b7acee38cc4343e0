use Rattle.std.proofs.Common.{◌≡◌, sym, ap, ◌∙◌, length, rules}
use Rattle.rules.specs.Boards.{at, wants}
use Rattle.theory.specs.Settling.{hand_none}
use Rattle.store.specs.Store.{board_of}
use Rattle.settling.specs.Writing.{written_in, after, record_waiter}
use Rattle.settling.proofs.Laws.{after-still, all_waiting, found-none, found_some, waiter_is}
use Rattle.settling.proofs.Storing.{handed-done}
use Rattle.settling.proofs.hand_on.Goals as goal

pub oldest_for-requires : goal.oldest_for-requires
unfolding board_of
oldest_for-requires c = all_waiting (board_of c.args.sets.now c.args.w.rest) c.requires.0

pub returns-in_default : goal.returns-in_default
returns-in_default c = let a = c.args in let w = written_in a.sets.now a.lines.now a.w in
    after-still w ∙ ap (after w) (sym (hand_none w.board a.f a.n (found-none _ (sym c.in_default.is ∙ c.oldest_for.ensures c.args.sets.now))))

pub served-requires : goal.served-requires
served-requires c = let b = board_of c.args.sets.now c.args.w.rest in
    let i = waiter_is b (λ w. wants (at b w) c.args.f c.args.n) c.in-Some.p c.requires.0
    (found_some (record_waiter b c.args.f c.args.n) c.in-Some.p (sym c.in-Some.is ∙ c.oldest_for.ensures c.args.sets.now)) in (i.least, i.most)

pub returns : goal.returns
returns c = let a = c.args in let b = board_of a.sets.now a.w.rest in let m : length a.w.rest.seats ≡ 32 = search rules in
    let o = found_some (record_waiter b a.f a.n) c.in-Some.p (sym c.in-Some.is ∙ c.oldest_for.ensures c.args.sets.now) in
    rw (c.write_line.ensures.value, c.write_line.ensures.lines_after) (handed-done a.sets.now a.lines.now a.w.rest a.w.count c.in-Some.p c.line_of.result c.served.result a.f a.n c.sized.ensures m
    (waiter_is b (λ w. wants (at b w) a.f a.n) c.in-Some.p c.requires.0 o) c.line_of.ensures o c.served.ensures)
