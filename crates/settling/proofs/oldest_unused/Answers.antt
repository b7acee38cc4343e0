use Rattle.std.proofs.Common.{◌≡◌, sym, ap, ◌∙◌, eqb, not, ◌&&◌, length, arith, rules}
use Rattle.rules.specs.Boards.{awaited_of}
use Rattle.rules.specs.Settling.{candidate}
use Rattle.lines.proofs.Laws.{names_stop}
use Rattle.store.specs.Store.{board_of, seat_at}
use Rattle.tables.proofs.Given.{seats_admitted}
use Rattle.search.specs.Gives.{uses_in, used_in}
use Rattle.settling.specs.Writing.{as_option, unused}
use Rattle.settling.proofs.Lines.{first_none_left}
use Rattle.settling.proofs.Laws.{ready_all, waiter-range, waiter-unused}
use Rattle.settling.proofs.oldest_unused.Goals as goal

pub returns-then-line-eq0 : goal.returns-then-line-eq0
unfolding candidate board_of
returns-then-line-eq0 c = let m : length c.args.rest.waiting ≡ 32 = search rules in
    sym (ap as_option (first_none_left _ _ (names_stop c.args.rest.waiting 0 (omega arith) c.if-line-eq0.true)))

pub oldest-requires : goal.oldest-requires
unfolding board_of
oldest-requires c = λ p m. let r = waiter-range c.args.sets.now c.args.rest _ p (ready_all (board_of c.args.sets.now c.args.rest) c.requires) m in search rules

pub returns : goal.returns
unfolding candidate board_of
returns c = c.oldest.ensures (unused (board_of c.args.sets.now c.args.rest)) (λ p m t h.
    let e : t ≡ eqb (seat_at c.args.rest p).item 0 && not (used_in c.args.sets.now c.uses_in-uses.result p (awaited_of (seat_at c.args.rest p).standing)) = search rules in
    waiter-unused c.args.sets.now c.args.rest _ p (ready_all (board_of c.args.sets.now c.args.rest) c.requires) m c.uses_in-uses.result t c.sized.ensures
    (c.uses_in-uses.ensures ∙ ap (λ y. uses_in y c.args.sets.now) (c.admitted_seats-admitted.ensures ∙ seats_admitted c.args.sets.now c.args.rest)) e)
