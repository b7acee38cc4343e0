use Rattle.std.proofs.Common.{◌≡◌, ap, ◌∙◌, length, get_or, arith, rules}
use Rattle.lines.proofs.Laws.{names_stop, names_end}
use Rattle.store.specs.Sets.{given_at}
use Rattle.store.specs.Store.{board_of, no_seat}
use Rattle.tables.proofs.Given.{seats_admitted}
use Rattle.settling.specs.Writing.{written_in, after, give_to}
use Rattle.settling.proofs.Laws.{pass-start}
use Rattle.settling.proofs.Giving.{pass-end, passing-range, passing-fits, passing-over, passing-given}
use Rattle.settling.proofs.pass_line.Goals as goal
use Rattle.settling.proofs.pass_line.Goals.{then-can_serve, else-can_serve}

pub loop-p-init : goal.loop-p-init
unfolding board_of
loop-p-init c = let a = c.args in record {
  store = c.sized.ensures;
  admits_are = c.admitted_seats-admitted.ensures ∙ seats_admitted a.sets.now a.w.rest;
  uses_are = c.uses_in-uses.ensures;
  passed = pass-start (written_in a.sets.now a.lines.now a.w) c.requires.0 c.requires.1 c.requires.2;
}

pub place_of-requires : goal.place_of-requires
place_of-requires c = let m : length c.args.w.rest.waiting ≡ 32 = search rules in passing-range c.loop-p.invariant (omega arith) c.if-p-eq0.false

pub can_serve-requires : goal.can_serve-requires
can_serve-requires c = let m : length c.args.w.rest.waiting ≡ 32 = search rules in
    passing-range c.loop-p.invariant (omega arith) c.if-p-eq0.false

pub give-s-requires : goal.give-s-requires
give-s-requires c = let m : length c.args.w.rest.waiting ≡ 32 = search rules in let i = c.loop-p.invariant in (
  passing-range i (omega arith) c.if-p-eq0.false,
  i.passed.0.0,
  passing-fits i (omega arith) c.if-p-eq0.false _ c.can_serve.result (ap (λ i. get_or c.loop-p.s.rest.seats i no_seat) c.place_of.ensures.0) c.can_serve.ensures c.if-can_serve.true,
  i.store,
)

pub loop-p-preserved : goal.loop-p-preserved
loop-p-preserved c = let m : length c.args.w.rest.waiting ≡ 32 = search rules in
    elim c.if-can_serve.branch [
      | then-can_serve w ↦ rw (w.sets-is, w.lines-is, w.uses-is, w.s-is)
          (passing-given c.loop-p.invariant (omega arith) c.if-p-eq0.false _ c.can_serve.result (ap (λ i. get_or c.loop-p.s.rest.seats i no_seat) c.place_of.ensures.0) c.can_serve.ensures w.if-can_serve.true
          w.give-s.new.sets w.give-s.new.lines w.give-s.result w.uses_in-uses-then-can_serve.result
          (w.give-s.ensures.result_after ∙ ap (λ f. after (written_in c.loop-p.sets c.loop-p.lines c.loop-p.s) (give_to (board_of c.loop-p.sets c.loop-p.s.rest) _ f)) w.awaited.ensures) (w.give-s.ensures.sets_after ∙ ap (given_at c.loop-p.sets _) w.awaited.ensures) w.uses_in-uses-then-can_serve.ensures)
      | else-can_serve w ↦ rw (w.sets-is, w.lines-is, w.uses-is, w.s-is)
          (passing-over c.loop-p.invariant (omega arith) c.if-p-eq0.false _ c.can_serve.result (ap (λ i. get_or c.loop-p.s.rest.seats i no_seat) c.place_of.ensures.0) c.can_serve.ensures w.if-can_serve.false)
    ]

pub returns-then-p-eq0 : goal.returns-then-p-eq0
returns-then-p-eq0 c = let m : length c.args.w.rest.waiting ≡ 32 = search rules in
    pass-end c.loop-p.invariant (names_stop c.args.w.rest.waiting c.loop-p.p-index (omega arith) c.if-p-eq0.true)

pub returns : goal.returns
returns c = let m : length c.args.w.rest.waiting ≡ 32 = search rules in
    pass-end c.loop-p.invariant (names_end c.args.w.rest.waiting c.loop-p.p-index (omega arith))
