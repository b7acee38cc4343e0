use Rattle.std.proofs.Common.{◌≡◌, sym, ◌∙◌, refl, length, add-one, arith, rules}
use Rattle.lines.proofs.Laws.{names-on, names_stop, names_end}
use Rattle.store.specs.Store.{board_of}
use Rattle.settling.proofs.Laws.{all_waiting, found_some, found-none}
use Rattle.settling.proofs.Admitting.{overdue_some, admitted_all, first_range, overdue-fits, overdue-is, one-fits, one_more}
use Rattle.settling.proofs.admit_held.Goals as goal

pub loop-p-init : goal.loop-p-init
unfolding board_of
loop-p-init c = let a = c.requires in (record { loose = a.0; counts = a.1; nobody = a.2; fits = a.3; same = refl }, refl)

pub oldest_overdue-requires : goal.oldest_overdue-requires
unfolding board_of
oldest_overdue-requires c = all_waiting (board_of c.args.sets.now c.loop-p.s.rest) c.loop-p.invariant.0.loose

pub favour_waiter-requires : goal.favour_waiter-requires
favour_waiter-requires c = let m : length c.args.w.rest.entry ≡ 32 = search rules in let i = c.loop-p.invariant in
    let o = overdue_some (board_of c.args.sets.now c.loop-p.s.rest) c.in-Some.overdue i.0.loose (sym c.in-Some.is ∙ c.oldest_overdue.ensures) in
    (o.1, overdue-fits i.0 _ _ (i.1 ∙ names-on c.args.w.rest.entry c.loop-p.p-index (omega arith) c.if-p-eq0.false) c.in-Some.overdue o.0)

pub returns-in-Some : goal.returns-in-Some
unfolding board_of
returns-in-Some c = let m : length c.args.w.rest.entry ≡ 32 = search rules in let i = c.loop-p.invariant in
    c.favour_waiter.ensures
    ∙ overdue-is i.0 _ _ (i.1 ∙ names-on c.args.w.rest.entry c.loop-p.p-index (omega arith) c.if-p-eq0.false) c.in-Some.overdue
    (found_some _ c.in-Some.overdue (sym c.in-Some.is ∙ c.oldest_overdue.ensures))

pub admit_one-s-requires : goal.admit_one-s-requires
unfolding board_of
admit_one-s-requires c = let m : length c.args.w.rest.entry ≡ 32 = search rules in let i = c.loop-p.invariant in
    let e = i.1 ∙ names-on c.args.w.rest.entry c.loop-p.p-index (omega arith) c.if-p-eq0.false in (
      first_range i.0 _ _ e,
      one-fits i.0 _ _ e (found-none _ (sym c.in_default.is ∙ c.oldest_overdue.ensures)),
      i.0.counts.counted.most,
      c.sized.ensures,
    )

pub loop-p-preserved : goal.loop-p-preserved
loop-p-preserved c = let m : length c.args.w.rest.entry ≡ 32 = search rules in let i = c.loop-p.invariant in
    let e = i.1 ∙ names-on c.args.w.rest.entry c.loop-p.p-index (omega arith) c.if-p-eq0.false in
    let n = one_more i.0 _ _ e _ (found-none _ (sym c.in_default.is ∙ c.oldest_overdue.ensures)) c.admit_one-s.ensures in
    rw (add-one c.loop-p.p-index) n

pub returns-then-p-eq0 : goal.returns-then-p-eq0
unfolding board_of
returns-then-p-eq0 c = let m : length c.args.w.rest.entry ≡ 32 = search rules in
    admitted_all c.loop-p.invariant.0 (c.loop-p.invariant.1 ∙ names_stop c.args.w.rest.entry c.loop-p.p-index (omega arith) c.if-p-eq0.true)

pub returns : goal.returns
unfolding board_of
returns c = let m : length c.args.w.rest.entry ≡ 32 = search rules in
    admitted_all c.loop-p.invariant.0 (c.loop-p.invariant.1 ∙ names_end c.args.w.rest.entry c.loop-p.p-index (omega arith))
