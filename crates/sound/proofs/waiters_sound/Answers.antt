use Rattle.std.proofs.Common.{◌≡◌, false, length, sym, ◌∙◌, add-one, arith, rules, get_or}
use Rattle.store.specs.Store.{board_of}
use Rattle.lines.proofs.Laws.{names_left, all-names-on, all-names_stop, all-names_end}
use Rattle.sound.specs.Parts.{right_name, waiter_at}
use Rattle.sound.proofs.Laws.{waiter_named, in_admitted}
use Rattle.sound.proofs.Seats.{waiter_judged}
use Rattle.sound.proofs.waiters_sound.Goals as goal

pub bounds-rest-p : goal.bounds-rest-p
bounds-rest-p c = let a = c.args in let long : length a.line ≡ 32 = search rules in
    let n = waiter_named (board_of a.sets.now a.rest) a.line c.loop-p.p-index (omega arith) c.if-p-eq0.false c.loop-p.invariant.0 in
    omega (arith, n.0.0, n.0.1)

pub waiter_sound-requires : goal.waiter_sound-requires
waiter_sound-requires c = let a = c.args in let long : length a.line ≡ 32 = search rules in let b = board_of a.sets.now a.rest in
    let n = waiter_named b a.line c.loop-p.p-index (omega arith) c.if-p-eq0.false c.loop-p.invariant.0 in
    let k = c.requires.0 in
    (n.0, in_admitted b _ a.sets.now _ k.in_use n.0.0 n.0.1 n.1, c.requires.2)

pub returns-then-not-waiter_sound : goal.returns-then-not-waiter_sound
returns-then-not-waiter_sound c = let a = c.args in let l = c.loop-p in let long : length a.line ≡ 32 = search rules in
    let b = board_of a.sets.now a.rest in
    let n = waiter_named b a.line l.p-index (omega arith) c.if-p-eq0.false l.invariant.0 in
    let judged = waiter_judged a.sets.now a.rest a.uses (get_or a.line l.p-index 0) _ _ n.0.0 n.0.1 c.requires.0 n.1 c.awaited-f.ensures c.waiter_sound.ensures in
    sym (rw (sym judged ∙ c.if-not-waiter_sound.true) at (l.invariant.1 ∙ all-names-on a.line l.p-index (waiter_at b) (omega arith) c.if-p-eq0.false))

pub loop-p-preserved : goal.loop-p-preserved
loop-p-preserved c = let a = c.args in let l = c.loop-p in let long : length a.line ≡ 32 = search rules in
    let b = board_of a.sets.now a.rest in
    let n = waiter_named b a.line l.p-index (omega arith) c.if-p-eq0.false l.invariant.0 in
    let judged = waiter_judged a.sets.now a.rest a.uses (get_or a.line l.p-index 0) _ _ n.0.0 n.0.1 c.requires.0 n.1 c.awaited-f.ensures c.waiter_sound.ensures in (
      rw (add-one l.p-index) (names_left (right_name b false) a.line l.p-index (omega arith) c.if-p-eq0.false l.invariant.0),
      rw (add-one l.p-index) (rw (sym judged ∙ c.if-not-waiter_sound.false) at
          (l.invariant.1 ∙ all-names-on a.line l.p-index (waiter_at b) (omega arith) c.if-p-eq0.false)),
    )

pub returns-after-loop-p : goal.returns-after-loop-p
returns-after-loop-p c = let a = c.args in let long : length a.line ≡ 32 = search rules in
    sym (c.loop-p.invariant.1 ∙ all-names_end a.line c.loop-p.p-index (waiter_at (board_of a.sets.now a.rest)) (omega arith))

pub returns-then-p-eq0 : goal.returns-then-p-eq0
returns-then-p-eq0 c = let a = c.args in let long : length a.line ≡ 32 = search rules in
    sym (c.loop-p.invariant.1 ∙ all-names_stop a.line c.loop-p.p-index (waiter_at (board_of a.sets.now a.rest)) (omega arith) c.if-p-eq0.true)
