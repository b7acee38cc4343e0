use Rattle.std.proofs.Common.{◌≡◌, false, not, sym, ap, ◌∙◌}
use borrow.Author.Tests.{eq-eqb}
use Rattle.laws.specs.Tests.{never, not_true, not_of}
use Rattle.rules.specs.Boards.{at, has_open}
use Rattle.rules.specs.Soundness.{waiter_sound}
use Rattle.search.proofs.Used.{give_by}
use Rattle.sound.proofs.Laws.{claimed_is, opened_is}
use Rattle.sound.proofs.waiter_sound.Goals as goal
use Rattle.sound.proofs.waiter_sound.Goals.{then-has_claim, else-has_claim}

pub returns-then-not-has_open : goal.returns-then-not-has_open
unfolding waiter_sound
returns-then-not-has_open c = λ b k a e. let h = c.requires.0 in elim c.if-has_claim.branch [
  | then-has_claim w ↦
      let shut : has_open (at b c.args.p) c.args.f ≡ false = sym (opened_is b c.args.sets.now k.in_sets c.args.p h.0 h.1 c.args.f)
      ∙ sym w.has_open.ensures ∙ not_true _ (sym w.value-is ∙ c.if-not-has_open.true) in rw (
        eq-eqb (at b c.args.p).item 0 (e ∙ c.if-n-ne0.false),
        sym (claimed_is b c.args.sets.now k.in_sets c.args.p h.0 h.1 c.args.f) ∙ sym c.has_claim.ensures ∙ w.if-has_claim.true,
        shut,
      )
      (ap not (give_by c.args.sets.now c.args.uses c.args.p c.args.f _ h.0 h.1 c.can_give_by.ensures b k.in_sets k.in_use k.apart k.ordered a shut))
  | else-has_claim w ↦ never c.if-not-has_open.true (w.value-is ∙ w.if-has_claim.false)
]

pub returns-else-not-has_open : goal.returns-else-not-has_open
unfolding waiter_sound
returns-else-not-has_open c = λ b k a e. let h = c.requires.0 in elim c.if-has_claim.branch [
  | then-has_claim w ↦ rw (
    eq-eqb (at b c.args.p).item 0 (e ∙ c.if-n-ne0.false),
    sym (claimed_is b c.args.sets.now k.in_sets c.args.p h.0 h.1 c.args.f) ∙ sym c.has_claim.ensures ∙ w.if-has_claim.true,
    sym (opened_is b c.args.sets.now k.in_sets c.args.p h.0 h.1 c.args.f)
        ∙ sym w.has_open.ensures ∙ not_of _ (sym w.value-is ∙ c.if-not-has_open.false),
  )
      c.if-not-has_open.false
  | else-has_claim w ↦ rw (
    eq-eqb (at b c.args.p).item 0 (e ∙ c.if-n-ne0.false),
    sym (claimed_is b c.args.sets.now k.in_sets c.args.p h.0 h.1 c.args.f) ∙ sym c.has_claim.ensures ∙ w.if-has_claim.false,
  )
      c.if-not-has_open.false
]
