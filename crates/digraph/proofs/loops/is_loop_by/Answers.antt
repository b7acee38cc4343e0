use Rattle.std.proofs.Common.{sym, ap, ◌∙◌}
use Rattle.rules.specs.declared.Board.{Board}
use Rattle.rules.specs.Boards.{is_admitted}
use Rattle.rules.specs.Digraph.{step, is_loop_of}
use Rattle.store.specs.Sets.{Sets}
use Rattle.store.specs.Store.{board_of}
use Rattle.digraph.proofs.LoopLaws.{not_in, not_claimed, loop_with, stands_as, claims_as, given_as}
use Rattle.digraph.proofs.loops.is_loop_by.Goals as goal

pub returns-then-not-is_admitted : goal.returns-then-not-is_admitted
returns-then-not-is_admitted c = let a = c.args in let k = c.take-rest in
    sym (not_in a.b a.p a.f a.l.now (sym (c.is_admitted.ensures ∙ ap is_admitted (c.standing_at.ensures
    ∙ stands_as a.b k.new.sets k.result k.ensures.0 k.ensures.1 a.p c.requires.0 c.requires.1)) ∙ c.if-not-is_admitted.true))

pub returns-then-not-has_claim : goal.returns-then-not-has_claim
returns-then-not-has_claim c = let a = c.args in let k = c.take-rest in
    sym (not_claimed a.b a.p a.f a.l.now (sym (c.has_claim.ensures
    ∙ claims_as a.b k.new.sets k.result k.ensures.0 k.ensures.1 a.p c.requires.0 c.requires.1 a.f) ∙ c.if-not-has_claim.true))

pub returns : goal.returns
returns c = let a = c.args in let k = c.take-rest in
    c.is_loop.ensures ∙ ap (λ (x : Board). is_loop_of (step x) a.l.now) (ap (λ (x : Sets). board_of x k.result) c.give.ensures
    ∙ given_as a.b k.new.sets k.result k.ensures.0 k.ensures.1 a.p c.requires.0 c.requires.1 a.f)
    ∙ loop_with a.b a.p a.f a.l.now (record { least = c.requires.0; most = c.requires.1 })
    (sym (c.is_admitted.ensures ∙ ap is_admitted (c.standing_at.ensures
    ∙ stands_as a.b k.new.sets k.result k.ensures.0 k.ensures.1 a.p c.requires.0 c.requires.1)) ∙ c.if-not-is_admitted.false)
    (sym (c.has_claim.ensures ∙ claims_as a.b k.new.sets k.result k.ensures.0 k.ensures.1 a.p c.requires.0 c.requires.1 a.f) ∙ c.if-not-has_claim.false)
