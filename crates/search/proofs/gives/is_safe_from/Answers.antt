-- `is_safe_from` meets its contract. Assumes nothing.
use Rattle.std.proofs.Common.{sym, ap, ◌∙◌}
use Rattle.tables.specs.declared.ProgramSet.{ProgramSet}
use Rattle.tables.specs.ProgramSets.{union_of, less_of}
use Rattle.search.proofs.Deciding.{here-start, told_first, told_next, here-unsafe, here-safe, here-next, here-fewer}
use Rattle.search.proofs.gives.is_safe_from.Goals as goal

pub loop-found-init : goal.loop-found-init
loop-found-init g c =
    let a = c.args in let s = a.sets.now in let h = c.requires.store in let o = c.without-others in
    here-start s a.admitted a.p a.f h.0 h.1 c.mode_at-mode.result _ _
    (told_first s a.admitted a.p a.f h.0 h.1 (λ q t r. goal.F-post g a.holders q t r) c.requires.tells o.result c.holders-found.result o.ensures c.holders-found.ensures)
    (c.less-rest.ensures ∙ ap (λ (x : ProgramSet). less_of x c.holders-found.result) o.ensures)

pub returns-then-has_claim : goal.returns-then-has_claim
returns-then-has_claim g c =
    let a = c.args in let l = c.lowest-q in
    sym (here-unsafe a.sets.now a.admitted a.p a.f _ _ _ c.loop-found.invariant c.mode_at-mode.ensures l.result l.ensures.1.2
    (sym c.has_claim.ensures ∙ c.if-has_claim.true))

pub loop-found-smaller : goal.loop-found-smaller
loop-found-smaller g c =
    let a = c.args in let s = a.sets.now in let l = c.lowest-q in let i = c.loop-found.invariant in let m = c.holders-more.result in
    here-fewer s a.admitted a.p a.f _ _ _ i l.result l.ensures.0 l.ensures.1.2 m _ _
    (told_next s a.admitted a.p a.f _ _ _ i (λ q t r. goal.F-post g a.holders q t r) c.requires.tells l.result m l.ensures.1.2 c.holders-more.ensures)
    (c.or-found.ensures ∙ ap (λ (x : ProgramSet). union_of x m) c.but_lowest.ensures) c.less-rest-in-loop-found.ensures

pub loop-found-preserved : goal.loop-found-preserved
loop-found-preserved g c =
    let a = c.args in let s = a.sets.now in let l = c.lowest-q in let i = c.loop-found.invariant in let m = c.holders-more.result in
    here-next s a.admitted a.p a.f _ _ _ i l.result l.ensures.0 l.ensures.1.2 m _ _
    (told_next s a.admitted a.p a.f _ _ _ i (λ q t r. goal.F-post g a.holders q t r) c.requires.tells l.result m l.ensures.1.2 c.holders-more.ensures)
    (c.or-found.ensures ∙ ap (λ (x : ProgramSet). union_of x m) c.but_lowest.ensures) c.less-rest-in-loop-found.ensures
    (sym c.has_claim.ensures ∙ c.if-has_claim.false)

pub returns : goal.returns
returns g c = let a = c.args in
    sym (here-safe a.sets.now a.admitted a.p a.f _ _ _ c.loop-found.invariant c.mode_at-mode.ensures c.loop-found-test.false)
