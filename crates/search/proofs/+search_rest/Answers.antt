-- `search_rest` meets its contract. Assumes nothing.
use Rattle.std.proofs.Common.{rules, ◌≡◌, ◌+◌, ◌-◌, ◌∙◌, length, ℕ, sym, ap, ap₂, subst, arith}
use Rattle.tables.specs.declared.ProgramSet.{ProgramSet}
use Rattle.tables.specs.ProgramSets.{without_program, common_of}
use Rattle.search.specs.Counts.{Counted, CanLower, lowered}
use Rattle.search.specs.Rows.{outcome}
use Rattle.search.proofs.Laws.{lowest-left, order-done, order-stuck, order-more}
use Rattle.search.proofs.Counting.{can_lower, lowered-right}
use Rattle.search.proofs.+search_rest.Goals as goal

pub returns-then-n-eq0 : goal.returns-then-n-eq0
returns-then-n-eq0 t c = let a = c.args in order-done a.rows.now a.left a.at.now a.n a.k c.if-n-eq0.true

pub returns-in_default : goal.returns-in_default
returns-in_default t c = let a = c.args in
    order-stuck a.rows.now a.counts.now a.left c.requires.2 a.at.now a.n a.k c.if-n-eq0.false c.in_default.ensures.value

pub lower-requires : goal.lower-requires
lower-requires t c = let a = c.args in
    subst (λ (x : ProgramSet). CanLower x a.counts.now)
    (sym (c.and.ensures ∙ ap₂ common_of c.row_of.ensures c.without-rest.ensures))
    (can_lower a.rows.now a.counts.now a.left c.requires.2 c.in-Some.p
    (lowest-left a.rows.now a.counts.now a.left c.requires.2 c.in-Some.p c.in-Some.ensures.value))

pub search_rest-requires : goal.search_rest-requires
search_rest-requires t c = let a = c.args in let p = c.in-Some.p in (
  search rules,
  (
    search rules,
    search rules,
    subst (λ (x : ProgramSet). Counted a.rows.now x c.lower.new.counts) (sym c.without-rest.ensures)
        (subst (Counted a.rows.now (without_program a.left p)) (sym (c.lower.ensures ∙ ap (λ (x : ProgramSet). lowered x a.counts.now)
        (c.and.ensures ∙ ap₂ common_of c.row_of.ensures c.without-rest.ensures)))
        (lowered-right a.rows.now a.counts.now a.left c.requires.2 p
        (lowest-left a.rows.now a.counts.now a.left c.requires.2 p c.in-Some.ensures.value))),
  ),
)

pub returns : goal.returns
returns t c = let a = c.args in
    let l : length a.at.now ≡ 32 = search rules in
    let z : a.k + a.n ≡ a.k + 1 + (a.n - 1) = omega (arith, c.if-n-eq0.false) in
    ap (λ (m : ℕ). outcome c.search_rest.result m c.search_rest.new.at) z
    ∙ c.search_rest.ensures ∙ rw c.without-rest.ensures (order-more a.rows.now a.counts.now a.left c.requires.2 a.at.now
    a.n a.k c.in-Some.p c.if-n-eq0.false c.in-Some.ensures.value (omega (arith, c.if-n-eq0.false)))
