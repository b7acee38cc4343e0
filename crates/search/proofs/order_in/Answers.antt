-- `order_in` meets its contract. Assumes nothing.
use Rattle.std.proofs.Common.{Bool, sym, ap, subst, ◌∙◌, rules}
use Rattle.search.specs.Counts.{Counted}
use Rattle.search.specs.Rows.{outcome}
use Rattle.search.proofs.Laws.{order_in_is}
use Rattle.search.proofs.Counting.{counts_right}
use Rattle.search.proofs.order_in.Goals as goal

pub search_rest-requires : goal.search_rest-requires
search_rest-requires c = (
  search rules,
  search rules,
  subst (Counted c.args.rows.now c.args.left) (sym c.count_all.ensures) (counts_right c.args.rows.now c.args.left),
)

pub returns-then-not-search_rest : goal.returns-then-not-search_rest
returns-then-not-search_rest c = let n = c.count-n in let s = c.search_rest in
    ap (λ (x : Bool). outcome x n.result s.new.at) (sym c.if-not-search_rest.true)
    ∙ order_in_is c.args.rows.now s.new.at c.args.left n.result s.result n.ensures.0 s.ensures

pub returns : goal.returns
returns c = let n = c.count-n in let s = c.search_rest in
    ap (λ (x : Bool). outcome x n.result s.new.at) (sym c.if-not-search_rest.false)
    ∙ order_in_is c.args.rows.now s.new.at c.args.left n.result s.result n.ensures.0 s.ensures
