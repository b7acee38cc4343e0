use Rattle.std.proofs.Common.{refl, ap, ◌∙◌, ℕ, List, arith}
use Rattle.rules.specs.Digraph.{step, is_loop_of}
use Rattle.digraph.proofs.LoopLaws.{found_none, found_some, found_loop}
use Rattle.digraph.proofs.loops.find_in.Goals as goal

pub returns-then-set-eq0 : goal.returns-then-set-eq0
returns-then-set-eq0 c = let a = c.args in let o = c.in_own-set in λ b f g. record {
  is_loop = λ u. absurd (found_none b a.rows.now a.matrix.now f g o.result o.ensures c.if-set-eq0.true u);
  is_none = λ u. refl;
  fits = omega arith;
}

pub returns : goal.returns
returns c = let a = c.args in let o = c.in_own-set in let y = c.lowest in λ b f g. record {
  is_loop = λ u. ap (λ (L : List ℕ). is_loop_of (step b) L) c.walk_back.ensures.0
      ∙ found_loop b a.rows.now a.matrix.now f g o.result o.ensures y.result y.ensures.1.2;
  is_none = λ u. absurd (found_some b a.rows.now a.matrix.now f g o.result o.ensures y.result y.ensures.1.2 u);
  fits = c.walk_back.ensures.1;
}
