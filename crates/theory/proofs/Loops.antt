-- Where there is a loop there is no completion order. Assumes nothing.
use Rattle.std.specs.Prelude.{ℕ, Bool, List}
use Rattle.theory.specs.Order.{IsOrder}
use Rattle.theory.specs.Reach.{no_order_by_round}
use Rattle.theory.specs.Loops.{IsLoop, loop_round}

pub loop_no_order : (h : ℕ → ℕ → Bool) (l L o : List ℕ) → IsLoop h l L → IsOrder h l o → ⊥
loop_no_order h l L o c r = let (p, m, q) = loop_round h l L c in no_order_by_round h l o p m q r
