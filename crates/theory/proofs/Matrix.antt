-- Some program reaches itself exactly when no completion order exists: `ItselfIff`. Assumes nothing.
use Rattle.std.specs.Prelude.{ℕ, ◌≡◌, true}
use Rattle.std.proofs.Common.{sym, ◌∙◌}
use Rattle.std.proofs.Math.Option.{none}
use Rattle.laws.specs.Tests.{by_option}
use Rattle.rules.specs.Boards.{admitted}
use Rattle.rules.specs.Orders.{carried}
use Rattle.rules.specs.Digraph.{reaches}
use Rattle.theory.specs.Carried.{holds_on, carried-sound}
use Rattle.theory.specs.Reach.{no_order_by_round}
use Rattle.theory.specs.Loops.{unordered_loop, loop_round}
use Rattle.theory.specs.Matrix.{reaches_iff, admitted_once, carried_in, ItselfIff}

pub itself_iff : ItselfIff
itself_iff b = (
  λ (p, e) o c. let (m, r) = (reaches_iff b p p).0 e in no_order_by_round (holds_on b) (admitted b) o p m r.1 c,
  λ f. by_option (carried b) (λ u. round u) (λ o u. absurd (f o (carried-sound b o u))),
)
  where
    round : carried b ≡ none → (p : ℕ) × (reaches b p p ≡ true)
    round u = let (L, c) = unordered_loop (holds_on b) (admitted b) (admitted_once b) (sym (carried_in b) ∙ u) in
        let (p, m, r) = loop_round (holds_on b) (admitted b) L c in (p, (reaches_iff b p p).1 (m, (m, r)))
