use Rattle.std.proofs.Common.{sym, rules, ◌≡◌, ◌∙◌, ◌≤◌, ◌≢◌, drop, ℕ, length, true, arith}
use Rattle.rules.specs.Boards.{is_program}
use Rattle.theory.specs.Programs.{of_is}
use Rattle.digraph.proofs.LoopLaws.{walk_none, walk_alone, walk-found, walk-on}
use Rattle.digraph.proofs.loops.+walk_back.Goals as goal

-- a number from 1 to 32 is a program
is_x : (x : ℕ) → 1 ≤ x → x ≤ 32 → is_program x ≡ true
is_x x least most = of_is x (record { least = least; most = most })

pub returns-then-n-eq0 : goal.returns-then-n-eq0
returns-then-n-eq0 t c = let a = c.args in
    (walk_none a.rows.now a.set a.x (is_x a.x c.requires.2.0 c.requires.2.1) a.n (drop a.k a.at) c.if-n-eq0.true, omega arith)

pub returns-in_default : goal.returns-in_default
returns-in_default t c = let a = c.args in
    (walk_alone a.rows.now a.set a.x (is_x a.x c.requires.2.0 c.requires.2.1) a.n (drop a.k a.at) c.if-n-eq0.false c.in_default.ensures, omega arith)

pub returns-in-Some-place_of : goal.returns-in-Some-place_of
returns-in-Some-place_of t c = let a = c.args in
    let long : length a.at ≡ 32 = search rules in
    let some : a.n ≢ 0 = c.if-n-eq0.false in (
      c.loop_at.ensures.0 ∙ walk-found a.rows.now a.set a.x (is_x a.x c.requires.2.0 c.requires.2.1) a.at a.k c.in-Some.y long (omega arith) (omega arith)
          c.in-Some.ensures.0 a.n c.in-Some-place_of.i some (sym c.in-Some-place_of.ensures),
      c.loop_at.ensures.1,
    )

pub returns-in-None : goal.returns-in-None
returns-in-None t c = let a = c.args in
    let long : length a.at ≡ 32 = search rules in
    let some : a.n ≢ 0 = c.if-n-eq0.false in (
      c.walk_back.ensures.0 ∙ walk-on a.rows.now a.set a.x (is_x a.x c.requires.2.0 c.requires.2.1) a.at a.k c.in-Some.y long (omega arith) (omega arith)
          c.in-Some.ensures.0 a.n some (sym c.in-None.ensures),
      c.walk_back.ensures.1,
    )
