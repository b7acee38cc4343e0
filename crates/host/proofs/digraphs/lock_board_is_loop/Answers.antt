use Prim.Native.Nat.{ℕ}
use mathlib.Core.Path.{ap, sym, ◌∙◌}
use mathlib.Core.Bool.{Bool, cond}
use Rattle.host.proofs.Digraph.{check_refused, checked-is}
use Rattle.host.proofs.digraphs.lock_board_is_loop.Goals as goal

pub returns-in_default : goal.returns-in_default
returns-in_default c =
    let a = c.args in
    c.refusal_answer.ensures ∙ sym (check_refused a.image.now a.program a.file a.list.now c.in_default.ensures)

pub returns-then-is_loop_with : goal.returns-then-is_loop_with
returns-then-is_loop_with c =
    let a = c.args in
    sym (checked-is a.image.now a.program a.file a.list.now c.in-Some.b c.is_loop_with.result c.in-Some.ensures c.is_loop_with.ensures
    ∙ ap (λ (t : Bool). cond {A = ℕ} t 1 0) c.if-is_loop_with.true)

pub returns : goal.returns
returns c =
    let a = c.args in
    sym (checked-is a.image.now a.program a.file a.list.now c.in-Some.b c.is_loop_with.result c.in-Some.ensures c.is_loop_with.ensures
    ∙ ap (λ (t : Bool). cond {A = ℕ} t 1 0) c.if-is_loop_with.false)
