use mathlib.Core.Path.{sym, ◌∙◌}
use Rattle.host.proofs.Digraph.{reach_refused, reach_short, reach_written}
use Rattle.host.proofs.digraphs.lock_board_reach.Goals as goal

pub returns-in_default : goal.returns-in_default
returns-in_default c =
    let e = reach_refused c.args.image.now c.args.rows.now c.in_default.ensures in
    record { value = c.refusal_answer.ensures ∙ sym e.0; rows_after = sym e.1 }

pub returns-then-rows-lt128 : goal.returns-then-rows-lt128
returns-then-rows-lt128 c =
    let e = reach_short c.args.image.now c.args.rows.now c.in-Some.b c.in-Some.ensures c.if-rows-lt128.true in
    record { value = c.refusal_answer-then-rows-lt128.ensures ∙ sym e.0; rows_after = sym e.1 }

pub returns : goal.returns
returns c =
    let e = reach_written c.args.image.now c.args.rows.now c.in-Some.b _ _ c.in-Some.ensures c.if-rows-lt128.false c.fill_matrix.ensures c.put_rows.ensures in
    record { value = e.0; rows_after = e.1 }
