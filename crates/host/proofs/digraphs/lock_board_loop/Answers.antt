use native.Mathlib.Omega.{arith}
use Rattle.host.proofs.Laws.{image_read}
use Rattle.host.proofs.Digraph.{loop_refused, loop_no-program, loop_short, loop_written}
use Rattle.host.proofs.digraphs.lock_board_loop.Goals as goal

pub returns-in_default : goal.returns-in_default
returns-in_default c =
    loop_refused c.args.image.now c.args.program c.args.list.now c.refusal_answer.result c.in_default.ensures c.refusal_answer.ensures

pub returns-then-program-eq0 : goal.returns-then-program-eq0
returns-then-program-eq0 c =
    loop_no-program c.args.image.now c.args.program c.args.list.now c.in-Some.b c.refusal_answer-then-program-eq0.result c.in-Some.ensures
    (λ q. omega (arith, c.if-program-eq0.true, q.least)) c.refusal_answer-then-program-eq0.ensures

pub returns-then-program-gt32 : goal.returns-then-program-gt32
returns-then-program-gt32 c =
    loop_no-program c.args.image.now c.args.program c.args.list.now c.in-Some.b c.refusal_answer-then-program-gt32.result c.in-Some.ensures
    (λ q. omega (arith, c.if-program-gt32.true, q.most)) c.refusal_answer-then-program-gt32.ensures

pub returns-then-list-lt32 : goal.returns-then-list-lt32
returns-then-list-lt32 c =
    loop_short c.args.image.now c.args.program c.args.list.now c.in-Some.b c.refusal_answer-then-list-lt32.result c.in-Some.ensures
    (record { least = omega arith; most = omega arith }) c.if-list-lt32.true c.refusal_answer-then-list-lt32.ensures

pub put_loop-requires : goal.put_loop-requires
put_loop-requires c = ((omega arith, omega arith), (image_read c.args.image.now c.in-Some.b c.in-Some.ensures).1, omega arith)

pub returns : goal.returns
returns c =
    loop_written c.args.image.now c.args.program c.args.list.now c.in-Some.b c.put_loop.result _ c.in-Some.ensures
    (record { least = omega arith; most = omega arith }) c.if-list-lt32.false c.put_loop.ensures
