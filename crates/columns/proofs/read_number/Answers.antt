use Rattle.std.proofs.Common.{arith, sym, ◌∙◌, add-one}
use Rattle.columns.proofs.Laws.{read_none, read_turn, read-ends}
use Rattle.columns.proofs.read_number.Goals as goal

pub returns-then-part-width-clause-value : goal.returns-then-part-width-clause-value
returns-then-part-width-clause-value c = sym (read_none c.args.low c.args.high c.args.width c.args.part.now c.if-part-width.true)

pub loop-b-preserved : goal.loop-b-preserved
loop-b-preserved c =
    let l = c.loop-b in
    let a = c.args in
    record {
      below = c.read_one-d.ensures.1;
      read = l.invariant.read ∙ rw (add-one l.b-index) (read_turn a.low a.high l.d _ a.part.now l.b-index (omega arith) c.read_one-d.ensures.0);
    }

pub returns-clause-value : goal.returns-clause-value
returns-clause-value c =
    let l = c.loop-b in
    let a = c.args in
    c.in_range.ensures ∙ read-ends a.low a.high a.width l.d a.part.now l.b-index (omega arith) (omega arith) l.invariant.read
