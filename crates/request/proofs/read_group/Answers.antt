use Rattle.std.proofs.Common.{◌+◌, ◌-◌, ◌*◌, arith, drop, sym, ap, ◌∙◌}
use Rattle.std.specs.Prelude.{option_and_then}
use Rattle.columns.specs.Columns.{file_width}
use Rattle.request.specs.Groups.{group_from}
use Rattle.request.proofs.Laws.{group_more, group_ends}
use Rattle.request.proofs.read_group.Goals as goal

pub returns-in_err-g : goal.returns-in_err-g
returns-in_err-g c =
    let l = c.loop-i in
    let a = c.args in
    let turn = group_more a.count l.i a.start a.line.now l.g _ (omega arith) c.join.ensures in
    c.from_residual.ensures ∙ sym (l.invariant ∙ turn ∙ ap (λ o. option_and_then (group_from (a.count - (l.i + 1)) (drop (a.start + file_width * (l.i + 1)) a.line.now)) o) c.in_err-g.was)

pub loop-i-preserved : goal.loop-i-preserved
loop-i-preserved c =
    let l = c.loop-i in
    let a = c.args in
    let turn = group_more a.count l.i a.start a.line.now l.g _ (omega arith) c.join.ensures in
    l.invariant ∙ turn ∙ ap (λ o. option_and_then (group_from (a.count - (l.i + 1)) (drop (a.start + file_width * (l.i + 1)) a.line.now)) o) c.in_ok-g.was

pub returns : goal.returns
returns c = let l = c.loop-i in sym (l.invariant ∙ group_ends c.args.count l.i _ l.g (omega arith))
