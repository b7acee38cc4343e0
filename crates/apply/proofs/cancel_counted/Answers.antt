use Rattle.std.proofs.Common.{◌∙◌}
use Rattle.apply.proofs.Laws.{cancel-free, cancel-other}
use Rattle.apply.proofs.cancel_counted.Goals as goal

pub returns-then-rest-p : goal.returns-then-rest-p
returns-then-rest-p c = cancel-free c.args.sets.now c.args.rest c.args.p c.if-rest-p.true

pub returns : goal.returns
returns c = c.counted.ensures ∙ cancel-other c.args.sets.now c.args.rest c.args.p c.if-rest-p.false
