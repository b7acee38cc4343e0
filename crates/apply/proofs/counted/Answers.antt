use Rattle.apply.proofs.Laws.{leave-free, leave-counted}
use Rattle.apply.proofs.counted.Goals as goal

pub returns-then-rest-eq0 : goal.returns-then-rest-eq0
returns-then-rest-eq0 c = leave-free c.args.sets.now c.args.rest c.if-rest-eq0.true

pub returns : goal.returns
returns c = leave-counted c.args.sets.now c.args.rest c.if-rest-eq0.false
