use Rattle.lines.proofs.Laws.{push_is}
use Rattle.lines.proofs.append.Goals as goal

pub returns : goal.returns
returns c = rw (← c.count_names-n.ensures.0) at (push_is c.args.line c.args.p c.requires.0 c.requires.1)
