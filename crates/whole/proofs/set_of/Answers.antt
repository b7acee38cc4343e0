use Rattle.std.proofs.Common.{rules}
use Rattle.whole.proofs.Laws.{word_set}
use Rattle.whole.proofs.set_of.Goals as goal

pub returns : goal.returns
returns c = word_set c.args.s.now c.requires (search rules)
