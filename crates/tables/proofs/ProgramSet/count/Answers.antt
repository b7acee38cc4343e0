-- `count` meets its contract. Assumes nothing.
use Rattle.std.proofs.Common.{sym, rules}
use lib.Count.{ones-le}
use Rattle.rules.specs.Boards.{everyone}
use Rattle.tables.proofs.Digits.{ones_all}
use Rattle.tables.proofs.ProgramSet.count.Goals as goal

pub returns : goal.returns
unfolding everyone
returns c = (sym (ones_all c.args.self.bits (search rules)), ones-le 32 c.args.self.bits (search rules))
