-- `but_lowest` meets its contract. Assumes nothing.
use Rattle.std.proofs.Common.{ap, rules}
use Rattle.tables.specs.declared.ProgramSet.{ProgramSet}
use Rattle.tables.proofs.Digits.{lowest_cleared}
use Rattle.tables.proofs.ProgramSet.but_lowest.Goals as goal

pub returns : goal.returns
returns c = ap {B = ProgramSet} (λ x. record { bits = x }) (lowest_cleared c.args.self c.requires (search rules))
