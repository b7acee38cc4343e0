-- `lowest` meets its contract. Assumes nothing.
use Rattle.std.proofs.Common.{rules}
use Rattle.tables.proofs.Digits.{lowest_is, lowest_first}
use Rattle.tables.proofs.ProgramSet.lowest.Goals as goal

pub returns : goal.returns
returns c = let s = c.args.self in let l = lowest_is s c.requires (search rules) in (lowest_first s _ l, l)
