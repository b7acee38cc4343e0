-- `holders_in` meets its contract. Assumes nothing.
use Rattle.std.proofs.Common.{rules}
use Rattle.tables.specs.ProgramSets.{has_program}
use Rattle.tables.specs.Tables.{row_of}
use Rattle.tables.proofs.Walk.{passing}
use Rattle.search.proofs.gives.holders_in.Goals as goal

pub returns : goal.returns
returns c =
    passing c.args.set c.filter.result (λ x. has_program (row_of c.args.rows.now x) c.args.p) (search rules)
    (λ x e. search (rules, c.filter.ensures.0 x e)) c.filter.ensures.1
