-- `held_by` meets its contract. Assumes nothing.
use Rattle.std.proofs.Common.{rules}
use Rattle.store.specs.Sets.{holds_one}
use Rattle.tables.proofs.Walk.{passing}
use Rattle.tables.proofs.rows.held_by.Goals as goal

pub returns : goal.returns
returns c =
    passing c.args.set c.filter.result (λ x. holds_one c.args.sets.now x c.args.p) (search rules) (λ x e. search (rules, c.filter.ensures.0 x e)) c.filter.ensures.1
