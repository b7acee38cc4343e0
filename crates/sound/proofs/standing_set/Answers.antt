-- `standing_set` meets its contract. Assumes nothing.
use Rattle.std.proofs.Common.{rules}
use Rattle.store.specs.Store.{standing_at}
use Rattle.tables.proofs.Walk.{all-passing}
use Rattle.sound.proofs.standing_set.Goals as goal

pub returns : goal.returns
returns g c = λ t f. all-passing c.those.result (λ p. t (standing_at c.args.rest p)) (search rules) (λ x h k. search (rules, f, c.those.ensures x h k))
