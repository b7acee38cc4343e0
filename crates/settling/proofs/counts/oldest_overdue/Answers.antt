use Rattle.std.proofs.Common.{rules}
use Rattle.rules.specs.Boards.{is_program}
use Rattle.rules.specs.Settling.{overdue}
use Rattle.laws.specs.Lists.{names}
use Rattle.laws.specs.Laws.{all-each}
use Rattle.lines.proofs.Laws.{program_range}
use Rattle.store.specs.Store.{board_of}
use Rattle.settling.proofs.Counting.{due}
use Rattle.settling.proofs.counts.oldest_overdue.Goals as goal

pub oldest-requires : goal.oldest-requires
oldest-requires c = λ p m. let r = program_range p (all-each is_program (names c.args.rest.waiting) c.requires p m) in search rules

pub returns : goal.returns
unfolding overdue board_of
returns c = c.oldest.ensures (due (board_of c.args.sets.now c.args.rest)) (λ p m t h.
    let r = program_range p (all-each is_program (names c.args.rest.waiting) c.requires p m) in search rules)
