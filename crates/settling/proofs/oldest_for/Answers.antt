use Rattle.std.proofs.Common.{◌≡◌, rules}
use Rattle.rules.specs.Boards.{is_program}
use Rattle.laws.specs.Lists.{names}
use Rattle.laws.specs.Laws.{all-each}
use Rattle.rules.specs.Boards.{at, wants}
use Rattle.lines.proofs.Laws.{program_range}
use Rattle.store.specs.Store.{board_of, seat_at}
use Rattle.settling.specs.Writing.{seat_wants}
use Rattle.settling.proofs.Laws.{waiter_wants}
use Rattle.settling.proofs.oldest_for.Goals as goal

pub oldest-requires : goal.oldest-requires
oldest-requires c = λ p m. let r = program_range p (all-each is_program (names c.args.rest.waiting) c.requires p m) in search rules

pub returns : goal.returns
unfolding board_of
returns c = λ sets. c.oldest.ensures (λ w. wants (at (board_of sets c.args.rest) w) c.args.f c.args.n) (λ p m t h.
    let e : t ≡ seat_wants (seat_at c.args.rest p) c.args.f c.args.n = search rules in
    waiter_wants sets c.args.rest p c.args.f c.args.n t (program_range p (all-each is_program (names c.args.rest.waiting) c.requires p m)) e)
