use Rattle.std.proofs.Common.{sym, ap, ◌∙◌, length}
use Rattle.laws.specs.Lists.{keep}
use Rattle.rules.specs.Boards.{everyone, awaited_of}
use Rattle.store.specs.Store.{board_of}
use Rattle.store.proofs.Boards.{board-at}
use Rattle.tables.specs.ProgramSets.{has_program}
use Rattle.tables.proofs.Given.{seats_admitted}
use Rattle.tables.proofs.Laws.{admitted-those}
use Rattle.settling.proofs.Storing.{favour-done}
use Rattle.settling.proofs.favour_waiter.Goals as goal

pub returns : goal.returns
returns c = let a = c.args in let b = board-at a.sets.now a.w.rest a.p c.requires.0.0 c.requires.0.1 in
    rw (c.write_line.ensures.value, c.write_line.ensures.lines_after) (favour-done a.sets.now a.lines.now a.w.rest a.w.count a.p c.line_of.result _ _ _ c.line_of.ensures
    (c.awaited-f.ensures ∙ ap (λ t. awaited_of t.standing) c.seat_at-seat.ensures ∙ sym (ap (λ q. awaited_of q.standing) b))
    (ap (λ t. t.item) c.seat_at-seat.ensures ∙ sym (ap (λ q. q.item) b))
    (c.count.ensures.0 ∙ ap (λ x. length (keep (has_program x) everyone)) (c.admitted_seats-admitted.ensures ∙ seats_admitted a.sets.now a.w.rest)
    ∙ ap length (admitted-those (board_of a.sets.now a.w.rest))))
