-- A line that has ended is served, its first bytes from those kept.
use Rattle.std.proofs.Common.{◌≡◌, ap, ◌∙◌, ◌++◌, List, ℕ, take}
use Rattle.request.specs.Verbs.{cut_line}
use Rattle.store.specs.Store.{board_of}
use Rattle.board.specs.Input.{held, served}
use Rattle.board.proofs.Laws.{call-served}
use Rattle.board.proofs.end_line.Goals as goal

-- nothing is kept: the part alone is the line
pub returns-then-len-eq0-clause-journal_after : goal.returns-then-len-eq0-clause-journal_after
returns-then-len-eq0-clause-journal_after c =
    let a = c.args in
    let b = board_of a.sets.now a.s.rest in
    let j = take a.s.place a.journal.now in
    let k = c.serve_line.ensures in
    let e : take cut_line a.part.now ≡ take cut_line (take a.s.kept a.kept.now ++ a.part.now) = rw c.if-len-eq0.true in
    call-served b _ a.journal.now a.s.place c.requires.rest_value.0 c.requires.place_le_last_place.0
    c.requires.place_le_last_place.1 _ _ _ k.rest_after k.place_value k.journal_after
    ∙ ap (λ (l : List ℕ). served (held b l j)) (c.cut.ensures ∙ e)

-- the part goes to the bytes kept
pub returns-clause-journal_after : goal.returns-clause-journal_after
returns-clause-journal_after c =
    let a = c.args in
    let b = board_of a.sets.now a.s.rest in
    let j = take a.s.place a.journal.now in
    let k = c.serve_line-2.ensures in
    call-served b _ a.journal.now a.s.place c.requires.rest_value.0 c.requires.place_le_last_place.0
    c.requires.place_le_last_place.1 _ _ _ k.rest_after k.place_value k.journal_after
    ∙ ap (λ (l : List ℕ). served (held b l j)) c.keep-n.ensures.kept_after
