use Rattle.std.proofs.Common.{◌≡◌, false, length, sym, ap, subst, ◌∙◌}
use Rattle.rules.specs.declared.Board.{Board}
use Rattle.rules.specs.declared.Reply.{Reply}
use Rattle.parts.specs.Entries.{IsEntries}
use Rattle.parts.proofs.Lined.{fresh_entries}
use Rattle.store.specs.Store.{board_of}
use Rattle.store.proofs.Boards.{board-size}
use Rattle.request.proofs.Ways.{numbers_fit}
use Rattle.linecall.specs.LineCall.{journal_full, FitsLine, reply_to, posted}
use Rattle.linecall.proofs.Laws.{call_full, call_posted, room, reply_fits}
use Rattle.linecall.proofs.known.line.Goals as goal

-- check 2 refuses

pub returns-then-is_full-clause-comes_to : goal.returns-then-is_full-clause-comes_to
returns-then-is_full-clause-comes_to c =
    let a = c.args in
    rw (call_full (board_of a.sets.now a.rest) a.line.now a.journal.now a.place c.requires.0 (sym c.is_full.ensures ∙ c.if-is_full.true))
    c.refused-changed.ensures.comes_to

pub returns-then-is_full-clause-place_value : goal.returns-then-is_full-clause-place_value
returns-then-is_full-clause-place_value c =
    let a = c.args in
    rw (call_full (board_of a.sets.now a.rest) a.line.now a.journal.now a.place c.requires.0 (sym c.is_full.ensures ∙ c.if-is_full.true))

pub returns-then-is_full-clause-journal_after : goal.returns-then-is_full-clause-journal_after
returns-then-is_full-clause-journal_after c =
    let a = c.args in
    rw (call_full (board_of a.sets.now a.rest) a.line.now a.journal.now a.place c.requires.0 (sym c.is_full.ensures ∙ c.if-is_full.true))

pub returns-then-is_full-clause-in_form : goal.returns-then-is_full-clause-in_form
returns-then-is_full-clause-in_form c = (c.sized.ensures, subst IsEntries (sym c.requires.1) fresh_entries, c.refused-changed.ensures.carries)

-- there is room

pub write_lines-at-requires : goal.write_lines-at-requires
write_lines-at-requires c =
    let a = c.args in
    let b : Board = board_of a.sets.now a.rest in
    let f : journal_full (length a.journal.now) a.place ≡ false = sym c.is_full.ensures ∙ c.if-is_full.false in
    let e : c.reply_to-changed.result.progress.count ≡ (reply_to b c.read-q.result).count =
    ap (λ (x : Reply). x.count) c.reply_to-changed.ensures.comes_to in (
      (room (length a.journal.now) a.place f).1,
      rw e (reply_fits b c.read-q.result (board-size a.sets.now a.rest) c.requires.0),
      subst FitsLine (sym c.read-q.ensures) (numbers_fit a.line.now),
    )

pub returns-clause-comes_to : goal.returns-clause-comes_to
unfolding posted
returns-clause-comes_to c =
    let a = c.args in
    let b : Board = board_of a.sets.now a.rest in
    rw (call_posted b a.line.now a.journal.now a.place c.requires.0 (sym c.is_full.ensures ∙ c.if-is_full.false))
    (c.reply_to-changed.ensures.comes_to ∙ ap (reply_to b) c.read-q.ensures)

pub returns-clause-place_value : goal.returns-clause-place_value
unfolding posted
returns-clause-place_value c =
    let a = c.args in
    let b : Board = board_of a.sets.now a.rest in
    let r = c.reply_to-changed.ensures.comes_to ∙ ap (reply_to b) c.read-q.ensures in
    rw (call_posted b a.line.now a.journal.now a.place c.requires.0 (sym c.is_full.ensures ∙ c.if-is_full.false), ← r, ← c.read-q.ensures)
    c.write_lines-at.ensures.value

pub returns-clause-journal_after : goal.returns-clause-journal_after
unfolding posted
returns-clause-journal_after c =
    let a = c.args in
    let b : Board = board_of a.sets.now a.rest in
    let r = c.reply_to-changed.ensures.comes_to ∙ ap (reply_to b) c.read-q.ensures in
    rw (call_posted b a.line.now a.journal.now a.place c.requires.0 (sym c.is_full.ensures ∙ c.if-is_full.false), ← r, ← c.read-q.ensures)
    c.write_lines-at.ensures.journal_after
