-- The line call, as a definition: checks 1 and 2, the line, the direct call that it asks for, and its lines in the journal.
-- Assumes nothing.
use Rattle.std.specs.Prelude.{ℕ, ◌+◌, ◌*◌, ◌≤◌, Bool, not, cond, ◌||◌, List, [], ◌∷◌, Ok, Err, eqb, ltb, length}
use Rattle.rules.specs.declared.Board.{Board}
use Rattle.rules.specs.declared.Refusal.{Refusal}
use Rattle.rules.specs.declared.Word.{Word}
use Rattle.rules.specs.declared.Line.{Line}
use Rattle.rules.specs.declared.Reply.{Reply}
use Rattle.rules.specs.Soundness.{sound}
use Rattle.rules.specs.Replies.{refusal_of, lines_of, refuse, refuse_unsound}
use Rattle.rules.specs.Calls.{call_of, direct}
use Rattle.request.specs.Requests.{Request, asked_in, request_of}
use Rattle.journal.specs.Journal.{journal_line, journal_room, written}

-- the highest place
abbrev pub highest_place : ℕ
highest_place = 1000000000

-- check 2: "journal place above 1,000,000,000, or place + 512 above the buffer's length"; "the 512 of check 2 becomes 672"
abbrev pub journal_full : ℕ → ℕ → Bool
journal_full room place = ltb highest_place place || ltb room (place + journal_room)

-- the reply to what a line says: refusals 3 to 7, or the direct call with the line's numbers
unfoldable pub reply_to : Board → Request → Reply
reply_to b (Ok a) = direct b (call_of a)
reply_to b (Err r) = refuse b r

-- the numbers of the call fit a journal line's
abbrev pub FitsLine : Request → Type 0
FitsLine q = ((asked_in q).program ≤ 255) × ((asked_in q).file ≤ 255) × ((asked_in q).item ≤ 65535)

-- the REFUSE line: the program, the file and the record of the line; "Refusals 3 to 7 have program and file 0", and "the record of the call ..,
-- 0 in refusals 3 to 7", as a refused line has
abbrev pub refuse_line : Request → ℕ → Line
refuse_line q n =
    record { word = Word.Refuse; program = (asked_in q).program; file = (asked_in q).file; refusal = n; item = (asked_in q).item }

-- the journal lines of a reply: its own, or one REFUSE line
unfoldable pub lines_for : Request → Reply → List Line
lines_for q r = cond (eqb (refusal_of r.answer) 0) (lines_of r) (refuse_line q (refusal_of r.answer) ∷ [])

-- what a line call gives: the reply with the board after it, the new place, and the journal
pub record Outcome : Type 0 where
  pub reply : Reply
  pub place : ℕ
  pub journal : List ℕ

-- refusals 1 and 2 "write nothing and keep the place"
abbrev pub stopped : Reply → List ℕ → ℕ → Outcome
stopped r journal place = record { reply = r; place = place; journal = journal }

-- the reply's lines are written from the place on
unfoldable pub posted : Request → Reply → List ℕ → ℕ → Outcome
posted q r journal place =
    record {
      reply = r;
      place = place + journal_line * length (lines_for q r);
      journal = written journal place (lines_for q r);
    }

-- the line call: checks 1 and 2, then the line is read, then the direct call that it asks for
unfoldable pub line_call : Board → List ℕ → List ℕ → ℕ → Outcome
line_call b line journal place =
    cond (not (sound b)) (stopped (refuse_unsound b) journal place)
    (cond (journal_full (length journal) place) (stopped (refuse b Refusal.JournalFull) journal place)
    (posted (request_of line) (reply_to b (request_of line)) journal place))
