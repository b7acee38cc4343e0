-- What demands 1 and 2 say of a line call and of a C host's call, as types. proofs/Promises.antt proves each.
-- Assumes nothing.
use Rattle.std.specs.Prelude.{ℕ, None, Some, Err, ◌+◌, ◌≤◌, ◌<◌, ◌≡◌, ◌⊎◌, ◌≢◌, true, false, List, [], ◌∷◌, length, get_or, take, drop}
use Rattle.files.specs.Sets.{no_files}
use Rattle.rules.specs.declared.Board.{Board}
use Rattle.rules.specs.declared.Refusal.{Refusal}
use Rattle.rules.specs.declared.Answer.{Answer}
use Rattle.rules.specs.declared.Line.{Line}
use Rattle.rules.specs.Boards.{empty_board}
use Rattle.rules.specs.Soundness.{sound}
use Rattle.rules.specs.Replies.{number, refusal_of, refused, word_of, refuse, order_of}
use Rattle.rules.specs.Calls.{Call, Enter, Open, Leave, direct}
use Rattle.request.specs.Requests.{Request, asked_in, request_of, line_of}
use Rattle.request.specs.Law.{InRange, LabelFor}
use Rattle.journal.specs.Journal.{journal_line, line_bytes, written}
use Rattle.image.specs.Image.{image_of}
use Rattle.image.specs.Law.{BoardOfCode, Bytes}
use Rattle.linecall.specs.LineCall.{journal_full, refuse_line, line_call}
use Rattle.host.specs.Host.{read_image, host_call, order_now}

-- ══ Lines ══

-- "Line calls ..: demand 2 has each do what the direct call with its line's numbers does": the line that asks for c; an ENTER with
-- any label, and another call whatever stands as label
abbrev pub LineDoesItsCall : Type 0
LineDoesItsCall = (b : Board) (c : Call) (label journal : List ℕ) (place : ℕ) → InRange c → LabelFor c label
    → journal_full (length journal) place ≡ false → (line_call b (line_of c label) journal place).reply ≡ direct b c

-- ".. or leave the board as it was": a line that isn't taken gets its refusal, with the order of the unchanged board, and one REFUSE line
abbrev pub LineRefused : Type 0
LineRefused = (b : Board) (line journal : List ℕ) (place : ℕ) (r : Refusal) → sound b ≡ true → journal_full (length journal) place ≡ false
    → request_of line ≡ Err r
    → line_call b line journal place ≡ record {
      reply = refuse b r;
      place = place + journal_line;
      journal = written journal place (refuse_line (request_of line) (number r) ∷ []);
    }

-- ══ Refused calls ══

-- "The board stays equal to the one handed in."
abbrev pub RefusedKeepsBoard : Type 0
RefusedKeepsBoard = (b : Board) (line journal : List ℕ) (place : ℕ)
    → refused (line_call b line journal place).reply.answer ≡ true → (line_call b line journal place).reply.board ≡ b

-- "Refusals 1 and 2 write nothing and keep the place"
abbrev pub WritesNothing : Type 0
WritesNothing = (b : Board) (line journal : List ℕ) (place : ℕ)
    → (sound b ≡ false) ⊎ (journal_full (length journal) place ≡ true)
    → ((line_call b line journal place).journal ≡ journal) × ((line_call b line journal place).place ≡ place)

-- "8 is met only in direct calls": no line call answers it, whatever the board, the line, the journal and the place ..
abbrev pub LineNeverOutOfRange : Type 0
LineNeverOutOfRange = (b : Board) (line journal : List ℕ) (place : ℕ) → refusal_of (line_call b line journal place).reply.answer ≢ 8

-- .. and direct calls do meet it, on the empty board too: program 0, program 33, file 65
abbrev pub DirectOutOfRange : Type 0
DirectOutOfRange = (refusal_of (direct empty_board (Leave 0)).answer ≡ 8)
    × (refusal_of (direct empty_board (Enter 33 no_files no_files no_files)).answer ≡ 8)
    × (refusal_of (direct empty_board (Open 1 65)).answer ≡ 8)

-- ══ The journal ══

-- the line of an answer: its word, the program, the file and the record of the request line, and the number of the refusal, 0 where none
abbrev pub answer_line : Request → Answer → Line
answer_line q a = record { word = word_of a; program = (asked_in q).program; file = (asked_in q).file; refusal = refusal_of a; item = (asked_in q).item }

-- "The answer comes first", REFUSE too: the first of the lines that a call writes
abbrev pub AnswerWrittenFirst : Type 0
AnswerWrittenFirst = (b : Board) (line journal : List ℕ) (place : ℕ) → sound b ≡ true → journal_full (length journal) place ≡ false
    → take journal_line (drop place (line_call b line journal place).journal)
    ≡ line_bytes (answer_line (request_of line) (line_call b line journal place).reply.answer)

-- "other bytes keep their contents": those before the place and from the new place on
abbrev pub OtherBytesKept : Type 0
OtherBytesKept = (b : Board) (line journal : List ℕ) (place i : ℕ)
    → (i < place) ⊎ ((line_call b line journal place).place ≤ i)
    → get_or (line_call b line journal place).journal i 0 ≡ get_or journal i 0

-- ══ The order ══

-- "Every answer carries the order of the board after the call": it is the one that a host asks for by `lock_board_order`
abbrev pub OrderCarried : Type 0
OrderCarried = (b : Board) (line journal : List ℕ) (place : ℕ) → sound b ≡ true
    → order_of (line_call b line journal place).reply ≡ order_now (line_call b line journal place).reply.board

-- ══ The image ══

-- "A sound board written to bytes reads back equal"
abbrev pub ReadsBack : Type 0
ReadsBack = (b : Board) → BoardOfCode b → sound b ≡ true → read_image (image_of b) ≡ Some b

-- "an accepted image is the one that writing gives"
abbrev pub AcceptedIsWritten : Type 0
AcceptedIsWritten = (image : List ℕ) (b : Board) → Bytes image → read_image image ≡ Some b → image_of b ≡ image

-- "on a refusal the same bytes as before": the C host's image, where the answer is that of refusal 1 or 2, or the call is refused
abbrev pub RefusedKeepsImage : Type 0
RefusedKeepsImage = (image line journal : List ℕ) (place : ℕ)
    → (read_image image ≡ None)
    ⊎ ((b : Board) × (read_image image ≡ Some b) × (refused (line_call b line journal place).reply.answer ≡ true))
    → (host_call image line journal place).image ≡ image
