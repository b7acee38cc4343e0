-- What a call gives back: the board after it, the answer, its lines and the carried order; and 01's number and word of each answer.
-- Assumes nothing.
use Rattle.std.specs.Prelude.{ℕ, ◌+◌, Bool, true, false, cond, List, [], ◌∷◌, length, take, drop}
use Rattle.std.proofs.Math.Option.{get_or}
use Rattle.rules.specs.declared.Board.{Board}
use Rattle.rules.specs.declared.Refusal.{Refusal}
use Rattle.rules.specs.declared.Answer.{Answer}
use Rattle.rules.specs.declared.Word.{Word}
use Rattle.rules.specs.declared.Line.{Line}
use Rattle.rules.specs.declared.Reply.{Reply}
use Rattle.laws.specs.Lists.{padded}
use Rattle.rules.specs.Orders.{carried}
use Rattle.rules.specs.Settling.{line}

-- ---- numbers and words

-- the number of each refusal: 01's ("Where each check is made"), 18 for a cancel of a running program, and CR 7's 19 to 21
abbrev pub number : Refusal → ℕ
number Refusal.NotSound = 1
number Refusal.JournalFull = 2
number Refusal.NoVerb = 3
number Refusal.BadLength = 4
number Refusal.BadNumber = 5
number Refusal.BadLabel = 6
number Refusal.NotRising = 7
number Refusal.OutOfRange = 8
number Refusal.NotAbsent = 9
number Refusal.ClaimsMeet = 10
number Refusal.IsAbsent = 11
number Refusal.IsHeld = 12
number Refusal.IsWaiting = 13
number Refusal.NotClaimed = 14
number Refusal.IsOpen = 15
number Refusal.NotOpen = 16
number Refusal.IsRunning = 18
number Refusal.BadRecord = 19
number Refusal.NoRecord = 20
number Refusal.HasRecord = 21

-- the number of a refusal, and 0 for any other answer
abbrev pub refusal_of : Answer → ℕ
refusal_of Answer.Admit = 0
refusal_of Answer.Held = 0
refusal_of Answer.Given = 0
refusal_of Answer.Wait = 0
refusal_of Answer.Unsafe = 0
refusal_of Answer.Done = 0
refusal_of (Answer.Refuse r) = number r

-- the answer is a refusal; "A call is accepted if it isn't refused."
abbrev pub refused : Answer → Bool
refused Answer.Admit = false
refused Answer.Held = false
refused Answer.Given = false
refused Answer.Wait = false
refused Answer.Unsafe = false
refused Answer.Done = false
refused (Answer.Refuse r) = true

-- the word of each answer in the journal
abbrev pub word_of : Answer → Word
word_of Answer.Admit = Word.Admit
word_of Answer.Held = Word.Held
word_of Answer.Given = Word.Given
word_of Answer.Wait = Word.Wait
word_of Answer.Unsafe = Word.Unsafe
word_of Answer.Done = Word.Done
word_of (Answer.Refuse r) = Word.Refuse

-- ---- replies

-- what stands in the places after the last line
abbrev pub blank : Line
blank = line Word.Admit 0 0

-- the board after the call, the answer, the lines and an order, each in 32 places
abbrev pub reply_with : Board → Answer → List Line → List ℕ → Reply
reply_with b a ls order =
    record {
      board = b;
      answer = a;
      lines = padded blank ls;
      count = length ls;
      order = padded 0 order;
      placed = length order;
    }

-- "Every answer carries the order of the board after the call"
unfoldable pub reply : Board → Answer → List Line → Reply
reply b a ls = reply_with b a ls (get_or (carried b) [])

-- "a refusal that of the unchanged board"; "refused, it has no lines"
unfoldable pub refuse : Board → Refusal → Reply
refuse b r = reply b (Answer.Refuse r) []

-- "refusal 1 an empty one"
unfoldable pub refuse_unsound : Board → Reply
refuse_unsound b = reply_with b (Answer.Refuse Refusal.NotSound) [] []

-- ---- what is read from a reply

-- its lines: the first `count` of the 32 places
abbrev pub lines_of : Reply → List Line
lines_of r = take r.count r.lines

-- the lines of settling: "The answer comes first, then settling's GIVEN lines, then FAVOUR .. or ADMIT lines."; after an enter's HELD the
-- FAVOUR line of a waiter, and after a DONE the GIVEN line of one to whom a record is handed on
abbrev pub settling_lines : Reply → List Line
settling_lines r = drop 1 (lines_of r)

-- the line says that a program was admitted
abbrev pub is_admit : Word → Bool
is_admit Word.Admit = true
is_admit Word.Held = false
is_admit Word.Given = false
is_admit Word.Wait = false
is_admit Word.Unsafe = false
is_admit Word.Done = false
is_admit Word.Favour = false
is_admit Word.Refuse = false

-- the number of ADMIT lines
unfoldable pub admits : List Line → ℕ
admits [] = 0
admits (l ∷ ls) = cond (is_admit l.word) 1 0 + admits ls

-- its order: the first `placed` of the 32 places
abbrev pub order_of : Reply → List ℕ
order_of r = take r.placed r.order
