-- The writer of request lines, as definitions: what it answers, and what stands in the lent buffer after it.
-- The line itself is `line_of` (request/specs/Requests), which the law of the reader speaks of.
-- Assumes nothing.
use Rattle.std.specs.Prelude.{ℕ, Bool, true, cond, ◌&&◌, List, ◌++◌, Result, Ok, Err, eqb, ltb, length, drop}
use Rattle.files.specs.Sets.{is_file}
use Rattle.laws.specs.Lists.{all}
use Rattle.rules.specs.Boards.{is_program}
use Rattle.rules.specs.declared.Asked.{Asked}
use Rattle.rules.specs.Calls.{Call}
use Rattle.rules.specs.Checks.{is_record}
use Rattle.request.specs.declared.Shape.{Shape}
use Rattle.request.specs.Verbs.{shape_of, label_width}
use Rattle.request.specs.Requests.{label_byte, asked_by, line_as, line_of}
use Rattle.writer.specs.declared.Unwritten.{Unwritten}

-- what the writer answers: the length of the line, or the refusal
abbrev pub Writing : Type 0
Writing = Result ℕ Unwritten

-- the numbers of the refusals
abbrev pub unwritten_number : Unwritten → ℕ
unwritten_number Unwritten.OutOfRange = 8
unwritten_number Unwritten.BadRecord = 19
unwritten_number Unwritten.BadLabel = 6
unwritten_number Unwritten.BufferShort = 17

-- ---- checks, by the shape of the line

-- check 8: the numbers that a line of this shape has are those of a program, and of a file
abbrev pub numbers_good : Shape → Asked → Bool
numbers_good Shape.Entry a = is_program a.program
numbers_good Shape.File a = is_program a.program && is_file a.file
numbers_good Shape.Record a = is_program a.program && is_file a.file
numbers_good Shape.Alone a = is_program a.program

-- check 19, "a record number out of range .. (after 8)": the record of FETCH; no other line has one
abbrev pub record_good : Shape → Asked → Bool
record_good Shape.Entry a = true
record_good Shape.File a = true
record_good Shape.Record a = is_record a.item
record_good Shape.Alone a = true

-- eight bytes from 32 to 126
abbrev pub is_label : List ℕ → Bool
is_label label = eqb (length label) label_width && all label_byte label

-- check 6, "for ENTER"; no other line has a label
abbrev pub label_good : Shape → List ℕ → Bool
label_good Shape.Entry label = is_label label
label_good Shape.File label = true
label_good Shape.Record label = true
label_good Shape.Alone label = true

-- ---- a line in a lent buffer

-- "It refuses a buffer shorter than the line with 17"; otherwise the line's length
abbrev pub placing : List ℕ → List ℕ → Writing
placing line buffer = cond (ltb (length buffer) (length line)) (Err Unwritten.BufferShort) (Ok (length line))

-- "Bytes after the line keep their contents, and a refusal fills nothing."
abbrev pub filled : Writing → List ℕ → List ℕ → List ℕ
filled (Ok n) line buffer = line ++ drop n buffer
filled (Err r) line buffer = buffer

-- the buffer with the line in it, or as it was where it is too short
abbrev pub placed_in : List ℕ → List ℕ → List ℕ
placed_in line buffer = filled (placing line buffer) line buffer

-- ---- the writer

-- what it answers: 17 comes "after 01's checks 8 and, for ENTER, 6", and 19 "after 8"
abbrev pub writing_as : Shape → Asked → List ℕ → List ℕ → Writing
writing_as s a label buffer =
    cond (numbers_good s a)
    (cond (record_good s a)
    (cond (label_good s label) (placing (line_as s a label) buffer) (Err Unwritten.BadLabel))
    (Err Unwritten.BadRecord))
    (Err Unwritten.OutOfRange)

-- of a call: its line has the shape of its verb
unfoldable pub writing_of : Call → List ℕ → List ℕ → Writing
writing_of c label buffer = writing_as (shape_of (asked_by c).verb) (asked_by c) label buffer

-- every byte of the lent buffer then
unfoldable pub buffer_after : Call → List ℕ → List ℕ → List ℕ
buffer_after c label buffer = filled (writing_of c label buffer) (line_of c label) buffer
