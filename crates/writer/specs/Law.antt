-- What is promised of the writer and the reader together, as types. proofs/Law.antt proves each.
-- Assumes nothing.
use Rattle.std.specs.Prelude.{ℕ, ◌≤◌, ◌≡◌, ◌↔◌, ◌≢◌, true, Ok, Err, is_ok, List, ◌++◌, length, take, drop}
use Rattle.rules.specs.declared.Asked.{Asked}
use Rattle.rules.specs.Calls.{Call}
use Rattle.request.specs.declared.Shape.{Shape}
use Rattle.request.specs.Verbs.{shape_of, longest_line}
use Rattle.request.specs.Requests.{request_call, request_of, label_of, asked_by, line_of}
use Rattle.request.specs.Law.{ClaimsInRange, InRange, saying, LabelFor, label_in}
use Rattle.writer.specs.declared.Unwritten.{Unwritten}
use Rattle.writer.specs.Writer.{writing_of, buffer_after}

-- the claims that a line of this shape has are sets of the files 1 to 64, as every set of the code
abbrev pub ClaimsAs : Shape → Asked → Type 0
ClaimsAs Shape.Entry a = ClaimsInRange a.claims
ClaimsAs Shape.File a = Unit {0}
ClaimsAs Shape.Record a = Unit {0}
ClaimsAs Shape.Alone a = Unit {0}

abbrev pub ClaimsOfFiles : Call → Type 0
ClaimsOfFiles c = ClaimsAs (shape_of (asked_by c).verb) (asked_by c)

-- the line l is written for the call with the label: into this buffer, from its start, and the bytes after it keep their contents
abbrev pub WritesInto : Call → List ℕ → List ℕ → List ℕ → Type 0
WritesInto c label buffer l = (writing_of c label buffer ≡ Ok (length l)) × (buffer_after c label buffer ≡ l ++ drop (length l) buffer)

-- "The reader takes each written line back to the same call": the line says the call and nothing else, and its label is the one handed in
abbrev pub ReadsBack : Type 0
ReadsBack = (c : Call) (label buffer : List ℕ) (n : ℕ) → ClaimsOfFiles c → writing_of c label buffer ≡ Ok n
    → (request_of (take n (buffer_after c label buffer)) ≡ saying c)
    × (request_call (request_of (take n (buffer_after c label buffer))) ≡ c)
    × (label_of (take n (buffer_after c label buffer)) ≡ label_in c label)

-- "writing what was read yields the identical line": for every line that the reader takes, and every buffer that is long enough
abbrev pub WritesBack : Type 0
WritesBack = (l buffer : List ℕ) → is_ok (request_of l) ≡ true → length l ≤ length buffer
    → WritesInto (request_call (request_of l)) (label_of l) buffer l

-- the line is written for some call with some label, into every buffer that is long enough
pub record Written (l : List ℕ) : Type 0 where
  pub call : Call
  pub label : List ℕ
  pub claims : ClaimsOfFiles call
  pub writes : (buffer : List ℕ) → length l ≤ length buffer → WritesInto call label buffer l

-- so the written lines are exactly the lines that the reader takes
abbrev pub WrittenIsTaken : Type 0
WrittenIsTaken = (l : List ℕ) → Written l ↔ (is_ok (request_of l) ≡ true)

-- "Claims that meet are written too": a call within range, and that asks nothing of what its claims have in common, is written; an ENTER
-- with every good label, any other call whatever stands as label
abbrev pub AlwaysWritten : Type 0
AlwaysWritten = (c : Call) (label buffer : List ℕ) → InRange c → LabelFor c label → length (line_of c label) ≤ length buffer
    → WritesInto c label buffer (line_of c label)

-- "Bytes after the line keep their contents ..
abbrev pub BytesAfterKept : Type 0
BytesAfterKept = (c : Call) (label buffer : List ℕ) (n : ℕ) → writing_of c label buffer ≡ Ok n
    → drop n (buffer_after c label buffer) ≡ drop n buffer

-- .. and a refusal fills nothing."
abbrev pub RefusalFillsNothing : Type 0
RefusalFillsNothing = (c : Call) (label buffer : List ℕ) (r : Unwritten) → writing_of c label buffer ≡ Err r
    → buffer_after c label buffer ≡ buffer

-- the longest line's length is enough for every line
abbrev pub LongestLine : Type 0
LongestLine = (c : Call) (label buffer : List ℕ) → longest_line ≤ length buffer → writing_of c label buffer ≢ Err Unwritten.BufferShort
