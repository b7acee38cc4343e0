-- The law of request lines, as types: a line is taken with a call exactly when it is the line that asks for this call, with some label.
-- It is proved in proofs/Lines.antt. Assumes nothing.
use Rattle.std.specs.Prelude.{ℕ, ◌≤◌, ◌≡◌, ◌↔◌, Ok, is_ok, true, List, [], length}
use Rattle.files.specs.Sets.{OfFiles}
use Rattle.laws.specs.Lists.{all}
use Rattle.rules.specs.Calls.{Call}
use Rattle.rules.specs.declared.Claims.{Claims}
use Rattle.rules.specs.declared.Asked.{Asked}
use Rattle.request.specs.declared.Shape.{Shape}
use Rattle.request.specs.Verbs.{shape_of, label_width}
use Rattle.request.specs.Requests.{Request, request_call, label_byte, request_of, has_label, label_of, asked_by, line_of}

-- a label: eight bytes from 32 to 126
abbrev pub IsLabel : List ℕ → Type 0
IsLabel l = (length l ≡ label_width) × (all label_byte l ≡ true)

-- claims are sets of the files 1 to 64
abbrev pub ClaimsInRange : Claims → Type 0
ClaimsInRange c = OfFiles c.writable × OfFiles c.readable × OfFiles c.inquirable

-- the numbers are those of a program, of a file, and of a record, and the claims are such sets
abbrev pub RangeAs : Shape → Asked → Type 0
RangeAs Shape.Entry a = (1 ≤ a.program) × (a.program ≤ 32) × ClaimsInRange a.claims
RangeAs Shape.File a = (1 ≤ a.program) × (a.program ≤ 32) × (1 ≤ a.file) × (a.file ≤ 64)
RangeAs Shape.Record a =
    (1 ≤ a.program) × (a.program ≤ 32) × (1 ≤ a.file) × (a.file ≤ 64) × (1 ≤ a.item) × (a.item ≤ 65535)
RangeAs Shape.Alone a = (1 ≤ a.program) × (a.program ≤ 32)

abbrev pub AskedInRange : Asked → Type 0
AskedInRange a = RangeAs (shape_of a.verb) a

-- the numbers and claims of a call are
abbrev pub InRange : Call → Type 0
InRange c = AskedInRange (asked_by c)

-- what a line that asks for a call says
abbrev pub saying : Call → Request
saying c = Ok (asked_by c)

-- a label, where the line of the call has one: ENTER's
abbrev pub LabelFor : Call → List ℕ → Type 0
LabelFor c label = has_label (shape_of (asked_by c).verb) ≡ true → IsLabel label

-- the label that stands in a line of this shape, and in that of a call; no other line than ENTER's has one
abbrev pub label_as : Shape → List ℕ → List ℕ
label_as Shape.Entry label = label
label_as Shape.File label = []
label_as Shape.Record label = []
label_as Shape.Alone label = []

abbrev pub label_in : Call → List ℕ → List ℕ
label_in c label = label_as (shape_of (asked_by c).verb) label

-- the line is taken, and c is the call it asks for
abbrev pub TakenWith : List ℕ → Call → Type 0
TakenWith l c = (is_ok (request_of l) ≡ true) × (request_call (request_of l) ≡ c)

-- c is within range, and the line is the one that asks for c, with some label
abbrev pub AsksFor : List ℕ → Call → Type 0
AsksFor l c = InRange c × ((label : List ℕ) × LabelFor c label × (l ≡ line_of c label))

-- THE LAW, both ways
abbrev pub LineLaw : Type 0
LineLaw = (l : List ℕ) (c : Call) → TakenWith l c ↔ AsksFor l c

-- the line that asks for c says c and nothing else
abbrev pub SayingLaw : Type 0
SayingLaw = (c : Call) (label : List ℕ) → InRange c → LabelFor c label → request_of (line_of c label) ≡ saying c

-- the label that is given back is the one that stands in the line; "for another verb .. that part is empty"
abbrev pub LabelLaw : Type 0
LabelLaw = (c : Call) (label : List ℕ) → InRange c → LabelFor c label → label_of (line_of c label) ≡ label_in c label
