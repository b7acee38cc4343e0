-- Request lines: what a line says, and the line that says a call.
-- Assumes nothing.
use Rattle.std.specs.Prelude.{ℕ, zero, suc, ◌+◌, Bool, true, false, cond, ◌&&◌, Some, None, Result, Ok, Err, List, [], ◌∷◌, ◌++◌, eqb, leb, ltb, length, take, drop}
use Rattle.std.specs.Prelude as prelude
use Rattle.std.proofs.Math.Option.{Option, none, some}
use Rattle.columns.specs.Columns.{word_width, program_width, file_width, record_width, columns_of, number_of, on_number}
use Rattle.columns.specs.Rows.{flat}
use Rattle.files.specs.declared.FileSet.{FileSet}
use Rattle.files.specs.Sets.{no_files, member, adding}
use Rattle.rules.specs.declared.Claims.{Claims}
use Rattle.rules.specs.declared.Asked.{Asked}
use Rattle.rules.specs.declared.Refusal.{Refusal}
use Rattle.laws.specs.Lists.{all, keep, first, with_found, rising, same}
use Rattle.rules.specs.Calls.{Call, Enter, Open, Close, Drop, Leave, Cancel, Fetch, Return, claiming, no_claims, call_of}
use Rattle.rules.specs.declared.Verb.{Verb}
use Rattle.request.specs.declared.Shape.{Shape}
use Rattle.request.specs.Verbs.{verbs, verb_columns, shape_of, program_at, alone_length, file_at, file_length, label_width, label_at, w_at, r_at}
use Rattle.request.specs.Verbs.{record_at, record_length, j_at, files_at, entry_length}

-- ---- what reading a line gives

-- the call with this verb, program, file, record and claims
abbrev pub asking : Verb → ℕ → ℕ → ℕ → Claims → Asked
asking v p f n c = record { verb = v; program = p; file = f; item = n; claims = c }

-- what a line says: the call that it asks for, or its refusal
abbrev pub Request : Type 0
Request = Result Asked Refusal

-- a refused line
abbrev pub refused : Refusal → Request
refused r = Err r

-- a line that is taken: its verb, program, file, record and claims
abbrev pub taken : Verb → ℕ → ℕ → ℕ → Claims → Request
taken v p f n c = Ok (asking v p f n c)

-- the verb, the numbers and the claims of a line; a refused line has no numbers and no claims
abbrev pub asked_in : Request → Asked
asked_in (Ok a) = a
asked_in (Err r) = asking Verb.Enter 0 0 0 no_claims

-- the direct call that a line asks for
abbrev pub request_call : Request → Call
request_call q = call_of (asked_in q)

-- ---- columns

-- columns 1 to 6 are those of the verb; never so in a line that has fewer
unfoldable pub begins : Verb → List ℕ → Bool
begins v l = same (take word_width l) (verb_columns v)

-- "Programs are 1 to 32, files 1 to 64"; counts are "each 0 to 64"
abbrev pub program_in : List ℕ → prelude.Option ℕ
program_in part = number_of program_width 1 32 part

abbrev pub file_in : List ℕ → prelude.Option ℕ
file_in part = number_of file_width 1 64 part

abbrev pub count_in : List ℕ → prelude.Option ℕ
count_in part = number_of file_width 0 64 part

-- "one record, 1 to 65,535"
abbrev pub record_in : List ℕ → prelude.Option ℕ
record_in part = number_of record_width 1 65535 part

-- "Each field is read from a part of the line that begins at its column."
unfoldable pub program_field : List ℕ → prelude.Option ℕ
program_field l = program_in (take program_width (drop program_at l))

unfoldable pub file_field : List ℕ → prelude.Option ℕ
file_field l = file_in (take file_width (drop file_at l))

unfoldable pub w_field : List ℕ → prelude.Option ℕ
w_field l = count_in (take file_width (drop w_at l))

unfoldable pub r_field : List ℕ → prelude.Option ℕ
r_field l = count_in (take file_width (drop r_at l))

unfoldable pub j_field : List ℕ → prelude.Option ℕ
j_field l = count_in (take file_width (drop j_at l))

unfoldable pub record_field : List ℕ → prelude.Option ℕ
record_field l = record_in (take record_width (drop record_at l))

-- a label byte is from 32 to 126
abbrev pub label_byte : ℕ → Bool
label_byte b = leb 32 b && leb b 126

-- columns 10 to 17
unfoldable pub label_part : List ℕ → List ℕ
label_part l = take label_width (drop label_at l)

-- ---- the files of a group

-- the numbers of n files, one after another; none if one of them isn't a file's number
unfoldable pub files_in : ℕ → List ℕ → Option (List ℕ)
files_in zero l = some []
files_in (suc n) l = on_number (file_in (take file_width l)) none (λ f. with_found (files_in n (drop file_width l)) none (λ fs. some (f ∷ fs)))

-- the numbers rise strictly, from above n
unfoldable pub rises_from : ℕ → List ℕ → Bool
rises_from n [] = true
rises_from n (f ∷ fs) = ltb n f && rises_from f fs

-- the files rise strictly; all are above 0
abbrev pub rises : List ℕ → Bool
rises fs = rises_from 0 fs

-- s and these files
unfoldable pub adding_all : FileSet → List ℕ → FileSet
adding_all s [] = s
adding_all s (f ∷ fs) = adding_all (adding s f) fs

-- the set of these files
abbrev pub set_of : List ℕ → FileSet
set_of fs = adding_all no_files fs

-- ---- reading, by the shape of the verb

-- ENTER, after columns 7–26 and the length: "then w files of V and r of Q", "and the J files last"
unfoldable pub entry_files : Verb → List ℕ → ℕ → ℕ → ℕ → ℕ → Request
entry_files v l p w r j =
    with_found (files_in w (drop files_at l)) (refused Refusal.BadNumber) (λ vs.
    with_found (files_in r (drop (entry_length w) l)) (refused Refusal.BadNumber) (λ qs.
    with_found (files_in j (drop (entry_length (w + r)) l)) (refused Refusal.BadNumber) (λ js.
    cond (rises vs && rises qs && rises js) (taken v p 0 0 (claiming (set_of vs) (set_of qs) (set_of js))) (refused Refusal.NotRising))))

-- ENTER, after the label: the counts w, r and j, then the length
unfoldable pub entry_counts : Verb → List ℕ → ℕ → Request
entry_counts v l p =
    on_number (w_field l) (refused Refusal.BadNumber) (λ w.
    on_number (r_field l) (refused Refusal.BadNumber) (λ r.
    on_number (j_field l) (refused Refusal.BadNumber) (λ j.
    cond (eqb (length l) (entry_length (w + r + j))) (entry_files v l p w r j) (refused Refusal.BadLength))))

-- ENTER "is read left to right: program, label, w, r", the third count, "then the length, then the files"; under 26 is of another length
unfoldable pub entry_line : Verb → List ℕ → Request
entry_line v l =
    cond (ltb (length l) files_at) (refused Refusal.BadLength)
    (on_number (program_field l) (refused Refusal.BadNumber) (λ p.
    cond (all label_byte (label_part l)) (entry_counts v l p) (refused Refusal.BadLabel)))

-- OPEN, CLOSE, DROP: program and file
unfoldable pub file_line : Verb → List ℕ → Request
file_line v l =
    cond (eqb (length l) file_length)
    (on_number (program_field l) (refused Refusal.BadNumber) (λ p.
    on_number (file_field l) (refused Refusal.BadNumber) (λ f.
    taken v p f 0 no_claims)))
    (refused Refusal.BadLength)

-- FETCH: program, file and record
unfoldable pub record_line : Verb → List ℕ → Request
record_line v l =
    cond (eqb (length l) record_length)
    (on_number (program_field l) (refused Refusal.BadNumber) (λ p.
    on_number (file_field l) (refused Refusal.BadNumber) (λ f.
    on_number (record_field l) (refused Refusal.BadNumber) (λ n.
    taken v p f n no_claims))))
    (refused Refusal.BadLength)

-- LEAVE, CANCEL, RETURN: the program alone
unfoldable pub alone_line : Verb → List ℕ → Request
alone_line v l =
    cond (eqb (length l) alone_length)
    (on_number (program_field l) (refused Refusal.BadNumber) (λ p. taken v p 0 0 no_claims))
    (refused Refusal.BadLength)

-- what a line of this shape says
abbrev pub read_as : Shape → Verb → List ℕ → Request
read_as Shape.Entry v l = entry_line v l
read_as Shape.File v l = file_line v l
read_as Shape.Record v l = record_line v l
read_as Shape.Alone v l = alone_line v l

-- the verb that a line begins with
unfoldable pub verb_of : List ℕ → Option Verb
verb_of l = first (λ v. begins v l) verbs

-- the verb that a line begins with, as the code gives it
abbrev pub begun : {A : Type 0} → Option A → prelude.Option A
begun none = None
begun (some v) = Some v

-- what a line says, or the first of refusals 3 to 7 that applies
unfoldable pub request_of : List ℕ → Request
request_of l = with_found (verb_of l) (refused Refusal.NoVerb) (λ v. read_as (shape_of v) v l)

-- a line of this shape has a label
abbrev pub has_label : Shape → Bool
has_label Shape.Entry = true
has_label Shape.File = false
has_label Shape.Record = false
has_label Shape.Alone = false

-- the line is taken, and has a label
abbrev pub is_entry : Request → Bool
is_entry (Ok a) = has_label (shape_of a.verb)
is_entry (Err r) = false

-- "the label as a part of the caller's line"; "for another verb or a refused line that part is empty"
unfoldable pub label_of : List ℕ → List ℕ
label_of l = cond (is_entry (request_of l)) (label_part l) []

-- ---- the line that says a call

-- the files of a set, rising
unfoldable pub files_of : FileSet → List ℕ
files_of s = keep (member s) (rising 64 1)

-- the columns of these files
abbrev pub files_columns : List ℕ → List ℕ
files_columns fs = flat (columns_of file_width) fs

-- how a line asks for a call: all that does not apply is 0 or empty
abbrev pub asked_by : Call → Asked
asked_by (Enter p v q j) = asking Verb.Enter p 0 0 (claiming v q j)
asked_by (Open p f) = asking Verb.Open p f 0 no_claims
asked_by (Close p f) = asking Verb.Close p f 0 no_claims
asked_by (Drop p f) = asking Verb.Drop p f 0 no_claims
asked_by (Leave p) = asking Verb.Leave p 0 0 no_claims
asked_by (Cancel p) = asking Verb.Cancel p 0 0 no_claims
asked_by (Fetch p f r) = asking Verb.Fetch p f r no_claims
asked_by (Return p) = asking Verb.Return p 0 0 no_claims

-- a line of this shape; "ENTER: 10–17 label, 18–20 count w, 21–23 count r .., then w files of V and r of Q", with "a third count in columns
-- 24–26 and the J files last"
abbrev pub line_as : Shape → Asked → List ℕ → List ℕ
line_as Shape.Entry a label =
    verb_columns a.verb
    ++ (columns_of program_width a.program
    ++ (label
    ++ (columns_of file_width (length (files_of a.claims.writable))
    ++ (columns_of file_width (length (files_of a.claims.readable))
    ++ (columns_of file_width (length (files_of a.claims.inquirable))
    ++ (files_columns (files_of a.claims.writable)
    ++ (files_columns (files_of a.claims.readable)
    ++ files_columns (files_of a.claims.inquirable))))))))
line_as Shape.File a label = verb_columns a.verb ++ (columns_of program_width a.program ++ columns_of file_width a.file)
line_as Shape.Record a label =
    verb_columns a.verb ++ (columns_of program_width a.program ++ (columns_of file_width a.file ++ columns_of record_width a.item))
line_as Shape.Alone a label = verb_columns a.verb ++ columns_of program_width a.program

-- the line that says what is asked for
unfoldable pub line_for : Asked → List ℕ → List ℕ
line_for a label = line_as (shape_of a.verb) a label

-- the line that asks for a call; the label stands in that of ENTER only
abbrev pub line_of : Call → List ℕ → List ℕ
line_of c label = line_for (asked_by c) label
