-- The verbs as one table, and where the columns of a line begin. The reader, the line that asks for a call and the writer are made from these.
-- Assumes nothing.
use Rattle.std.specs.Prelude.{ℕ, ◌+◌, ◌-◌, ◌*◌, ◌≡◌, refl, cond, Option, Some, None, List, [], ◌∷◌, length, get_or}
use Rattle.files.specs.Bits.{is_number}
use Rattle.columns.specs.Columns.{word_width, program_width, file_width, record_width}
use Rattle.rules.specs.declared.Verb.{Verb}
use Rattle.request.specs.declared.Shape.{Shape}
use Rattle.request.specs.declared.Row.{Row}

-- ---- the table

abbrev pub row : List ℕ → Shape → Row
row w s = record { word = w; shape = s }

-- "Columns 1–6: ENTER, OPEN, CLOSE, DROP or LEAVE, blanks after."; "CANCEL is a sixth verb, with a 9-byte line."; "FETCH lines have the file
-- in columns 10–12 and the record in 13–17; RETURN has 9."
abbrev pub row_of : Verb → Row
row_of Verb.Enter = row (69 ∷ 78 ∷ 84 ∷ 69 ∷ 82 ∷ 32 ∷ []) Shape.Entry
row_of Verb.Open = row (79 ∷ 80 ∷ 69 ∷ 78 ∷ 32 ∷ 32 ∷ []) Shape.File
row_of Verb.Close = row (67 ∷ 76 ∷ 79 ∷ 83 ∷ 69 ∷ 32 ∷ []) Shape.File
row_of Verb.Drop = row (68 ∷ 82 ∷ 79 ∷ 80 ∷ 32 ∷ 32 ∷ []) Shape.File
row_of Verb.Leave = row (76 ∷ 69 ∷ 65 ∷ 86 ∷ 69 ∷ 32 ∷ []) Shape.Alone
row_of Verb.Cancel = row (67 ∷ 65 ∷ 78 ∷ 67 ∷ 69 ∷ 76 ∷ []) Shape.Alone
row_of Verb.Fetch = row (70 ∷ 69 ∷ 84 ∷ 67 ∷ 72 ∷ 32 ∷ []) Shape.Record
row_of Verb.Return = row (82 ∷ 69 ∷ 84 ∷ 85 ∷ 82 ∷ 78 ∷ []) Shape.Alone

-- all verbs, in the order of the papers
abbrev pub verbs : List Verb
verbs = Verb.Enter ∷ Verb.Open ∷ Verb.Close ∷ Verb.Drop ∷ Verb.Leave ∷ Verb.Cancel ∷ Verb.Fetch ∷ Verb.Return ∷ []

-- the verb with a number: 1 ENTER, 2 OPEN, 3 CLOSE, 4 DROP, 5 LEAVE, 6 CANCEL, 7 FETCH, 8 RETURN, as they stand in the table; no other number is one
abbrev pub verb_numbered : ℕ → Option Verb
verb_numbered n = cond (is_number (length verbs) n) (Some (get_or verbs (n - 1) Verb.Enter)) None

-- the columns of a verb
abbrev pub verb_columns : Verb → List ℕ
verb_columns v = (row_of v).word

-- how a line with the verb goes on
abbrev pub shape_of : Verb → Shape
shape_of v = (row_of v).shape

-- ---- columns: how many stand before each field

-- "Columns 7–9: program."
abbrev pub program_at : ℕ
program_at = word_width

-- "OPEN, CLOSE, DROP: columns 10–12 file. ENTER: 10–17 label"; the program alone ends there
abbrev pub alone_length : ℕ
alone_length = program_at + program_width

abbrev pub file_at : ℕ
file_at = alone_length

abbrev pub file_length : ℕ
file_length = file_at + file_width

-- "the record in 13–17"
abbrev pub record_at : ℕ
record_at = file_length

abbrev pub record_length : ℕ
record_length = record_at + record_width

abbrev pub label_width : ℕ
label_width = 8

abbrev pub label_at : ℕ
label_at = alone_length

-- "18–20 count w, 21–23 count r .., then w files of V and r of Q"; "a third count in columns 24–26 and the J files last"
abbrev pub w_at : ℕ
w_at = label_at + label_width

abbrev pub r_at : ℕ
r_at = w_at + file_width

abbrev pub j_at : ℕ
j_at = r_at + file_width

abbrev pub files_at : ℕ
files_at = j_at + file_width

-- the length of an ENTER line with so many files in all
abbrev pub entry_length : ℕ → ℕ
entry_length n = files_at + file_width * n

-- the longest line in form: every file in the three groups
abbrev pub longest_line : ℕ
longest_line = entry_length (64 + 64 + 64)

-- "The longest line has 602 bytes; a longer one is cut to 603."
abbrev pub cut_line : ℕ
cut_line = longest_line + 1

-- the numbers of the papers: a line has "9 (LEAVE), 12 (OPEN, CLOSE, DROP)" bytes, FETCH 17, ENTER 26 and three for each file; 602 and 603
pub lengths_01 : (alone_length ≡ 9) × (file_length ≡ 12) × (record_length ≡ 17) × (files_at ≡ 26) × (file_width ≡ 3) × (longest_line ≡ 602)
    × (cut_line ≡ 603)
lengths_01 = (refl, refl, refl, refl, refl, refl, refl)
