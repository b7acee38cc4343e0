-- The writer as the code puts it together: the files of a set one by one, and each shape of line by itself.
-- Assumes nothing.
use Rattle.std.specs.Prelude.{ℕ, ◌+◌, Bool, cond, List, [], ◌++◌, Err, length}
use Rattle.columns.specs.Columns.{program_width, file_width, columns_of}
use Rattle.files.specs.Sets.{is_file}
use Rattle.rules.specs.declared.Verb.{Verb}
use Rattle.rules.specs.declared.Claims.{Claims}
use Rattle.rules.specs.declared.Asked.{Asked}
use Rattle.rules.specs.Checks.{is_record}
use Rattle.request.specs.declared.Shape.{Shape}
use Rattle.request.specs.Verbs.{verb_columns}
use Rattle.request.specs.Requests.{files_of, files_columns, line_as}
use Rattle.writer.specs.declared.Unwritten.{Unwritten}
use Rattle.writer.specs.Writer.{Writing, is_label, placing, filled}

-- ---- files

-- a file that is counted, or not
abbrev pub count_if : Bool → ℕ
count_if t = cond t 1 0

-- a file that is written, or not
abbrev pub columns_if : Bool → ℕ → List ℕ
columns_if t f = cond t (columns_of file_width f) []

-- ---- ENTER

-- the columns before the files
unfoldable pub entry_columns : Verb → ℕ → List ℕ → ℕ → ℕ → ℕ → List ℕ
entry_columns v p label w r j =
    verb_columns v
    ++ (columns_of program_width p ++ (label ++ (columns_of file_width w ++ (columns_of file_width r ++ columns_of file_width j))))

-- how many files stand in the line, and their columns: "then w files of V and r of Q", "and the J files last"
abbrev pub claims_count : Claims → ℕ
claims_count c = length (files_of c.writable) + length (files_of c.readable) + length (files_of c.inquirable)

abbrev pub claims_columns : Claims → List ℕ
claims_columns c = files_columns (files_of c.writable) ++ (files_columns (files_of c.readable) ++ files_columns (files_of c.inquirable))

-- of a program in range: 6, then 17
abbrev pub entry_writing : Asked → List ℕ → List ℕ → Writing
entry_writing a label buffer = cond (is_label label) (placing (line_as Shape.Entry a label) buffer) (Err Unwritten.BadLabel)

abbrev pub entry_filled : Asked → List ℕ → List ℕ → List ℕ
entry_filled a label buffer = filled (entry_writing a label buffer) (line_as Shape.Entry a label) buffer

-- ---- OPEN, CLOSE, DROP

-- of a program in range: 8 for the file, then 17
abbrev pub file_writing : Asked → List ℕ → Writing
file_writing a buffer = cond (is_file a.file) (placing (line_as Shape.File a []) buffer) (Err Unwritten.OutOfRange)

abbrev pub file_filled : Asked → List ℕ → List ℕ
file_filled a buffer = filled (file_writing a buffer) (line_as Shape.File a []) buffer

-- ---- FETCH

-- of a program in range: 8 for the file, then 19, then 17
abbrev pub record_writing : Asked → List ℕ → Writing
record_writing a buffer =
    cond (is_file a.file)
    (cond (is_record a.item) (placing (line_as Shape.Record a []) buffer) (Err Unwritten.BadRecord))
    (Err Unwritten.OutOfRange)

abbrev pub record_filled : Asked → List ℕ → List ℕ
record_filled a buffer = filled (record_writing a buffer) (line_as Shape.Record a []) buffer
