-- Lines that are written, and refusals, as one table: antt computes each row from the definitions. Assumes nothing.
use Prim.Native.Nat.{ℕ, ◌-◌, ◌^◌}
use mathlib.Core.Path.{◌≡◌, refl}
use mathlib.Core.List.{List, [], ◌∷◌, map}
use lib.ListN.{replicate}
use Rattle.columns.specs.Columns.{leading, columns_of}
use Rattle.columns.specs.Rows.{flat}
use Rattle.files.specs.declared.FileSet.{FileSet}
use Rattle.files.specs.Sets.{no_files}
use Rattle.laws.specs.Lists.{all, keep, rising}
use Rattle.rules.specs.Calls.{Call, Enter, Open, Close, Drop, Leave, Cancel, Fetch, Return}
use Rattle.rules.proofs.Tables.{set}
use Rattle.request.specs.Requests.{files_of, line_for}
use Rattle.writer.specs.declared.Unwritten.{Unwritten}
use Rattle.std.specs.Prelude.{Ok, Err}
use Rattle.writer.specs.Writer.{Writing, writing_of, buffer_after}

-- a call with its label and a buffer of so many bytes, 170 each: what is answered, and what the buffer then holds
record Row : Type 0 where
  call : Call
  label : List ℕ
  room : ℕ
  answer : Writing
  after : List ℕ

row : Call → List ℕ → ℕ → Writing → List ℕ → Row
row c l n a b = record { call = c; label = l; room = n; answer = a; after = b }

-- a refused call leaves the buffer as it was
refusing : Call → List ℕ → ℕ → Unwritten → Row
unfolding row
refusing c l n r = row c l n (Err r) (replicate n 170)

table : List Row
unfolding row refusing set
table =
    -- 01's session: its first line "with a third count of 0", with room for two bytes more
    row (Enter 1 (set (1 ∷ 2 ∷ 3 ∷ [])) no_files no_files) (83 ∷ 84 ∷ 79 ∷ 67 ∷ 75 ∷ 32 ∷ 32 ∷ 32 ∷ []) 37 (Ok 35)
    (69 ∷ 78 ∷ 84 ∷ 69 ∷ 82 ∷ 32 ∷ 32 ∷ 32 ∷ 49 ∷ 83 ∷ 84 ∷ 79 ∷ 67 ∷ 75 ∷ 32 ∷ 32 ∷ 32 ∷ 32 ∷ 32 ∷ 51 ∷ 32 ∷ 32 ∷ 48 ∷ 32
    ∷ 32 ∷ 48 ∷ 32 ∷ 32 ∷ 49 ∷ 32 ∷ 32 ∷ 50 ∷ 32 ∷ 32 ∷ 51 ∷ 170 ∷ 170 ∷ [])
    -- a file of Q alone
    ∷ row (Enter 3 no_files (set (2 ∷ [])) no_files) (76 ∷ 73 ∷ 83 ∷ 84 ∷ 83 ∷ 32 ∷ 32 ∷ 32 ∷ []) 29 (Ok 29)
    (69 ∷ 78 ∷ 84 ∷ 69 ∷ 82 ∷ 32 ∷ 32 ∷ 32 ∷ 51 ∷ 76 ∷ 73 ∷ 83 ∷ 84 ∷ 83 ∷ 32 ∷ 32 ∷ 32 ∷ 32 ∷ 32 ∷ 48 ∷ 32 ∷ 32 ∷ 49 ∷ 32
    ∷ 32 ∷ 48 ∷ 32 ∷ 32 ∷ 50 ∷ [])
    -- a file of J alone; "the J files last"
    ∷ row (Enter 4 no_files no_files (set (7 ∷ []))) (67 ∷ 79 ∷ 85 ∷ 78 ∷ 84 ∷ 69 ∷ 82 ∷ 32 ∷ []) 29 (Ok 29)
    (69 ∷ 78 ∷ 84 ∷ 69 ∷ 82 ∷ 32 ∷ 32 ∷ 32 ∷ 52 ∷ 67 ∷ 79 ∷ 85 ∷ 78 ∷ 84 ∷ 69 ∷ 82 ∷ 32 ∷ 32 ∷ 32 ∷ 48 ∷ 32 ∷ 32 ∷ 48 ∷ 32
    ∷ 32 ∷ 49 ∷ 32 ∷ 32 ∷ 55 ∷ [])
    ∷ row (Enter 5 (set (9 ∷ [])) (set (1 ∷ 64 ∷ [])) (set (2 ∷ 10 ∷ []))) (67 ∷ 76 ∷ 69 ∷ 82 ∷ 75 ∷ 83 ∷ 32 ∷ 32 ∷ []) 41 (Ok 41)
    (69 ∷ 78 ∷ 84 ∷ 69 ∷ 82 ∷ 32 ∷ 32 ∷ 32 ∷ 53 ∷ 67 ∷ 76 ∷ 69 ∷ 82 ∷ 75 ∷ 83 ∷ 32 ∷ 32 ∷ 32 ∷ 32 ∷ 49 ∷ 32 ∷ 32 ∷ 50 ∷ 32
    ∷ 32 ∷ 50 ∷ 32 ∷ 32 ∷ 57 ∷ 32 ∷ 32 ∷ 49 ∷ 32 ∷ 54 ∷ 52 ∷ 32 ∷ 32 ∷ 50 ∷ 32 ∷ 49 ∷ 48 ∷ [])
    -- "Claims that meet are written too."
    ∷ row (Enter 2 (set (1 ∷ [])) (set (1 ∷ 64 ∷ [])) (set (1 ∷ 64 ∷ []))) (66 ∷ 73 ∷ 76 ∷ 76 ∷ 83 ∷ 32 ∷ 32 ∷ 32 ∷ []) 41 (Ok 41)
    (69 ∷ 78 ∷ 84 ∷ 69 ∷ 82 ∷ 32 ∷ 32 ∷ 32 ∷ 50 ∷ 66 ∷ 73 ∷ 76 ∷ 76 ∷ 83 ∷ 32 ∷ 32 ∷ 32 ∷ 32 ∷ 32 ∷ 49 ∷ 32 ∷ 32 ∷ 50 ∷ 32
    ∷ 32 ∷ 50 ∷ 32 ∷ 32 ∷ 49 ∷ 32 ∷ 32 ∷ 49 ∷ 32 ∷ 54 ∷ 52 ∷ 32 ∷ 32 ∷ 49 ∷ 32 ∷ 54 ∷ 52 ∷ [])
    -- no claims
    ∷ row (Enter 32 no_files no_files no_files) (32 ∷ 32 ∷ 32 ∷ 32 ∷ 32 ∷ 32 ∷ 32 ∷ 32 ∷ []) 26 (Ok 26)
    (69 ∷ 78 ∷ 84 ∷ 69 ∷ 82 ∷ 32 ∷ 32 ∷ 51 ∷ 50 ∷ 32 ∷ 32 ∷ 32 ∷ 32 ∷ 32 ∷ 32 ∷ 32 ∷ 32 ∷ 32 ∷ 32 ∷ 48 ∷ 32 ∷ 32 ∷ 48 ∷ 32
    ∷ 32 ∷ 48 ∷ [])
    -- the other verbs; their label is not looked at
    ∷ row (Open 2 2) [] 12 (Ok 12)
    (79 ∷ 80 ∷ 69 ∷ 78 ∷ 32 ∷ 32 ∷ 32 ∷ 32 ∷ 50 ∷ 32 ∷ 32 ∷ 50 ∷ [])
    ∷ row (Close 1 3) (116 ∷ 111 ∷ 111 ∷ 32 ∷ 108 ∷ 111 ∷ 110 ∷ 103 ∷ 32 ∷ 102 ∷ 111 ∷ 114 ∷ 32 ∷ 97 ∷ 32 ∷ 108 ∷ 97 ∷ 98 ∷ 101 ∷ 108 ∷ []) 12 (Ok 12)
    (67 ∷ 76 ∷ 79 ∷ 83 ∷ 69 ∷ 32 ∷ 32 ∷ 32 ∷ 49 ∷ 32 ∷ 32 ∷ 51 ∷ [])
    ∷ row (Drop 32 64) [] 13 (Ok 12)
    (68 ∷ 82 ∷ 79 ∷ 80 ∷ 32 ∷ 32 ∷ 32 ∷ 51 ∷ 50 ∷ 32 ∷ 54 ∷ 52 ∷ 170 ∷ [])
    ∷ row (Leave 1) [] 9 (Ok 9)
    (76 ∷ 69 ∷ 65 ∷ 86 ∷ 69 ∷ 32 ∷ 32 ∷ 32 ∷ 49 ∷ [])
    ∷ row (Cancel 7) [] 9 (Ok 9)
    (67 ∷ 65 ∷ 78 ∷ 67 ∷ 69 ∷ 76 ∷ 32 ∷ 32 ∷ 55 ∷ [])
    ∷ row (Cancel 32) (127 ∷ []) 11 (Ok 9)
    (67 ∷ 65 ∷ 78 ∷ 67 ∷ 69 ∷ 76 ∷ 32 ∷ 51 ∷ 50 ∷ 170 ∷ 170 ∷ [])
    -- "FETCH lines have the file in columns 10–12 and the record in 13–17; RETURN has 9."
    ∷ row (Fetch 7 5 1) [] 17 (Ok 17)
    (70 ∷ 69 ∷ 84 ∷ 67 ∷ 72 ∷ 32 ∷ 32 ∷ 32 ∷ 55 ∷ 32 ∷ 32 ∷ 53 ∷ 32 ∷ 32 ∷ 32 ∷ 32 ∷ 49 ∷ [])
    ∷ row (Fetch 32 64 65535) (127 ∷ []) 19 (Ok 17)
    (70 ∷ 69 ∷ 84 ∷ 67 ∷ 72 ∷ 32 ∷ 32 ∷ 51 ∷ 50 ∷ 32 ∷ 54 ∷ 52 ∷ 54 ∷ 53 ∷ 53 ∷ 51 ∷ 53 ∷ 170 ∷ 170 ∷ [])
    ∷ row (Return 1) [] 9 (Ok 9)
    (82 ∷ 69 ∷ 84 ∷ 85 ∷ 82 ∷ 78 ∷ 32 ∷ 32 ∷ 49 ∷ [])
    ∷ row (Return 32) (69 ∷ 78 ∷ 84 ∷ 69 ∷ 82 ∷ 32 ∷ 32 ∷ 32 ∷ []) 10 (Ok 9)
    (82 ∷ 69 ∷ 84 ∷ 85 ∷ 82 ∷ 78 ∷ 32 ∷ 51 ∷ 50 ∷ 170 ∷ [])
    -- 8: programs 0 and 33, files 0 and 65; before 19, 6 and 17
    ∷ refusing (Leave 0) [] 9 Unwritten.OutOfRange
    ∷ refusing (Cancel 0) [] 8 Unwritten.OutOfRange
    ∷ refusing (Cancel 33) [] 9 Unwritten.OutOfRange
    ∷ refusing (Return 33) [] 9 Unwritten.OutOfRange
    ∷ refusing (Open 1 65) [] 12 Unwritten.OutOfRange
    ∷ refusing (Close 1 0) [] 0 Unwritten.OutOfRange
    ∷ refusing (Fetch 0 1 0) [] 0 Unwritten.OutOfRange
    ∷ refusing (Fetch 1 65 65536) [] 17 Unwritten.OutOfRange
    ∷ refusing (Enter 33 no_files no_files no_files) (115 ∷ 104 ∷ 111 ∷ 114 ∷ 116 ∷ []) 0 Unwritten.OutOfRange
    -- 19: records 0 and 65,536; before 17
    ∷ refusing (Fetch 1 1 0) [] 17 Unwritten.BadRecord
    ∷ refusing (Fetch 1 1 65536) [] 16 Unwritten.BadRecord
    ∷ refusing (Fetch 32 64 18446744073709551615) [] 0 Unwritten.BadRecord
    -- 6: a label of seven bytes, and one with byte 127; before 17
    ∷ refusing (Enter 1 no_files no_files no_files) (83 ∷ 84 ∷ 79 ∷ 67 ∷ 75 ∷ 32 ∷ 32 ∷ []) 26 Unwritten.BadLabel
    ∷ refusing (Enter 1 no_files no_files no_files) (83 ∷ 84 ∷ 79 ∷ 67 ∷ 75 ∷ 127 ∷ 32 ∷ 32 ∷ []) 25 Unwritten.BadLabel
    -- 17: one byte too short
    ∷ refusing (Leave 1) [] 8 Unwritten.BufferShort
    ∷ refusing (Cancel 7) [] 8 Unwritten.BufferShort
    ∷ refusing (Return 7) [] 8 Unwritten.BufferShort
    ∷ refusing (Open 1 1) [] 11 Unwritten.BufferShort
    ∷ refusing (Fetch 1 1 1) [] 16 Unwritten.BufferShort
    ∷ refusing (Enter 1 (set (1 ∷ [])) no_files no_files) (83 ∷ 84 ∷ 79 ∷ 67 ∷ 75 ∷ 32 ∷ 32 ∷ 32 ∷ []) 28 Unwritten.BufferShort
    ∷ refusing (Enter 1 no_files no_files (set (1 ∷ 2 ∷ []))) (83 ∷ 84 ∷ 79 ∷ 67 ∷ 75 ∷ 32 ∷ 32 ∷ 32 ∷ []) 31 Unwritten.BufferShort
    ∷ []

-- each row is what the writer comes to
computed : map (λ (k : Row). row k.call k.label k.room (writing_of k.call k.label (replicate k.room 170))
    (buffer_after k.call k.label (replicate k.room 170))) table ≡ table
unfolding row refusing set table all keep rising leading columns_of flat files_of line_for writing_of buffer_after
computed = refl

-- the longest line: every file in the three groups. It fits in 602 bytes, and not in 601.
all_files : FileSet
all_files = record { bits = 2 ^ 64 - 1 }

longest : map (λ (n : ℕ). writing_of (Enter 32 all_files all_files all_files) (replicate 8 32) (replicate n 170)) (602 ∷ 601 ∷ [])
    ≡ Ok 602 ∷ Err Unwritten.BufferShort ∷ []
unfolding all_files all keep rising leading columns_of flat files_of line_for writing_of
longest = refl
