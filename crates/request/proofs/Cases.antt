-- Lines that are refused with 3 to 7, as one table, and CANCEL, FETCH and RETURN lines that are taken: antt computes each from the definitions. Assumes nothing.
use Prim.Native.Nat.{ℕ}
use mathlib.Core.Path.{◌≡◌, refl}
use mathlib.Core.List.{List, [], ◌∷◌, map}
use Rattle.columns.specs.Columns.{read_all, number_of}
use Rattle.laws.specs.Lists.{all, first, same}
use Rattle.rules.specs.Calls.{no_claims}
use Rattle.rules.specs.Replies.{number}
use Rattle.rules.specs.declared.Verb.{Verb}
use Rattle.std.specs.Prelude.{Ok, Err}
use Rattle.request.specs.Requests.{Request, taken, begins, program_field, file_field, w_field, r_field, j_field, record_field, label_part, files_in}
use Rattle.request.specs.Requests.{rises_from, adding_all, entry_files, entry_counts, entry_line, file_line, record_line, alone_line, verb_of, request_of}

-- 01's number of the refusal, 0 for a line that is taken
refusal : Request → ℕ
refusal (Ok a) = 0
refusal (Err r) = number r

refused-lines : List (List ℕ)
refused-lines =
    (69 ∷ 78 ∷ 84 ∷ 69 ∷ 82 ∷ [])
    ∷ (79 ∷ 80 ∷ 69 ∷ 78 ∷ 88 ∷ 32 ∷ 32 ∷ 32 ∷ 49 ∷ 32 ∷ 32 ∷ 49 ∷ [])
    ∷ (79 ∷ 80 ∷ 69 ∷ 78 ∷ 32 ∷ 32 ∷ 32 ∷ 32 ∷ 49 ∷ [])
    ∷ (76 ∷ 69 ∷ 65 ∷ 86 ∷ 69 ∷ 32 ∷ 32 ∷ 32 ∷ 49 ∷ 32 ∷ [])
    ∷ (76 ∷ 69 ∷ 65 ∷ 86 ∷ 69 ∷ 32 ∷ 32 ∷ 48 ∷ 49 ∷ [])
    ∷ (76 ∷ 69 ∷ 65 ∷ 86 ∷ 69 ∷ 32 ∷ 32 ∷ 51 ∷ 51 ∷ [])
    ∷ (79 ∷ 80 ∷ 69 ∷ 78 ∷ 32 ∷ 32 ∷ 32 ∷ 32 ∷ 49 ∷ 32 ∷ 32 ∷ 48 ∷ [])
    ∷ (67 ∷ 76 ∷ 79 ∷ 83 ∷ 69 ∷ 32 ∷ 32 ∷ 32 ∷ 49 ∷ 32 ∷ 54 ∷ 53 ∷ [])
    ∷ (69 ∷ 78 ∷ 84 ∷ 69 ∷ 82 ∷ 32 ∷ 32 ∷ 32 ∷ 49 ∷ 83 ∷ 84 ∷ 79 ∷ 67 ∷ 75 ∷ 32 ∷ 32 ∷ 32 ∷ 32 ∷ 32 ∷ 49 ∷ [])
    ∷ (69 ∷ 78 ∷ 84 ∷ 69 ∷ 82 ∷ 32 ∷ 32 ∷ 32 ∷ 48 ∷ 83 ∷ 84 ∷ 79 ∷ 127 ∷ 75 ∷ 32 ∷ 32 ∷ 32 ∷ 32 ∷ 32 ∷ 49 ∷ 32 ∷ 32 ∷ 48 ∷ 32 ∷ 32 ∷ 48 ∷ 32 ∷ 32 ∷ 49 ∷ [])
    ∷ (69 ∷ 78 ∷ 84 ∷ 69 ∷ 82 ∷ 32 ∷ 32 ∷ 32 ∷ 49 ∷ 83 ∷ 84 ∷ 79 ∷ 127 ∷ 75 ∷ 32 ∷ 32 ∷ 32 ∷ 32 ∷ 54 ∷ 53 ∷ 32 ∷ 32 ∷ 48 ∷ 32 ∷ 32 ∷ 48 ∷ 32 ∷ 32 ∷ 49 ∷ [])
    ∷ (69 ∷ 78 ∷ 84 ∷ 69 ∷ 82 ∷ 32 ∷ 32 ∷ 32 ∷ 49 ∷ 83 ∷ 84 ∷ 79 ∷ 67 ∷ 75 ∷ 32 ∷ 32 ∷ 32 ∷ 32 ∷ 54 ∷ 53 ∷ 32 ∷ 32 ∷ 48 ∷ 32 ∷ 32 ∷ 48 ∷ 32 ∷ 32 ∷ 49 ∷ [])
    ∷ (69 ∷ 78 ∷ 84 ∷ 69 ∷ 82 ∷ 32 ∷ 32 ∷ 32 ∷ 49 ∷ 83 ∷ 84 ∷ 79 ∷ 67 ∷ 75 ∷ 32 ∷ 32 ∷ 32 ∷ 32 ∷ 32 ∷ 49 ∷ 32 ∷ 32 ∷ 48 ∷ 32 ∷ 32 ∷ 48 ∷ [])
    ∷ (69 ∷ 78 ∷ 84 ∷ 69 ∷ 82 ∷ 32 ∷ 32 ∷ 32 ∷ 49 ∷ 83 ∷ 84 ∷ 79 ∷ 67 ∷ 75 ∷ 32 ∷ 32 ∷ 32 ∷ 32 ∷ 32 ∷ 49 ∷ 32 ∷ 32 ∷ 49
    ∷ 32 ∷ 32 ∷ 48 ∷ 32 ∷ 32 ∷ 49 ∷ 32 ∷ 32 ∷ 48 ∷ [])
    ∷ (69 ∷ 78 ∷ 84 ∷ 69 ∷ 82 ∷ 32 ∷ 32 ∷ 32 ∷ 49 ∷ 83 ∷ 84 ∷ 79 ∷ 67 ∷ 75 ∷ 32 ∷ 32 ∷ 32 ∷ 32 ∷ 32 ∷ 50 ∷ 32 ∷ 32 ∷ 49
    ∷ 32 ∷ 32 ∷ 48 ∷ 32 ∷ 32 ∷ 50 ∷ 32 ∷ 32 ∷ 50 ∷ 32 ∷ 54 ∷ 53 ∷ [])
    ∷ (69 ∷ 78 ∷ 84 ∷ 69 ∷ 82 ∷ 32 ∷ 32 ∷ 32 ∷ 49 ∷ 83 ∷ 84 ∷ 79 ∷ 67 ∷ 75 ∷ 32 ∷ 32 ∷ 32 ∷ 32 ∷ 32 ∷ 50 ∷ 32 ∷ 32 ∷ 49
    ∷ 32 ∷ 32 ∷ 48 ∷ 32 ∷ 32 ∷ 50 ∷ 32 ∷ 32 ∷ 50 ∷ 32 ∷ 54 ∷ 52 ∷ [])
    ∷ (69 ∷ 78 ∷ 84 ∷ 69 ∷ 82 ∷ 32 ∷ 32 ∷ 32 ∷ 49 ∷ 83 ∷ 84 ∷ 79 ∷ 67 ∷ 75 ∷ 32 ∷ 32 ∷ 32 ∷ 32 ∷ 32 ∷ 49 ∷ 32 ∷ 32 ∷ 50
    ∷ 32 ∷ 32 ∷ 48 ∷ 32 ∷ 32 ∷ 49 ∷ 32 ∷ 32 ∷ 51 ∷ 32 ∷ 32 ∷ 50 ∷ [])
    ∷ (67 ∷ 65 ∷ 78 ∷ 67 ∷ 69 ∷ 88 ∷ 32 ∷ 32 ∷ 55 ∷ [])
    ∷ (67 ∷ 65 ∷ 78 ∷ 67 ∷ 69 ∷ 76 ∷ [])
    ∷ (67 ∷ 65 ∷ 78 ∷ 67 ∷ 69 ∷ 76 ∷ 32 ∷ 32 ∷ 32 ∷ 55 ∷ [])
    ∷ (67 ∷ 65 ∷ 78 ∷ 67 ∷ 69 ∷ 76 ∷ 32 ∷ 32 ∷ 55 ∷ 32 ∷ 32 ∷ 49 ∷ [])
    ∷ (67 ∷ 65 ∷ 78 ∷ 67 ∷ 69 ∷ 76 ∷ 32 ∷ 32 ∷ 48 ∷ [])
    ∷ (67 ∷ 65 ∷ 78 ∷ 67 ∷ 69 ∷ 76 ∷ 32 ∷ 51 ∷ 51 ∷ [])
    ∷ (70 ∷ 69 ∷ 84 ∷ 67 ∷ 72 ∷ 32 ∷ 32 ∷ 32 ∷ 49 ∷ 32 ∷ 32 ∷ 53 ∷ 32 ∷ 32 ∷ 32 ∷ 32 ∷ 55 ∷ 32 ∷ [])
    ∷ (70 ∷ 69 ∷ 84 ∷ 67 ∷ 72 ∷ 32 ∷ 32 ∷ 32 ∷ 49 ∷ 32 ∷ 32 ∷ 53 ∷ 32 ∷ 32 ∷ 32 ∷ 55 ∷ [])
    ∷ (70 ∷ 69 ∷ 84 ∷ 67 ∷ 72 ∷ 32 ∷ 32 ∷ 32 ∷ 49 ∷ 32 ∷ 54 ∷ 53 ∷ 32 ∷ 32 ∷ 32 ∷ 32 ∷ 55 ∷ [])
    ∷ (70 ∷ 69 ∷ 84 ∷ 67 ∷ 72 ∷ 32 ∷ 32 ∷ 32 ∷ 49 ∷ 32 ∷ 32 ∷ 53 ∷ 32 ∷ 32 ∷ 32 ∷ 32 ∷ 48 ∷ [])
    ∷ (70 ∷ 69 ∷ 84 ∷ 67 ∷ 72 ∷ 32 ∷ 32 ∷ 32 ∷ 49 ∷ 32 ∷ 32 ∷ 53 ∷ 54 ∷ 53 ∷ 53 ∷ 51 ∷ 54 ∷ [])
    ∷ (70 ∷ 69 ∷ 84 ∷ 67 ∷ 72 ∷ 32 ∷ 32 ∷ 32 ∷ 49 ∷ 32 ∷ 32 ∷ 53 ∷ 48 ∷ 48 ∷ 48 ∷ 48 ∷ 55 ∷ [])
    ∷ (82 ∷ 69 ∷ 84 ∷ 85 ∷ 82 ∷ 78 ∷ [])
    ∷ (82 ∷ 69 ∷ 84 ∷ 85 ∷ 82 ∷ 78 ∷ 32 ∷ 32 ∷ 51 ∷ 51 ∷ [])
    ∷ (82 ∷ 69 ∷ 84 ∷ 85 ∷ 82 ∷ 78 ∷ 32 ∷ 51 ∷ 51 ∷ [])
    ∷ (69 ∷ 78 ∷ 84 ∷ 69 ∷ 82 ∷ 32 ∷ 32 ∷ 32 ∷ 49 ∷ 83 ∷ 84 ∷ 79 ∷ 67 ∷ 75 ∷ 32 ∷ 32 ∷ 32 ∷ 32 ∷ 32 ∷ 49 ∷ 32 ∷ 32 ∷ 48 ∷ 32 ∷ 54 ∷ 53 ∷ 32 ∷ 32 ∷ 49 ∷ [])
    ∷ (69 ∷ 78 ∷ 84 ∷ 69 ∷ 82 ∷ 32 ∷ 32 ∷ 32 ∷ 49 ∷ 83 ∷ 84 ∷ 79 ∷ 67 ∷ 75 ∷ 32 ∷ 32 ∷ 32 ∷ 32 ∷ 32 ∷ 48 ∷ 32 ∷ 32 ∷ 48
    ∷ 32 ∷ 32 ∷ 50 ∷ 32 ∷ 32 ∷ 50 ∷ 32 ∷ 32 ∷ 50 ∷ [])
    ∷ (69 ∷ 78 ∷ 84 ∷ 69 ∷ 82 ∷ 32 ∷ 32 ∷ 32 ∷ 49 ∷ 83 ∷ 84 ∷ 79 ∷ 67 ∷ 75 ∷ 32 ∷ 32 ∷ 32 ∷ 32 ∷ 32 ∷ 48 ∷ 32 ∷ 32 ∷ 48
    ∷ 32 ∷ 32 ∷ 50 ∷ 32 ∷ 32 ∷ 50 ∷ 32 ∷ 54 ∷ 53 ∷ [])
    ∷ (69 ∷ 78 ∷ 84 ∷ 69 ∷ 82 ∷ 32 ∷ 32 ∷ 32 ∷ 49 ∷ 83 ∷ 84 ∷ 79 ∷ 67 ∷ 75 ∷ 32 ∷ 32 ∷ 32 ∷ 32 ∷ 32 ∷ 48 ∷ 32 ∷ 32 ∷ 48 ∷ [])
    ∷ []

table : map (λ (l : List ℕ). refusal (request_of l)) refused-lines
    ≡ 3 ∷ 3 ∷ 4 ∷ 4 ∷ 5 ∷ 5 ∷ 5 ∷ 5 ∷ 4 ∷ 5 ∷ 6 ∷ 5 ∷ 4 ∷ 5 ∷ 5 ∷ 7 ∷ 7 ∷ 3 ∷ 4 ∷ 4 ∷ 4 ∷ 5 ∷ 5
    ∷ 4 ∷ 4 ∷ 5 ∷ 5 ∷ 5 ∷ 5 ∷ 4 ∷ 4 ∷ 5 ∷ 5 ∷ 7 ∷ 5 ∷ 4 ∷ []
unfolding refusal refused-lines
    read_all number_of all first same
    begins program_field file_field w_field r_field j_field record_field label_part files_in rises_from adding_all
    entry_files entry_counts entry_line file_line record_line alone_line verb_of request_of
table = refl

-- the six letters of CANCEL fill columns 1 to 6, and the program follows at once
cancel-taken : map request_of ((67 ∷ 65 ∷ 78 ∷ 67 ∷ 69 ∷ 76 ∷ 32 ∷ 32 ∷ 55 ∷ []) ∷ (67 ∷ 65 ∷ 78 ∷ 67 ∷ 69 ∷ 76 ∷ 32 ∷ 51 ∷ 50 ∷ []) ∷ [])
    ≡ taken Verb.Cancel 7 0 0 no_claims ∷ taken Verb.Cancel 32 0 0 no_claims ∷ []
unfolding read_all number_of first same
    begins program_field alone_line verb_of request_of
cancel-taken = refl

-- "FETCH lines have the file in columns 10–12 and the record in 13–17; RETURN has 9."
record_taken : map request_of ((70 ∷ 69 ∷ 84 ∷ 67 ∷ 72 ∷ 32 ∷ 32 ∷ 32 ∷ 55 ∷ 32 ∷ 32 ∷ 53 ∷ 32 ∷ 32 ∷ 32 ∷ 32 ∷ 49 ∷ []) ∷ (70 ∷ 69 ∷ 84 ∷ 67 ∷ 72 ∷ 32 ∷ 32 ∷ 51 ∷ 50 ∷ 32 ∷ 54 ∷ 52 ∷ 54 ∷ 53 ∷ 53 ∷ 51 ∷ 53 ∷ [])
    ∷ (82 ∷ 69 ∷ 84 ∷ 85 ∷ 82 ∷ 78 ∷ 32 ∷ 32 ∷ 55 ∷ []) ∷ [])
    ≡ taken Verb.Fetch 7 5 1 no_claims ∷ taken Verb.Fetch 32 64 65535 no_claims
    ∷ taken Verb.Return 7 0 0 no_claims ∷ []
unfolding read_all number_of first same
    begins program_field file_field record_field record_line alone_line verb_of request_of
record_taken = refl
