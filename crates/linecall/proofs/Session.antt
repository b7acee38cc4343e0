-- 01's session through the line call, bytes in and bytes out, 02's CANCEL after it, and a session with 02's FETCH and RETURN: antt computes them from the definitions.
-- Assumes nothing.
use Prim.Native.Nat.{ℕ}
use mathlib.Core.Path.{◌≡◌, refl}
use mathlib.Core.List.{List, [], ◌∷◌, ◌++◌}
use lib.ListN.{take, replicate}
use Rattle.columns.specs.Columns.{leading, columns_of, read_all, number_of}
use Rattle.columns.specs.Rows.{flat}
use Rattle.rules.specs.declared.Board.{Board}
use Rattle.laws.specs.Lists.{any, all, keep, first, padded, rising, listed, distinct, without, same, names}
use Rattle.rules.specs.Modes.{touching}
use Rattle.rules.specs.Boards.{empty_board, everyone, admitted, tallied, opening, closing, dropping}
use Rattle.rules.specs.Orders.{taken, held_back, carried_from, carried, with_given, in_use, safe, can_give}
use Rattle.rules.specs.Soundness.{sets_sound, standing_sound, may_have, item_sound, program_sound, no_conflict, line_sound, waiter_sound}
use Rattle.rules.specs.Soundness.{uses_differ, awaited_in_use, none_favoured, some_favoured, count_sound, sound}
use Rattle.rules.specs.Settling.{unfavour, resume, try_give, pass, hand_to, hand_on, candidate, favour, overdue, admit_held, run_held, choose, settle}
use Rattle.rules.specs.Replies.{reply, refuse, refuse_unsound}
use Rattle.rules.specs.Checks.{enter_check, open_check, close_check, fetch_check, return_check, leave_check, cancel_check}
use Rattle.rules.specs.Calls.{admit, hold, hold_for, enter, wait, open_file, done, close_file, drop_file, count_leave, leave, count_cancel, cancel}
use Rattle.rules.specs.Calls.{wait_item, fetch, finish, return_item, apply, direct}
use Rattle.request.specs.Requests.{begins, program_field, file_field, w_field, r_field, j_field, record_field, label_part, files_in, rises_from, adding_all}
use Rattle.request.specs.Requests.{entry_files, entry_counts, entry_line, file_line, record_line, alone_line, verb_of, request_of}
use Rattle.journal.specs.Journal.{line_bytes, written}
use Rattle.linecall.specs.LineCall.{reply_to, lines_for, posted, line_call}

-- ---- the session

-- the journal up to the place after these lines
journal_after : Board → List ℕ → ℕ → List (List ℕ) → List ℕ
unfolding leading columns_of flat read_all number_of
    begins program_field file_field w_field r_field j_field record_field label_part files_in rises_from adding_all
    entry_files entry_counts entry_line file_line record_line alone_line verb_of request_of
    line_bytes written reply_to lines_for posted line_call
    any all keep first padded rising listed distinct without same names
    everyone admitted tallied touching opening closing dropping
    taken held_back carried_from carried with_given in_use safe can_give
    sets_sound standing_sound may_have item_sound program_sound no_conflict line_sound waiter_sound uses_differ awaited_in_use none_favoured some_favoured count_sound sound
    unfavour resume try_give pass hand_to hand_on candidate favour overdue admit_held run_held choose settle
    reply refuse refuse_unsound enter_check open_check close_check fetch_check return_check leave_check cancel_check
    admit hold hold_for enter wait open_file wait_item fetch finish return_item done close_file drop_file count_leave leave count_cancel cancel apply direct
journal_after b journal place [] = take place journal
journal_after b journal place (l ∷ ls) = let o = line_call b l journal place in journal_after o.reply.board o.journal o.place ls

-- "Input, and all of the output" but for the last line, which is the program's; "with a third count of 0 and the wider journal"
input : List (List ℕ)
input =
    (69 ∷ 78 ∷ 84 ∷ 69 ∷ 82 ∷ 32 ∷ 32 ∷ 32 ∷ 49 ∷ 83 ∷ 84 ∷ 79 ∷ 67 ∷ 75 ∷ 32 ∷ 32 ∷ 32 ∷ 32 ∷ 32 ∷ 51 ∷ 32 ∷ 32 ∷ 48 ∷ 32 ∷ 32 ∷ 48 ∷ 32 ∷ 32
    ∷ 49 ∷ 32 ∷ 32 ∷ 50 ∷ 32 ∷ 32 ∷ 51 ∷ [])
    ∷ (69 ∷ 78 ∷ 84 ∷ 69 ∷ 82 ∷ 32 ∷ 32 ∷ 32 ∷ 50 ∷ 66 ∷ 73 ∷ 76 ∷ 76 ∷ 83 ∷ 32 ∷ 32 ∷ 32 ∷ 32 ∷ 32 ∷ 50 ∷ 32 ∷ 32 ∷ 48 ∷ 32 ∷ 32 ∷ 48 ∷ 32 ∷ 32
    ∷ 49 ∷ 32 ∷ 32 ∷ 50 ∷ [])
    ∷ (79 ∷ 80 ∷ 69 ∷ 78 ∷ 32 ∷ 32 ∷ 32 ∷ 32 ∷ 49 ∷ 32 ∷ 32 ∷ 49 ∷ [])
    ∷ (79 ∷ 80 ∷ 69 ∷ 78 ∷ 32 ∷ 32 ∷ 32 ∷ 32 ∷ 49 ∷ 32 ∷ 32 ∷ 51 ∷ [])
    ∷ (79 ∷ 80 ∷ 69 ∷ 78 ∷ 32 ∷ 32 ∷ 32 ∷ 32 ∷ 50 ∷ 32 ∷ 32 ∷ 50 ∷ [])
    ∷ (67 ∷ 76 ∷ 79 ∷ 83 ∷ 69 ∷ 32 ∷ 32 ∷ 32 ∷ 49 ∷ 32 ∷ 32 ∷ 51 ∷ [])
    ∷ (69 ∷ 78 ∷ 84 ∷ 69 ∷ 82 ∷ 32 ∷ 32 ∷ 32 ∷ 51 ∷ 76 ∷ 73 ∷ 83 ∷ 84 ∷ 83 ∷ 32 ∷ 32 ∷ 32 ∷ 32 ∷ 32 ∷ 48 ∷ 32 ∷ 32 ∷ 49 ∷ 32 ∷ 32 ∷ 48 ∷ 32 ∷ 32
    ∷ 50 ∷ [])
    ∷ (76 ∷ 69 ∷ 65 ∷ 86 ∷ 69 ∷ 32 ∷ 32 ∷ 32 ∷ 49 ∷ [])
    ∷ []

output : List (List ℕ)
output =
    (65 ∷ 68 ∷ 77 ∷ 73 ∷ 84 ∷ 32 ∷ 32 ∷ 32 ∷ 49 ∷ 32 ∷ 32 ∷ 48 ∷ 32 ∷ 32 ∷ 48 ∷ 32 ∷ 32 ∷ 32 ∷ 32 ∷ 48 ∷ 10 ∷ [])
    ∷ (65 ∷ 68 ∷ 77 ∷ 73 ∷ 84 ∷ 32 ∷ 32 ∷ 32 ∷ 50 ∷ 32 ∷ 32 ∷ 48 ∷ 32 ∷ 32 ∷ 48 ∷ 32 ∷ 32 ∷ 32 ∷ 32 ∷ 48 ∷ 10 ∷ [])
    ∷ (71 ∷ 73 ∷ 86 ∷ 69 ∷ 78 ∷ 32 ∷ 32 ∷ 32 ∷ 49 ∷ 32 ∷ 32 ∷ 49 ∷ 32 ∷ 32 ∷ 48 ∷ 32 ∷ 32 ∷ 32 ∷ 32 ∷ 48 ∷ 10 ∷ [])
    ∷ (71 ∷ 73 ∷ 86 ∷ 69 ∷ 78 ∷ 32 ∷ 32 ∷ 32 ∷ 49 ∷ 32 ∷ 32 ∷ 51 ∷ 32 ∷ 32 ∷ 48 ∷ 32 ∷ 32 ∷ 32 ∷ 32 ∷ 48 ∷ 10 ∷ [])
    ∷ (85 ∷ 78 ∷ 83 ∷ 65 ∷ 70 ∷ 69 ∷ 32 ∷ 32 ∷ 50 ∷ 32 ∷ 32 ∷ 50 ∷ 32 ∷ 32 ∷ 48 ∷ 32 ∷ 32 ∷ 32 ∷ 32 ∷ 48 ∷ 10 ∷ [])
    ∷ (68 ∷ 79 ∷ 78 ∷ 69 ∷ 32 ∷ 32 ∷ 32 ∷ 32 ∷ 49 ∷ 32 ∷ 32 ∷ 51 ∷ 32 ∷ 32 ∷ 48 ∷ 32 ∷ 32 ∷ 32 ∷ 32 ∷ 48 ∷ 10 ∷ [])
    ∷ (70 ∷ 65 ∷ 86 ∷ 79 ∷ 85 ∷ 82 ∷ 32 ∷ 32 ∷ 50 ∷ 32 ∷ 32 ∷ 50 ∷ 32 ∷ 32 ∷ 48 ∷ 32 ∷ 32 ∷ 32 ∷ 32 ∷ 48 ∷ 10 ∷ [])
    ∷ (72 ∷ 69 ∷ 76 ∷ 68 ∷ 32 ∷ 32 ∷ 32 ∷ 32 ∷ 51 ∷ 32 ∷ 32 ∷ 48 ∷ 32 ∷ 32 ∷ 48 ∷ 32 ∷ 32 ∷ 32 ∷ 32 ∷ 48 ∷ 10 ∷ [])
    ∷ (68 ∷ 79 ∷ 78 ∷ 69 ∷ 32 ∷ 32 ∷ 32 ∷ 32 ∷ 49 ∷ 32 ∷ 32 ∷ 48 ∷ 32 ∷ 32 ∷ 48 ∷ 32 ∷ 32 ∷ 32 ∷ 32 ∷ 48 ∷ 10 ∷ [])
    ∷ (71 ∷ 73 ∷ 86 ∷ 69 ∷ 78 ∷ 32 ∷ 32 ∷ 32 ∷ 50 ∷ 32 ∷ 32 ∷ 50 ∷ 32 ∷ 32 ∷ 48 ∷ 32 ∷ 32 ∷ 32 ∷ 32 ∷ 48 ∷ 10 ∷ [])
    ∷ (65 ∷ 68 ∷ 77 ∷ 73 ∷ 84 ∷ 32 ∷ 32 ∷ 32 ∷ 51 ∷ 32 ∷ 32 ∷ 48 ∷ 32 ∷ 32 ∷ 48 ∷ 32 ∷ 32 ∷ 32 ∷ 32 ∷ 48 ∷ 10 ∷ [])
    ∷ []

-- the journal of these lines, from the empty board
journal_of : List (List ℕ) → List ℕ
unfolding journal_after
journal_of ls = journal_after empty_board (replicate 1500 0) 0 ls

session : journal_of input ≡ flat (λ (l : List ℕ). l) output
unfolding journal_of input output flat
session = refl

-- ---- CANCEL

-- the session, in place of its last line `CANCEL  1`, `CANCEL  2`, `CANCEL`
cancelling : List (List ℕ)
unfolding input
cancelling =
    take 7 input
    ++ ((67 ∷ 65 ∷ 78 ∷ 67 ∷ 69 ∷ 76 ∷ 32 ∷ 32 ∷ 49 ∷ [])
    ∷ (67 ∷ 65 ∷ 78 ∷ 67 ∷ 69 ∷ 76 ∷ 32 ∷ 32 ∷ 50 ∷ [])
    ∷ (67 ∷ 65 ∷ 78 ∷ 67 ∷ 69 ∷ 76 ∷ [])
    ∷ [])

-- `REFUSE  1  0 18    0`, `DONE    2  0  0    0`, `ADMIT   3  0  0    0`, `REFUSE  0  0  4    0`
cancelled : List (List ℕ)
unfolding output
cancelled =
    take 8 output
    ++ ((82 ∷ 69 ∷ 70 ∷ 85 ∷ 83 ∷ 69 ∷ 32 ∷ 32 ∷ 49 ∷ 32 ∷ 32 ∷ 48 ∷ 32 ∷ 49 ∷ 56 ∷ 32 ∷ 32 ∷ 32 ∷ 32 ∷ 48 ∷ 10 ∷ [])
    ∷ (68 ∷ 79 ∷ 78 ∷ 69 ∷ 32 ∷ 32 ∷ 32 ∷ 32 ∷ 50 ∷ 32 ∷ 32 ∷ 48 ∷ 32 ∷ 32 ∷ 48 ∷ 32 ∷ 32 ∷ 32 ∷ 32 ∷ 48 ∷ 10 ∷ [])
    ∷ (65 ∷ 68 ∷ 77 ∷ 73 ∷ 84 ∷ 32 ∷ 32 ∷ 32 ∷ 51 ∷ 32 ∷ 32 ∷ 48 ∷ 32 ∷ 32 ∷ 48 ∷ 32 ∷ 32 ∷ 32 ∷ 32 ∷ 48 ∷ 10 ∷ [])
    ∷ (82 ∷ 69 ∷ 70 ∷ 85 ∷ 83 ∷ 69 ∷ 32 ∷ 32 ∷ 48 ∷ 32 ∷ 32 ∷ 48 ∷ 32 ∷ 32 ∷ 52 ∷ 32 ∷ 32 ∷ 32 ∷ 32 ∷ 48 ∷ 10 ∷ [])
    ∷ [])

cancels : journal_of cancelling ≡ flat (λ (l : List ℕ). l) cancelled
unfolding journal_of cancelling cancelled flat
cancels = refl

-- ---- records

-- FETCH, WAIT for a record in use, RETURN: "the oldest waiter for the record gets it (GIVEN), then the board settles"
fetching : List (List ℕ)
fetching =
    (69 ∷ 78 ∷ 84 ∷ 69 ∷ 82 ∷ 32 ∷ 32 ∷ 32 ∷ 49 ∷ 76 ∷ 73 ∷ 83 ∷ 84 ∷ 83 ∷ 32 ∷ 32 ∷ 32 ∷ 32 ∷ 32 ∷ 50 ∷ 32 ∷ 32 ∷ 48 ∷ 32 ∷ 32 ∷ 48 ∷ 32 ∷ 32
    ∷ 49 ∷ 32 ∷ 32 ∷ 50 ∷ [])
    ∷ (69 ∷ 78 ∷ 84 ∷ 69 ∷ 82 ∷ 32 ∷ 32 ∷ 32 ∷ 50 ∷ 83 ∷ 84 ∷ 79 ∷ 67 ∷ 75 ∷ 32 ∷ 32 ∷ 32 ∷ 32 ∷ 32 ∷ 50 ∷ 32 ∷ 32 ∷ 48 ∷ 32 ∷ 32 ∷ 48 ∷ 32 ∷ 32
    ∷ 49 ∷ 32 ∷ 32 ∷ 50 ∷ [])
    ∷ (69 ∷ 78 ∷ 84 ∷ 69 ∷ 82 ∷ 32 ∷ 32 ∷ 32 ∷ 51 ∷ 66 ∷ 73 ∷ 76 ∷ 76 ∷ 83 ∷ 32 ∷ 32 ∷ 32 ∷ 32 ∷ 32 ∷ 48 ∷ 32 ∷ 32 ∷ 48 ∷ 32 ∷ 32 ∷ 49 ∷ 32 ∷ 32
    ∷ 51 ∷ [])
    ∷ (69 ∷ 78 ∷ 84 ∷ 69 ∷ 82 ∷ 32 ∷ 32 ∷ 32 ∷ 52 ∷ 83 ∷ 84 ∷ 79 ∷ 67 ∷ 75 ∷ 32 ∷ 32 ∷ 32 ∷ 32 ∷ 32 ∷ 48 ∷ 32 ∷ 32 ∷ 48 ∷ 32 ∷ 32 ∷ 49 ∷ 32 ∷ 32
    ∷ 51 ∷ [])
    ∷ (79 ∷ 80 ∷ 69 ∷ 78 ∷ 32 ∷ 32 ∷ 32 ∷ 32 ∷ 51 ∷ 32 ∷ 32 ∷ 51 ∷ [])
    ∷ (79 ∷ 80 ∷ 69 ∷ 78 ∷ 32 ∷ 32 ∷ 32 ∷ 32 ∷ 52 ∷ 32 ∷ 32 ∷ 51 ∷ [])
    ∷ (70 ∷ 69 ∷ 84 ∷ 67 ∷ 72 ∷ 32 ∷ 32 ∷ 32 ∷ 51 ∷ 32 ∷ 32 ∷ 51 ∷ 32 ∷ 32 ∷ 32 ∷ 32 ∷ 49 ∷ [])
    ∷ (70 ∷ 69 ∷ 84 ∷ 67 ∷ 72 ∷ 32 ∷ 32 ∷ 32 ∷ 52 ∷ 32 ∷ 32 ∷ 51 ∷ 32 ∷ 32 ∷ 32 ∷ 32 ∷ 49 ∷ [])
    ∷ (79 ∷ 80 ∷ 69 ∷ 78 ∷ 32 ∷ 32 ∷ 32 ∷ 32 ∷ 49 ∷ 32 ∷ 32 ∷ 49 ∷ [])
    ∷ (79 ∷ 80 ∷ 69 ∷ 78 ∷ 32 ∷ 32 ∷ 32 ∷ 32 ∷ 50 ∷ 32 ∷ 32 ∷ 50 ∷ [])
    ∷ (69 ∷ 78 ∷ 84 ∷ 69 ∷ 82 ∷ 32 ∷ 32 ∷ 32 ∷ 53 ∷ 59 ∷ 36 ∷ 43 ∷ 87 ∷ 85 ∷ 40 ∷ 62 ∷ 43 ∷ 32 ∷ 32 ∷ 49 ∷ 32 ∷ 32 ∷ 48 ∷ 32 ∷ 32 ∷ 48 ∷ 32 ∷ 32
    ∷ 53 ∷ [])
    ∷ (82 ∷ 69 ∷ 84 ∷ 85 ∷ 82 ∷ 78 ∷ 32 ∷ 32 ∷ 51 ∷ [])
    ∷ (69 ∷ 78 ∷ 84 ∷ 69 ∷ 82 ∷ 32 ∷ 32 ∷ 32 ∷ 54 ∷ 39 ∷ 104 ∷ 47 ∷ 60 ∷ 112 ∷ 112 ∷ 106 ∷ 39 ∷ 32 ∷ 32 ∷ 49 ∷ 32 ∷ 32 ∷ 48 ∷ 32 ∷ 32 ∷ 48 ∷ 32
    ∷ 32 ∷ 54 ∷ [])
    ∷ (69 ∷ 78 ∷ 84 ∷ 69 ∷ 82 ∷ 32 ∷ 32 ∷ 32 ∷ 55 ∷ 82 ∷ 38 ∷ 60 ∷ 37 ∷ 103 ∷ 49 ∷ 69 ∷ 85 ∷ 32 ∷ 32 ∷ 49 ∷ 32 ∷ 32 ∷ 48 ∷ 32 ∷ 32 ∷ 48 ∷ 32 ∷ 32
    ∷ 55 ∷ [])
    ∷ (82 ∷ 69 ∷ 84 ∷ 85 ∷ 82 ∷ 78 ∷ 32 ∷ 32 ∷ 52 ∷ [])
    ∷ (76 ∷ 69 ∷ 65 ∷ 86 ∷ 69 ∷ 32 ∷ 32 ∷ 32 ∷ 52 ∷ [])
    ∷ (76 ∷ 69 ∷ 65 ∷ 86 ∷ 69 ∷ 32 ∷ 32 ∷ 32 ∷ 51 ∷ [])
    ∷ (76 ∷ 69 ∷ 65 ∷ 86 ∷ 69 ∷ 32 ∷ 32 ∷ 32 ∷ 49 ∷ [])
    ∷ (76 ∷ 69 ∷ 65 ∷ 86 ∷ 69 ∷ 32 ∷ 32 ∷ 32 ∷ 53 ∷ [])
    ∷ (76 ∷ 69 ∷ 65 ∷ 86 ∷ 69 ∷ 32 ∷ 32 ∷ 32 ∷ 54 ∷ [])
    ∷ (76 ∷ 69 ∷ 65 ∷ 86 ∷ 69 ∷ 32 ∷ 32 ∷ 32 ∷ 55 ∷ [])
    ∷ (76 ∷ 69 ∷ 65 ∷ 86 ∷ 69 ∷ 32 ∷ 32 ∷ 32 ∷ 50 ∷ [])
    ∷ []

fetched : List (List ℕ)
fetched =
    (65 ∷ 68 ∷ 77 ∷ 73 ∷ 84 ∷ 32 ∷ 32 ∷ 32 ∷ 49 ∷ 32 ∷ 32 ∷ 48 ∷ 32 ∷ 32 ∷ 48 ∷ 32 ∷ 32 ∷ 32 ∷ 32 ∷ 48 ∷ 10 ∷ [])
    ∷ (65 ∷ 68 ∷ 77 ∷ 73 ∷ 84 ∷ 32 ∷ 32 ∷ 32 ∷ 50 ∷ 32 ∷ 32 ∷ 48 ∷ 32 ∷ 32 ∷ 48 ∷ 32 ∷ 32 ∷ 32 ∷ 32 ∷ 48 ∷ 10 ∷ [])
    ∷ (65 ∷ 68 ∷ 77 ∷ 73 ∷ 84 ∷ 32 ∷ 32 ∷ 32 ∷ 51 ∷ 32 ∷ 32 ∷ 48 ∷ 32 ∷ 32 ∷ 48 ∷ 32 ∷ 32 ∷ 32 ∷ 32 ∷ 48 ∷ 10 ∷ [])
    ∷ (65 ∷ 68 ∷ 77 ∷ 73 ∷ 84 ∷ 32 ∷ 32 ∷ 32 ∷ 52 ∷ 32 ∷ 32 ∷ 48 ∷ 32 ∷ 32 ∷ 48 ∷ 32 ∷ 32 ∷ 32 ∷ 32 ∷ 48 ∷ 10 ∷ [])
    ∷ (71 ∷ 73 ∷ 86 ∷ 69 ∷ 78 ∷ 32 ∷ 32 ∷ 32 ∷ 51 ∷ 32 ∷ 32 ∷ 51 ∷ 32 ∷ 32 ∷ 48 ∷ 32 ∷ 32 ∷ 32 ∷ 32 ∷ 48 ∷ 10 ∷ [])
    ∷ (71 ∷ 73 ∷ 86 ∷ 69 ∷ 78 ∷ 32 ∷ 32 ∷ 32 ∷ 52 ∷ 32 ∷ 32 ∷ 51 ∷ 32 ∷ 32 ∷ 48 ∷ 32 ∷ 32 ∷ 32 ∷ 32 ∷ 48 ∷ 10 ∷ [])
    ∷ (71 ∷ 73 ∷ 86 ∷ 69 ∷ 78 ∷ 32 ∷ 32 ∷ 32 ∷ 51 ∷ 32 ∷ 32 ∷ 51 ∷ 32 ∷ 32 ∷ 48 ∷ 32 ∷ 32 ∷ 32 ∷ 32 ∷ 49 ∷ 10 ∷ [])
    ∷ (87 ∷ 65 ∷ 73 ∷ 84 ∷ 32 ∷ 32 ∷ 32 ∷ 32 ∷ 52 ∷ 32 ∷ 32 ∷ 51 ∷ 32 ∷ 32 ∷ 48 ∷ 32 ∷ 32 ∷ 32 ∷ 32 ∷ 49 ∷ 10 ∷ [])
    ∷ (71 ∷ 73 ∷ 86 ∷ 69 ∷ 78 ∷ 32 ∷ 32 ∷ 32 ∷ 49 ∷ 32 ∷ 32 ∷ 49 ∷ 32 ∷ 32 ∷ 48 ∷ 32 ∷ 32 ∷ 32 ∷ 32 ∷ 48 ∷ 10 ∷ [])
    ∷ (85 ∷ 78 ∷ 83 ∷ 65 ∷ 70 ∷ 69 ∷ 32 ∷ 32 ∷ 50 ∷ 32 ∷ 32 ∷ 50 ∷ 32 ∷ 32 ∷ 48 ∷ 32 ∷ 32 ∷ 32 ∷ 32 ∷ 48 ∷ 10 ∷ [])
    ∷ (65 ∷ 68 ∷ 77 ∷ 73 ∷ 84 ∷ 32 ∷ 32 ∷ 32 ∷ 53 ∷ 32 ∷ 32 ∷ 48 ∷ 32 ∷ 32 ∷ 48 ∷ 32 ∷ 32 ∷ 32 ∷ 32 ∷ 48 ∷ 10 ∷ [])
    ∷ (68 ∷ 79 ∷ 78 ∷ 69 ∷ 32 ∷ 32 ∷ 32 ∷ 32 ∷ 51 ∷ 32 ∷ 32 ∷ 48 ∷ 32 ∷ 32 ∷ 48 ∷ 32 ∷ 32 ∷ 32 ∷ 32 ∷ 48 ∷ 10 ∷ [])
    ∷ (71 ∷ 73 ∷ 86 ∷ 69 ∷ 78 ∷ 32 ∷ 32 ∷ 32 ∷ 52 ∷ 32 ∷ 32 ∷ 51 ∷ 32 ∷ 32 ∷ 48 ∷ 32 ∷ 32 ∷ 32 ∷ 32 ∷ 49 ∷ 10 ∷ [])
    ∷ (70 ∷ 65 ∷ 86 ∷ 79 ∷ 85 ∷ 82 ∷ 32 ∷ 32 ∷ 50 ∷ 32 ∷ 32 ∷ 50 ∷ 32 ∷ 32 ∷ 48 ∷ 32 ∷ 32 ∷ 32 ∷ 32 ∷ 48 ∷ 10 ∷ [])
    ∷ (72 ∷ 69 ∷ 76 ∷ 68 ∷ 32 ∷ 32 ∷ 32 ∷ 32 ∷ 54 ∷ 32 ∷ 32 ∷ 48 ∷ 32 ∷ 32 ∷ 48 ∷ 32 ∷ 32 ∷ 32 ∷ 32 ∷ 48 ∷ 10 ∷ [])
    ∷ (72 ∷ 69 ∷ 76 ∷ 68 ∷ 32 ∷ 32 ∷ 32 ∷ 32 ∷ 55 ∷ 32 ∷ 32 ∷ 48 ∷ 32 ∷ 32 ∷ 48 ∷ 32 ∷ 32 ∷ 32 ∷ 32 ∷ 48 ∷ 10 ∷ [])
    ∷ (68 ∷ 79 ∷ 78 ∷ 69 ∷ 32 ∷ 32 ∷ 32 ∷ 32 ∷ 52 ∷ 32 ∷ 32 ∷ 48 ∷ 32 ∷ 32 ∷ 48 ∷ 32 ∷ 32 ∷ 32 ∷ 32 ∷ 48 ∷ 10 ∷ [])
    ∷ (68 ∷ 79 ∷ 78 ∷ 69 ∷ 32 ∷ 32 ∷ 32 ∷ 32 ∷ 52 ∷ 32 ∷ 32 ∷ 48 ∷ 32 ∷ 32 ∷ 48 ∷ 32 ∷ 32 ∷ 32 ∷ 32 ∷ 48 ∷ 10 ∷ [])
    ∷ (68 ∷ 79 ∷ 78 ∷ 69 ∷ 32 ∷ 32 ∷ 32 ∷ 32 ∷ 51 ∷ 32 ∷ 32 ∷ 48 ∷ 32 ∷ 32 ∷ 48 ∷ 32 ∷ 32 ∷ 32 ∷ 32 ∷ 48 ∷ 10 ∷ [])
    ∷ (68 ∷ 79 ∷ 78 ∷ 69 ∷ 32 ∷ 32 ∷ 32 ∷ 32 ∷ 49 ∷ 32 ∷ 32 ∷ 48 ∷ 32 ∷ 32 ∷ 48 ∷ 32 ∷ 32 ∷ 32 ∷ 32 ∷ 48 ∷ 10 ∷ [])
    ∷ (71 ∷ 73 ∷ 86 ∷ 69 ∷ 78 ∷ 32 ∷ 32 ∷ 32 ∷ 50 ∷ 32 ∷ 32 ∷ 50 ∷ 32 ∷ 32 ∷ 48 ∷ 32 ∷ 32 ∷ 32 ∷ 32 ∷ 48 ∷ 10 ∷ [])
    ∷ (65 ∷ 68 ∷ 77 ∷ 73 ∷ 84 ∷ 32 ∷ 32 ∷ 32 ∷ 54 ∷ 32 ∷ 32 ∷ 48 ∷ 32 ∷ 32 ∷ 48 ∷ 32 ∷ 32 ∷ 32 ∷ 32 ∷ 48 ∷ 10 ∷ [])
    ∷ (65 ∷ 68 ∷ 77 ∷ 73 ∷ 84 ∷ 32 ∷ 32 ∷ 32 ∷ 55 ∷ 32 ∷ 32 ∷ 48 ∷ 32 ∷ 32 ∷ 48 ∷ 32 ∷ 32 ∷ 32 ∷ 32 ∷ 48 ∷ 10 ∷ [])
    ∷ (68 ∷ 79 ∷ 78 ∷ 69 ∷ 32 ∷ 32 ∷ 32 ∷ 32 ∷ 53 ∷ 32 ∷ 32 ∷ 48 ∷ 32 ∷ 32 ∷ 48 ∷ 32 ∷ 32 ∷ 32 ∷ 32 ∷ 48 ∷ 10 ∷ [])
    ∷ (68 ∷ 79 ∷ 78 ∷ 69 ∷ 32 ∷ 32 ∷ 32 ∷ 32 ∷ 54 ∷ 32 ∷ 32 ∷ 48 ∷ 32 ∷ 32 ∷ 48 ∷ 32 ∷ 32 ∷ 32 ∷ 32 ∷ 48 ∷ 10 ∷ [])
    ∷ (68 ∷ 79 ∷ 78 ∷ 69 ∷ 32 ∷ 32 ∷ 32 ∷ 32 ∷ 55 ∷ 32 ∷ 32 ∷ 48 ∷ 32 ∷ 32 ∷ 48 ∷ 32 ∷ 32 ∷ 32 ∷ 32 ∷ 48 ∷ 10 ∷ [])
    ∷ (68 ∷ 79 ∷ 78 ∷ 69 ∷ 32 ∷ 32 ∷ 32 ∷ 32 ∷ 50 ∷ 32 ∷ 32 ∷ 48 ∷ 32 ∷ 32 ∷ 48 ∷ 32 ∷ 32 ∷ 32 ∷ 32 ∷ 48 ∷ 10 ∷ [])
    ∷ []

fetches : journal_of fetching ≡ flat (λ (l : List ℕ). l) fetched
unfolding journal_of fetching fetched flat
fetches = refl
