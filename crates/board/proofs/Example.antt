-- A small input, whose last line lacks byte 10, and all of its output: antt computes it from the definitions. Assumes nothing.
use Prim.Native.Nat.{ℕ}
use mathlib.Core.Path.{◌≡◌, refl}
use mathlib.Core.List.{List, [], ◌∷◌}
use Rattle.columns.specs.Columns.{leading, columns_of, read_all, number_of}
use Rattle.columns.specs.Rows.{flat}
use Rattle.laws.specs.Lists.{any, all, keep, first, padded, rising, listed, distinct, without, same, names}
use Rattle.rules.specs.Modes.{touching}
use Rattle.rules.specs.Boards.{everyone, admitted, tallied, opening, closing, dropping}
use Rattle.rules.specs.Orders.{held_back, carried_from, carried, with_given, in_use, safe, can_give}
use Rattle.rules.specs.Soundness.{sets_sound, standing_sound, may_have, item_sound, program_sound, no_conflict, line_sound, waiter_sound}
use Rattle.rules.specs.Soundness.{uses_differ, awaited_in_use, none_favoured, some_favoured, count_sound, sound}
use Rattle.rules.specs.Settling.{overdue}
use Rattle.rules.specs.Replies.{reply, refuse, refuse_unsound}
use Rattle.rules.specs.Checks.{enter_check}
use Rattle.rules.specs.Calls.{admit, enter, apply, direct}
use Rattle.request.specs.Requests.{begins, program_field, file_field, w_field, r_field, j_field, label_part, files_in, rises_from, adding_all}
use Rattle.request.specs.Requests.{entry_files, entry_counts, entry_line, file_line, record_line, alone_line, verb_of, request_of}
use Rattle.journal.specs.Journal.{line_bytes, written}
use Rattle.linecall.specs.LineCall.{reply_to, lines_for, posted, line_call}
use Rattle.board.specs.Input.{board_after, bytes_after, served, feed, fed, finished, order_line, order_of, ending, output}

-- ENTER 2 with an empty claim, and a line that is no request
input : List ℕ
input =
    69 ∷ 78 ∷ 84 ∷ 69 ∷ 82 ∷ 32 ∷ 32 ∷ 32 ∷ 50 ∷ 65 ∷ 32 ∷ 32 ∷ 32 ∷ 32 ∷ 32 ∷ 32 ∷ 32 ∷ 32 ∷ 32 ∷ 48 ∷ 32 ∷ 32 ∷ 48 ∷ 32 ∷ 32 ∷ 48 ∷ 10 ∷ 88 ∷ []

-- ADMIT, REFUSE with 3, and the order
expected : List ℕ
expected =
    65 ∷ 68 ∷ 77 ∷ 73 ∷ 84 ∷ 32 ∷ 32 ∷ 32 ∷ 50 ∷ 32 ∷ 32 ∷ 48 ∷ 32 ∷ 32 ∷ 48 ∷ 32 ∷ 32 ∷ 32 ∷ 32 ∷ 48 ∷ 10
    ∷ 82 ∷ 69 ∷ 70 ∷ 85 ∷ 83 ∷ 69 ∷ 32 ∷ 32 ∷ 48 ∷ 32 ∷ 32 ∷ 48 ∷ 32 ∷ 32 ∷ 51 ∷ 32 ∷ 32 ∷ 32 ∷ 32 ∷ 48 ∷ 10
    ∷ 79 ∷ 82 ∷ 68 ∷ 69 ∷ 82 ∷ 32 ∷ 32 ∷ 32 ∷ 50 ∷ 10 ∷ []

example : output input ≡ expected
unfolding input expected board_after bytes_after served feed fed finished order_line order_of ending output
    leading columns_of flat read_all number_of
    begins program_field file_field w_field r_field j_field label_part files_in rises_from adding_all
    entry_files entry_counts entry_line file_line record_line alone_line verb_of request_of
    line_bytes written reply_to lines_for posted line_call
    any all keep first padded rising listed distinct without same names
    everyone admitted tallied touching opening closing dropping
    held_back carried_from carried with_given in_use safe can_give
    sets_sound standing_sound may_have item_sound program_sound no_conflict line_sound waiter_sound
    uses_differ awaited_in_use none_favoured some_favoured count_sound sound
    reply refuse refuse_unsound enter_check
    overdue admit enter apply direct
example = refl
