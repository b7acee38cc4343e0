-- Both bounds of 02's CR 5 are met: a writer behind a stream of readers (row (aa) of rules/proofs/Cases), computed from the definitions.
-- Assumes nothing.
use Prim.Native.Nat.{ℕ, ◌+◌}
use mathlib.Core.Path.{◌≡◌, refl}
use mathlib.Core.List.{List, [], ◌∷◌, ◌++◌, map}
use Rattle.files.specs.Sets.{no_files}
use Rattle.laws.specs.Lists.{any, all, keep, first, padded, rising, without, names}
use Rattle.rules.specs.Modes.{touching}
use Rattle.rules.specs.Boards.{everyone, admitted, tallied, opening, closing}
use Rattle.rules.specs.Orders.{held_back, carried_from, carried, with_given, in_use, safe, can_give}
use Rattle.rules.specs.Settling.{unfavour, resume, try_give, pass, hand_to, hand_on, candidate, favour, overdue, admit_held, run_held, choose, settle}
use Rattle.rules.specs.Replies.{reply, refuse, admits}
use Rattle.rules.specs.Checks.{enter_check, open_check, close_check, leave_check}
use Rattle.rules.specs.Calls.{admit, hold, hold_for, enter, wait, open_file, finish, done, close_file, count_leave, leave, apply}
use Rattle.rules.specs.Calls.{Call, Enter, Open, Close, Leave}
use Rattle.rules.specs.Worked.{worked_from, worked}
use Rattle.rules.proofs.Tables.{set}
use Rattle.theory.specs.Demand3.{leaves_in}
use Rattle.theory.specs.Passing.{admissions_in, others_after}

-- a program that may read file 1 enters
reads : ℕ → Call
unfolding set
reads p = Enter p no_files (set (1 ∷ [])) no_files

-- 2 reads file 1, and 1, which may write it, begins to wait
start : List Call
unfolding reads set
start = reads 2 ∷ Enter 1 (set (1 ∷ [])) no_files no_files ∷ Open 2 1 ∷ Open 1 1 ∷ []

-- eight readers pass it, the ninth is held; all but 10 and 11 leave
during : List Call
unfolding reads
during = map reads (3 ∷ 4 ∷ 5 ∷ 6 ∷ 7 ∷ 8 ∷ 9 ∷ 10 ∷ []) ++ (Open 10 1 ∷ Close 2 1 ∷ reads 11 ∷ map Leave (2 ∷ 3 ∷ 4 ∷ 5 ∷ 6 ∷ 7 ∷ 8 ∷ 9 ∷ []))

-- "more than 8 admissions": it is passed by 8
passed_by_eight : admissions_in start during ≡ 8
unfolding start during reads set admits admissions_in
    any all keep first padded rising without names
    everyone admitted tallied touching opening closing
    held_back carried_from carried with_given in_use safe can_give
    unfavour resume try_give pass hand_to hand_on candidate favour overdue admit_held run_held choose settle
    reply refuse enter_check open_check close_check leave_check
    admit hold hold_for enter wait open_file finish done close_file count_leave leave apply
    worked_from worked
passed_by_eight = refl

-- "at most 8 more than the other admitted programs at its start": 9 leave, the one whose leave ends the wait among them, and 1 other was there
nine_leave : leaves_in 1 start (during ++ (Leave 10 ∷ [])) ≡ 8 + others_after start 1
unfolding during start reads set leaves_in
    any all keep first padded rising without names
    everyone admitted tallied touching opening closing
    held_back carried_from carried with_given in_use safe can_give
    unfavour resume try_give pass hand_to hand_on candidate favour overdue admit_held run_held choose settle
    reply refuse enter_check open_check close_check leave_check
    admit hold hold_for enter wait open_file finish done close_file count_leave leave apply
    worked_from worked
nine_leave = refl
