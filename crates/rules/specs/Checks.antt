-- Checks 8 to 16 and 18 to 21 of a direct call: "Checks run downwards; the first that applies wins."
-- Assumes nothing.
use Rattle.std.specs.Prelude.{ℕ, Bool, true, false, not, ◌&&◌, eqb, leb, Result, Ok, Err}
use Rattle.files.specs.declared.FileSet.{FileSet}
use Rattle.files.specs.Sets.{is_file, member}
use Rattle.rules.specs.declared.Standing.{Standing}
use Rattle.rules.specs.declared.Board.{Board}
use Rattle.rules.specs.declared.Refusal.{Refusal}
use Rattle.rules.specs.Modes.{claims_meet}
use Rattle.rules.specs.Boards.{is_program, at, claims, has_open, is_absent}

-- whether the checks of a call refuse it, and with which refusal
abbrev pub Check : Type 0
Check = Result (Unit {0}) Refusal

-- refused where the test passes; otherwise the next check
abbrev pub refuse_if : Bool → Refusal → Check → Check
refuse_if true r next = Err r
refuse_if false r next = next

-- 11, 12, 13; then the next check
abbrev pub unless_running : Standing → Check → Check
unless_running Standing.Absent next = Err Refusal.IsAbsent
unless_running Standing.Held next = Err Refusal.IsHeld
unless_running (Standing.Waiting f) next = Err Refusal.IsWaiting
unless_running Standing.Running next = next

-- 21, of a running program; then the next check
abbrev pub unless_using : ℕ → Check → Check
unless_using r next = refuse_if (not (eqb r 0)) Refusal.HasRecord next

-- 8, 9, 10
unfoldable pub enter_check : Board → ℕ → FileSet → FileSet → FileSet → Check
enter_check b p v q j =
    refuse_if (not (is_program p)) Refusal.OutOfRange
    (refuse_if (not (is_absent (at b p).standing)) Refusal.NotAbsent
    (refuse_if (claims_meet v q j) Refusal.ClaimsMeet (Ok tt)))

-- 8, 11 to 13, 21, 14, 15; for open and for drop
unfoldable pub open_check : Board → ℕ → ℕ → Check
open_check b p f =
    refuse_if (not (is_program p && is_file f)) Refusal.OutOfRange
    (unless_running (at b p).standing
    (unless_using (at b p).item
    (refuse_if (not (claims (at b p) f)) Refusal.NotClaimed
    (refuse_if (has_open (at b p) f) Refusal.IsOpen (Ok tt)))))

-- 8, 11 to 13, 21, 16
unfoldable pub close_check : Board → ℕ → ℕ → Check
close_check b p f =
    refuse_if (not (is_program p && is_file f)) Refusal.OutOfRange
    (unless_running (at b p).standing
    (unless_using (at b p).item
    (refuse_if (not (has_open (at b p) f)) Refusal.NotOpen (Ok tt))))

-- "A program may FETCH one record, 1 to 65,535"
abbrev pub is_record : ℕ → Bool
is_record r = leb 1 r && leb r 65535

-- 8, 19, 11 to 13, 21, 20
unfoldable pub fetch_check : Board → ℕ → ℕ → ℕ → Check
fetch_check b p f r =
    refuse_if (not (is_program p && is_file f)) Refusal.OutOfRange
    (refuse_if (not (is_record r)) Refusal.BadRecord
    (unless_running (at b p).standing
    (unless_using (at b p).item
    (refuse_if (not (member (at b p).inquiring f)) Refusal.NoRecord (Ok tt)))))

-- 8, 11 to 13, 20
unfoldable pub return_check : Board → ℕ → Check
return_check b p =
    refuse_if (not (is_program p)) Refusal.OutOfRange
    (unless_running (at b p).standing (refuse_if (eqb (at b p).item 0) Refusal.NoRecord (Ok tt)))

-- 8, 11 to 13
unfoldable pub leave_check : Board → ℕ → Check
leave_check b p = refuse_if (not (is_program p)) Refusal.OutOfRange (unless_running (at b p).standing (Ok tt))

-- 11, 18; then the next check; "12 and 13 don't apply to it"
abbrev pub unless_stopped : Standing → Check → Check
unless_stopped Standing.Absent next = Err Refusal.IsAbsent
unless_stopped Standing.Held next = next
unless_stopped (Standing.Waiting f) next = next
unless_stopped Standing.Running next = Err Refusal.IsRunning

-- 8, 11, 18
unfoldable pub cancel_check : Board → ℕ → Check
cancel_check b p = refuse_if (not (is_program p)) Refusal.OutOfRange (unless_stopped (at b p).standing (Ok tt))
