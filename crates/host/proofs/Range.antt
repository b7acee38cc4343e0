-- Why no line call answers refusal 8: a line's own refusals are 3 to 7, and the numbers of a line that is taken are in range.
-- Assumes nothing.
use Prim.Native.Nat.{ℕ}
use mathlib.Core.Path.{◌≡◌, refl}
use mathlib.Core.Bool.{Bool, true, false, not, ◌&&◌}
use mathlib.Core.List.{List}
use lib.Dec.{eqb, leb}
use Rattle.std.specs.Prelude.{Ok, Err}
use Rattle.files.specs.Sets.{is_file, member}
use Rattle.rules.specs.declared.Standing.{Standing}
use Rattle.rules.specs.declared.Board.{Board}
use Rattle.rules.specs.declared.Refusal.{Refusal}
use Rattle.rules.specs.Boards.{is_program, is_absent, at, claims, has_open}
use Rattle.rules.specs.Replies.{number}
use Rattle.rules.specs.Modes.{claims_meet}
use Rattle.rules.specs.Checks.{Check, refuse_if, unless_running, unless_using, unless_stopped, is_record}
use Rattle.rules.specs.Checks.{enter_check, open_check, close_check, fetch_check, return_check, leave_check, cancel_check}
use Rattle.rules.specs.Calls.{Call, Enter, Open, Close, Drop, Leave, Cancel, Fetch, Return, checked}
use Rattle.std.specs.Prelude.{Ok, Err}
use Rattle.request.specs.declared.Shape.{Shape}
use Rattle.request.specs.Requests.{Request, request_of, asked_by}
use Rattle.request.specs.Law.{InRange}
use Rattle.request.proofs.Ways.{line_ways}
use Rattle.writer.proofs.Law.{range_test, record_test}

-- ══ A line's own refusals ══

-- taken, or refused with 3 to 7
abbrev pub of_line : Request → Bool
of_line (Ok a) = true
of_line (Err r) = leb 3 (number r) && leb (number r) 7

pub line_reads : (l : List ℕ) → of_line (request_of l) ≡ true
line_reads l =
    line_ways (λ q. of_line q ≡ true)
    (record {
      no-verb = refl;
      length = refl;
      number = refl;
      label = refl;
      rising = refl;
      call = λ v p f n c k i i₂. refl;
    }) l

-- ══ A call with its numbers in range ══

-- passed, or failed by another check than 8
abbrev pub not_eight : Check → Bool
not_eight (Ok tt) = true
not_eight (Err r) = not (eqb (number r) 8)

record Other (k : Check) : Type 0 where
  so : not_eight k ≡ true

other : {k : Check} → not_eight k ≡ true → Other k
other e = record { so = e }

unless_it : (t : Bool) (r : Refusal) {k : Check} → not_eight (Err r) ≡ true → Other k → Other (refuse_if t r k)
unless_it true r f g = other f
unless_it false r f g = g

unless_running_lem : (s : Standing) {k : Check} → Other k → Other (unless_running s k)
unless_running_lem Standing.Absent g = other refl
unless_running_lem Standing.Held g = other refl
unless_running_lem (Standing.Waiting f) g = other refl
unless_running_lem Standing.Running g = g

unless_using_lem : (r : ℕ) {k : Check} → Other k → Other (unless_using r k)
unless_using_lem r g = unless_it (not (eqb r 0)) Refusal.HasRecord refl g

unless-stopped : (s : Standing) {k : Check} → Other k → Other (unless_stopped s k)
unless-stopped Standing.Absent g = other refl
unless-stopped Standing.Held g = g
unless-stopped (Standing.Waiting f) g = g
unless-stopped Standing.Running g = other refl

open_other : (b : Board) (p f : ℕ) → is_program p && is_file f ≡ true → Other (open_check b p f)
unfolding open_check
open_other b p f i = rw i (unless_running_lem (at b p).standing (unless_using_lem (at b p).item (unless_it (not (claims (at b p) f)) Refusal.NotClaimed refl
    (unless_it (has_open (at b p) f) Refusal.IsOpen refl (other refl)))))

close_other : (b : Board) (p f : ℕ) → is_program p && is_file f ≡ true → Other (close_check b p f)
unfolding close_check
close_other b p f i = rw i (unless_running_lem (at b p).standing (unless_using_lem (at b p).item
    (unless_it (not (has_open (at b p) f)) Refusal.NotOpen refl (other refl))))

fetch-other : (b : Board) (p f r : ℕ) → is_program p && is_file f ≡ true → is_record r ≡ true → Other (fetch_check b p f r)
unfolding fetch_check
fetch-other b p f r i k = rw (i, k) (unless_running_lem (at b p).standing (unless_using_lem (at b p).item
    (unless_it (not (member (at b p).inquiring f)) Refusal.NoRecord refl (other refl))))

call_other : (b : Board) (c : Call) → InRange c → Other (checked b c)
unfolding enter_check return_check leave_check cancel_check
call_other b (Enter p v q j) i = rw (range_test Shape.Entry (asked_by (Enter p v q j)) i)
    (unless_it (not (is_absent (at b p).standing)) Refusal.NotAbsent refl (unless_it (claims_meet v q j) Refusal.ClaimsMeet refl (other refl)))
call_other b (Open p f) i = open_other b p f (range_test Shape.File (asked_by (Open p f)) i)
call_other b (Close p f) i = close_other b p f (range_test Shape.File (asked_by (Close p f)) i)
call_other b (Drop p f) i = open_other b p f (range_test Shape.File (asked_by (Drop p f)) i)
call_other b (Leave p) i = rw (range_test Shape.Alone (asked_by (Leave p)) i) (unless_running_lem (at b p).standing (other refl))
call_other b (Cancel p) i = rw (range_test Shape.Alone (asked_by (Cancel p)) i) (unless-stopped (at b p).standing (other refl))
call_other b (Fetch p f r) i = fetch-other b p f r (range_test Shape.Record (asked_by (Fetch p f r)) i)
    (record_test Shape.Record (asked_by (Fetch p f r)) i)
call_other b (Return p) i = rw (range_test Shape.Alone (asked_by (Return p)) i) (unless_running_lem (at b p).standing
    (unless_it (eqb (at b p).item 0) Refusal.NoRecord refl (other refl)))

pub range_checked : (b : Board) (c : Call) → InRange c → not_eight (checked b c) ≡ true
range_checked b c i = (call_other b c i).so
