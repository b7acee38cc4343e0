-- The eight calls: what each does once its checks have passed, and the direct call with its checks.
-- Assumes nothing.
use Rattle.std.specs.Prelude.{ℕ, ◌+◌, cond, [], ◌∷◌, ◌++◌, eqb, Ok, Err}
use Rattle.files.specs.declared.FileSet.{FileSet}
use Rattle.files.specs.Sets.{no_files}
use Rattle.rules.specs.declared.Standing.{Standing}
use Rattle.rules.specs.declared.Program.{Program}
use Rattle.rules.specs.declared.Board.{Board}
use Rattle.rules.specs.declared.Verb.{Verb}
use Rattle.rules.specs.declared.Claims.{Claims}
use Rattle.rules.specs.declared.Asked.{Asked}
use Rattle.rules.specs.declared.Answer.{Answer}
use Rattle.rules.specs.declared.Word.{Word}
use Rattle.rules.specs.declared.Reply.{Reply}
use Rattle.laws.specs.Lists.{with_found, names, without}
use Rattle.rules.specs.Modes.{by_mode}
use Rattle.rules.specs.Boards.{no_program, at, set_program, set_waiting, set_entry, set_favour, set_standing, set_item, uncount, tally, closing}
use Rattle.rules.specs.Boards.{dropping, set_claims}
use Rattle.rules.specs.Orders.{with_given, in_use, safe, taken}
use Rattle.rules.specs.Soundness.{sound}
use Rattle.rules.specs.Settling.{line, line_of, Step, still, overdue, favour, hand_on, settle}
use Rattle.rules.specs.Replies.{reply, refuse, refuse_unsound}
use Rattle.rules.specs.Checks.{Check, enter_check, open_check, close_check, leave_check, cancel_check, fetch_check, return_check}

-- ---- what an accepted call does

-- a program that enters, with nothing open
abbrev pub newcomer : FileSet → FileSet → FileSet → Standing → Program
newcomer v q j s = set_standing (set_claims no_program (by_mode v q j)) s

-- p runs, and the count of each waiting program goes up by 1
unfoldable pub admit : Board → ℕ → FileSet → FileSet → FileSet → Board
admit b p v q j = tally (set_program b p (newcomer v q j Standing.Running))

-- p is held at the end of the entry line
unfoldable pub hold : Board → ℕ → FileSet → FileSet → FileSet → Board
hold b p v q j = set_entry (set_program b p (newcomer v q j Standing.Held)) (names b.entry ++ (p ∷ []))

-- p is held, and the waiter w is favoured: "FAVOUR, after HELD"
unfoldable pub hold_for : Board → ℕ → FileSet → FileSet → FileSet → ℕ → Reply
hold_for b p v q j w = let s = favour (hold b p v q j) w in reply s.board Answer.Held (line Word.Held p 0 ∷ s.lines)

-- Enter: "with somebody favoured, p is held at the end of the entry line (HELD); otherwise running (ADMIT)"; but "if nobody is favoured
-- and some waiter's count is 8, nobody is admitted: the oldest such waiter is favoured"
unfoldable pub enter : Board → ℕ → FileSet → FileSet → FileSet → Reply
enter b p v q j =
    cond (eqb b.favoured 0)
    (with_found (overdue b) (reply (admit b p v q j) Answer.Admit (line Word.Admit p 0 ∷ [])) (hold_for b p v q j))
    (reply (hold b p v q j) Answer.Held (line Word.Held p 0 ∷ []))

-- p, which is now q, waits: "A waiter joins the end of the waiting line."
abbrev pub wait_as : Board → ℕ → Program → Board
wait_as b p q = set_waiting (set_program b p q) (names b.waiting ++ (p ∷ []))

-- p waits for f
unfoldable pub wait : Board → ℕ → ℕ → Board
wait b p f = wait_as b p (set_standing (at b p) (Standing.Waiting f))

-- Open: WAIT if another program has f in conflicting use, UNSAFE if no order comes back with f given, otherwise GIVEN
unfoldable pub open_file : Board → ℕ → ℕ → Reply
open_file b p f =
    cond (in_use b p f) (reply (wait b p f) Answer.Wait (line Word.Wait p f ∷ []))
    (cond (safe b p f) (reply (with_given b p f) Answer.Given (line Word.Given p f ∷ []))
    (reply (wait b p f) Answer.Unsafe (line Word.Unsafe p f ∷ [])))

-- p waits for the record r of f
unfoldable pub wait_item : Board → ℕ → ℕ → ℕ → Board
wait_item b p f r = wait_as b p (set_item (set_standing (at b p) (Standing.Waiting f)) f r)

-- Fetch: "It waits (WAIT) while another has that record, else gets it (GIVEN)."
unfoldable pub fetch : Board → ℕ → ℕ → ℕ → Reply
fetch b p f r =
    cond (taken b p f r) (reply (wait_item b p f r) Answer.Wait (line_of Word.Wait p f r ∷ []))
    (reply (set_program b p (set_item (at b p) f r)) Answer.Given (line_of Word.Given p f r ∷ []))

-- DONE, then the lines so far, then settle
unfoldable pub finish : Step → ℕ → ℕ → Reply
finish s p f = let t = settle s.board in reply t.board Answer.Done (line Word.Done p f ∷ (s.lines ++ t.lines))

-- DONE, then settle
unfoldable pub done : Board → ℕ → ℕ → Reply
done b p f = finish (still b) p f

-- Close: f is open no longer
unfoldable pub close_file : Board → ℕ → ℕ → Reply
close_file b p f = done (set_program b p (closing (at b p) f)) p f

-- Drop: f leaves p's claim
unfoldable pub drop_file : Board → ℕ → ℕ → Reply
drop_file b p f = done (set_program b p (dropping (at b p) f)) p f

-- "the leave is counted if somebody was favoured before it"
unfoldable pub count_leave : Board → Board
count_leave b = cond (eqb b.favoured 0) b (set_favour b b.favoured b.initial (b.leaves + 1))

-- Leave: all its files and claims go; "a leave returns it too", the record in use
unfoldable pub leave : Board → ℕ → Reply
leave b p = finish (hand_on (count_leave (set_program b p no_program)) (at b p).file (at b p).item) p 0

-- Return: "the oldest waiter for the record gets it (GIVEN), then the board settles"
unfoldable pub return_item : Board → ℕ → Reply
return_item b p = finish (hand_on (set_program b p (set_item (at b p) 0 0)) (at b p).file (at b p).item) p 0

-- "A cancelled favoured program is favoured no longer. Otherwise a cancel of an admitted program counts as a leave"
unfoldable pub count_cancel : Board → ℕ → Board
count_cancel b p = cond (eqb b.favoured p) (set_favour b 0 0 0) (count_leave b)

-- "The program goes with its files and claims", out of its line, and its count is 0; "a cancel of a held one counts nowhere"; an absent
-- or a running program is refused before, by 11 and 18
abbrev pub withdrawn : Board → ℕ → Standing → Board
withdrawn b p Standing.Absent = b
withdrawn b p Standing.Running = b
withdrawn b p (Standing.Waiting f) =
    count_cancel (uncount (set_waiting (set_program b p no_program) (without p (names b.waiting))) p) p
withdrawn b p Standing.Held = set_entry (set_program b p no_program) (without p (names b.entry))

-- Cancel: "the answer is DONE, and the board settles"
unfoldable pub cancel : Board → ℕ → Reply
cancel b p = done (withdrawn b p (at b p).standing) p 0

-- ---- calls

-- the eight kinds of direct call, with any numbers and claims
pub data Call : Type 0 where
  Enter : ℕ → FileSet → FileSet → FileSet → Call
  Open : ℕ → ℕ → Call
  Close : ℕ → ℕ → Call
  Drop : ℕ → ℕ → Call
  Leave : ℕ → Call
  Cancel : ℕ → Call
  Fetch : ℕ → ℕ → ℕ → Call
  Return : ℕ → Call

-- the claims V, Q and J
abbrev pub claiming : FileSet → FileSet → FileSet → Claims
claiming v q j = record { writable = v; readable = q; inquirable = j }

abbrev pub no_claims : Claims
no_claims = claiming no_files no_files no_files

-- the call with a verb and these numbers and claims
abbrev pub call_with : Verb → ℕ → ℕ → ℕ → Claims → Call
call_with Verb.Enter p f r c = Enter p c.writable c.readable c.inquirable
call_with Verb.Open p f r c = Open p f
call_with Verb.Close p f r c = Close p f
call_with Verb.Drop p f r c = Drop p f
call_with Verb.Leave p f r c = Leave p
call_with Verb.Cancel p f r c = Cancel p
call_with Verb.Fetch p f r c = Fetch p f r
call_with Verb.Return p f r c = Return p

-- the call that is asked for
abbrev pub call_of : Asked → Call
call_of a = call_with a.verb a.program a.file a.item a.claims

-- the program that a call names
abbrev pub program_of : Call → ℕ
program_of (Enter p v q j) = p
program_of (Open p f) = p
program_of (Close p f) = p
program_of (Drop p f) = p
program_of (Leave p) = p
program_of (Cancel p) = p
program_of (Fetch p f r) = p
program_of (Return p) = p

-- the file that it names, and 0 where it names none
abbrev pub file_of : Call → ℕ
file_of (Enter p v q j) = 0
file_of (Open p f) = f
file_of (Close p f) = f
file_of (Drop p f) = f
file_of (Leave p) = 0
file_of (Cancel p) = 0
file_of (Fetch p f r) = f
file_of (Return p) = 0

-- the record that it names, and 0 where it names none
abbrev pub item_of : Call → ℕ
item_of (Enter p v q j) = 0
item_of (Open p f) = 0
item_of (Close p f) = 0
item_of (Drop p f) = 0
item_of (Leave p) = 0
item_of (Cancel p) = 0
item_of (Fetch p f r) = r
item_of (Return p) = 0

-- the first of checks 8 to 16 and 18 to 21 that applies
abbrev pub checked : Board → Call → Check
checked b (Enter p v q j) = enter_check b p v q j
checked b (Open p f) = open_check b p f
checked b (Close p f) = close_check b p f
checked b (Drop p f) = open_check b p f
checked b (Leave p) = leave_check b p
checked b (Cancel p) = cancel_check b p
checked b (Fetch p f r) = fetch_check b p f r
checked b (Return p) = return_check b p

-- what the call does if it is accepted
abbrev pub accepted : Board → Call → Reply
accepted b (Enter p v q j) = enter b p v q j
accepted b (Open p f) = open_file b p f
accepted b (Close p f) = close_file b p f
accepted b (Drop p f) = drop_file b p f
accepted b (Leave p) = leave b p
accepted b (Cancel p) = cancel b p
accepted b (Fetch p f r) = fetch b p f r
accepted b (Return p) = return_item b p

-- the reply unless refused
abbrev pub unless : Board → Check → Reply → Reply
unless b (Ok tt) r = r
unless b (Err n) r = refuse b n

-- the rules applied to a board: checks 8 to 16 and 18 to 21, then the call
unfoldable pub apply : Board → Call → Reply
apply b c = unless b (checked b c) (accepted b c)

-- a direct call: check 1 first, then the rules
unfoldable pub direct : Board → Call → Reply
direct b c = cond (sound b) (apply b c) (refuse_unsound b)
