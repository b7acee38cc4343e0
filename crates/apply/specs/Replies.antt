-- What a call comes to: its lines as they are written, and the reply made of them; parts of the checks.
-- Assumes nothing.
use Rattle.std.specs.Prelude.{ℕ, suc, ◌≤◌, ◌≡◌, true, not, List, [], ◌++◌, eqb, length, replicate, Ok}
use Rattle.std.proofs.Math.Option.{get_or}
use Rattle.std.specs.Result.{result_and}
use Rattle.files.specs.Sets.{is_file, member}
use Rattle.rules.specs.declared.Standing.{Standing}
use Rattle.rules.specs.declared.Board.{Board}
use Rattle.rules.specs.declared.Refusal.{Refusal}
use Rattle.rules.specs.declared.Verb.{Verb}
use Rattle.rules.specs.declared.Claims.{Claims}
use Rattle.rules.specs.declared.Answer.{Answer}
use Rattle.rules.specs.declared.Line.{Line}
use Rattle.rules.specs.declared.Reply.{Reply}
use Rattle.laws.specs.Lists.{padded}
use Rattle.rules.specs.declared.Mode.TheVariants.{Write, Inquiry}
use Rattle.rules.specs.Modes.{claims_meet}
use Rattle.rules.specs.Boards.{is_absent, at, set_standing, set_item}
use Rattle.rules.specs.Checks.{Check, is_record, refuse_if, unless_running, unless_using, unless_stopped}
use Rattle.rules.specs.Orders.{carried}
use Rattle.rules.specs.Calls.{Call, Enter, wait_as}
use Rattle.rules.specs.Settling.{hand_on, settle}
use Rattle.rules.specs.Replies.{blank}
use Rattle.theory.specs.Loose.{Loose, Counted}
use Rattle.theory.specs.Records.{Records}
use Rattle.parts.specs.Entries.{Entries, IsEntries}
use Rattle.store.specs.declared.Seat.{Seat}
use Rattle.store.specs.Sets.{Sets, IsStore, open_at, claims_at, opens_at}
use Rattle.store.specs.Store.{board_of}
use Rattle.search.specs.declared.Order.{Order}
use Rattle.search.specs.declared.Search.{Search}
use Rattle.search.specs.Rows.{as_order, is_found}
use Rattle.settling.specs.declared.Progress.{Progress}
use Rattle.settling.specs.Writing.{Written, written_in}
use Rattle.apply.specs.declared.Changed.{Changed}

-- these lines are written
abbrev pub wrote : Board → List Line → Written
wrote b ls = record { board = b; lines = padded blank ls; count = length ls }

-- the reply with what was written, and with the order of its board
abbrev pub replied : Written → Answer → Reply
replied w a =
    record {
      board = w.board;
      answer = a;
      lines = w.lines;
      count = w.count;
      order = padded 0 (get_or (carried w.board) []);
      placed = length (get_or (carried w.board) []);
    }

-- what the call with this reply comes to, with these sets and lines: its board, lines and answer
abbrev pub ComesTo : Sets → Entries → Changed → Reply → Type 0
ComesTo sets lines c r = replied (written_in sets lines c.progress) c.answer ≡ r

-- a call comes to this, with no order found on its way
abbrev pub unordered : Progress → Answer → Changed
unordered w a = record { progress = w; answer = a; order = record { kind = Search.Stuck; at = replicate 32 0 } }

-- an order, if one was found, is the carried order of the board
abbrev pub Carries : Board → Order → Type 0
Carries b o = is_found o.kind ≡ true → o ≡ as_order (carried b)

-- what a call comes to stands in sets and lines of their form, and an order found on the way is that of its board
abbrev pub InForm : Sets → Entries → Changed → Type 0
InForm sets lines c = IsStore sets × IsEntries lines × Carries (board_of sets c.progress.rest) c.order

-- a program enters with its claims
abbrev pub entering : ℕ → Claims → Call
entering p c = Enter p c.writable c.readable c.inquirable

-- ---- the checks, each by itself; those of a call one after the other, by `result_and`

-- check 8, of a file's number
abbrev pub file_check : ℕ → Check
file_check f = refuse_if (not (is_file f)) Refusal.OutOfRange (Ok tt)

-- check 19
abbrev pub record_check : ℕ → Check
record_check n = refuse_if (not (is_record n)) Refusal.BadRecord (Ok tt)

-- checks 11 to 13
abbrev pub running_check : Standing → Check
running_check s = unless_running s (Ok tt)

-- checks 11 and 18, of cancel
abbrev pub stopped_check : Standing → Check
stopped_check s = unless_stopped s (Ok tt)

-- check 21
abbrev pub using_check : ℕ → Check
using_check r = unless_using r (Ok tt)

-- checks 11 to 13, then 21, by the seat
abbrev pub busy_check : Seat → Check
busy_check s = result_and (running_check s.standing) (using_check s.item)

-- checks 9 and 10, of enter
abbrev pub entry_check : Standing → Claims → Check
entry_check s c =
    refuse_if (not (is_absent s)) Refusal.NotAbsent
    (refuse_if (claims_meet c.writable c.readable c.inquirable) Refusal.ClaimsMeet (Ok tt))

-- checks 14 and 15, of open and drop, by the sets
abbrev pub claim_check_at : Sets → ℕ → ℕ → Check
claim_check_at sets p f =
    refuse_if (not (claims_at sets f Write p)) Refusal.NotClaimed (refuse_if (opens_at sets f p) Refusal.IsOpen (Ok tt))

-- check 16, of close, by the sets
abbrev pub use_check_at : Sets → ℕ → ℕ → Check
use_check_at sets p f = refuse_if (not (opens_at sets f p)) Refusal.NotOpen (Ok tt)

-- check 20, of fetch, by the sets
abbrev pub inquiry_check_at : Sets → ℕ → ℕ → Check
inquiry_check_at sets p f = refuse_if (not (member (open_at sets p Inquiry) f)) Refusal.NoRecord (Ok tt)

-- check 20, of return, by the record in use
abbrev pub returned_check : ℕ → Check
returned_check r = refuse_if (eqb r 0) Refusal.NoRecord (Ok tt)

-- those of a call of a program in range, by its sets and its seat
abbrev pub near_open : Sets → ℕ → Seat → ℕ → Check
near_open sets p s f = result_and (file_check f) (result_and (busy_check s) (claim_check_at sets p f))

abbrev pub near_close : Sets → ℕ → Seat → ℕ → Check
near_close sets p s f = result_and (file_check f) (result_and (busy_check s) (use_check_at sets p f))

abbrev pub near_fetch : Sets → ℕ → Seat → ℕ → ℕ → Check
near_fetch sets p s f n =
    result_and (file_check f) (result_and (record_check n) (result_and (busy_check s) (inquiry_check_at sets p f)))

abbrev pub near_return : Seat → Check
near_return s = result_and (running_check s.standing) (returned_check s.item)

-- the checks of a call, of a program in range, by its sets and its seat
abbrev pub near_check : Sets → ℕ → Seat → Verb → ℕ → ℕ → Claims → Check
near_check sets p s Verb.Enter f n c = entry_check s.standing c
near_check sets p s Verb.Open f n c = near_open sets p s f
near_check sets p s Verb.Close f n c = near_close sets p s f
near_check sets p s Verb.Drop f n c = near_open sets p s f
near_check sets p s Verb.Leave f n c = running_check s.standing
near_check sets p s Verb.Cancel f n c = stopped_check s.standing
near_check sets p s Verb.Fetch f n c = near_fetch sets p s f n
near_check sets p s Verb.Return f n c = near_return s

-- ---- a record handed on

-- a board on which the record r of f, which nobody has any more, may be handed on before it settles, with room in the reply for the
-- answer's line, that of the record and settling's
pub record Handing (b : Board) (f r : ℕ) : Type 0 where
  pub loose : Loose b
  pub counted : Counted b.passed b.programs
  pub records : Records b.programs f r
  pub room : suc (length ((hand_on b f r).lines ++ (settle (hand_on b f r).board).lines)) ≤ 32

-- p waits for f: for the record r of the file g, or, if both are 0, for f itself
abbrev pub waiting_for : Board → ℕ → ℕ → ℕ → ℕ → Board
waiting_for b p f g r = wait_as b p (set_item (set_standing (at b p) (Standing.Waiting f)) g r)
