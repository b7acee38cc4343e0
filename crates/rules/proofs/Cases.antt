-- The cases (a) to (j) of 01, and more, with those of 02's CR 2, CR 5 and CR 7, as one table with one theorem over it: each case is computed
-- from the definitions. That direct calls come to the same is proved in theory/proofs/Cases.
-- Assumes nothing.
use Prim.Native.Nat.{ℕ}
use mathlib.Core.Path.{◌≡◌, refl, sym, ap, ◌∙◌}
use mathlib.Core.Bool.{true}
use mathlib.Core.List.{List, [], ◌∷◌, map}
use mathlib.Core.Option
use lib.ListN.{get_or, get_or-map}
use Rattle.files.specs.Sets.{no_files}
use Rattle.rules.specs.declared.Board.{Board}
use Rattle.rules.specs.declared.Refusal.{Refusal}
use Rattle.rules.specs.declared.Answer.{Answer}
use Rattle.rules.specs.declared.Word.{Word}
use Rattle.rules.specs.declared.Line.{Line}
use Rattle.rules.specs.declared.Reply.{Reply}
use Rattle.laws.specs.Lists.{any, all, keep, first, padded, rising, listed, distinct, without, same, names}
use Rattle.rules.specs.Modes.{touching}
use Rattle.rules.specs.Boards.{empty_board, everyone, admitted, tallied, opening, closing, dropping}
use Rattle.rules.specs.Orders.{taken, held_back, carried_from, carried, with_given, in_use, safe, can_give}
use Rattle.rules.specs.Soundness.{may_have, item_sound, uses_differ, awaited_in_use, sets_sound, standing_sound, program_sound, no_conflict}
use Rattle.rules.specs.Soundness.{line_sound, waiter_sound, none_favoured, some_favoured, count_sound, sound}
use Rattle.rules.specs.Settling.{line, line_of, unfavour, resume, try_give, pass, hand_to, hand_on, candidate, favour, overdue, admit_held}
use Rattle.rules.specs.Settling.{run_held, choose, settle}
use Rattle.rules.specs.Replies.{reply, refuse, word_of, lines_of, order_of}
use Rattle.rules.specs.Checks.{enter_check, open_check, close_check, leave_check, cancel_check, fetch_check, return_check}
use Rattle.rules.specs.Calls.{admit, hold, hold_for, enter, wait, open_file, done, close_file, drop_file, count_leave, leave, count_cancel, cancel}
use Rattle.rules.specs.Calls.{wait_item, fetch, finish, return_item}
use Rattle.rules.specs.Calls.{Call, Enter, Open, Close, Drop, Leave, Cancel, Fetch, Return, program_of, file_of, item_of, apply}
use Rattle.rules.specs.Worked.{worked_from, worked}
use Rattle.rules.proofs.Tables.{set}

-- ---- what a list of calls, from the empty board, comes to

-- a call, its answer, and all its lines
pub record Told : Type 0 where
  pub call : Call
  pub answer : Answer
  pub lines : List Line

-- the calls of a list with their answers and lines; after the last, the order, and the board's favoured program, number and leaves
pub record Case : Type 0 where
  pub told : List Told
  pub order : List ℕ
  pub favoured : List ℕ

-- the replies to calls, each made on the board that the one before it gave back, with the calls that they answer
unfoldable pub told_by : (Board → Call → Reply) → Board → List ℕ → List Call → Case
told_by f b o [] = record { told = []; order = o; favoured = b.favoured ∷ b.initial ∷ b.leaves ∷ [] }
told_by f b o (c ∷ cs) =
    let r = f b c in
    let k = told_by f r.board (order_of r) cs in
    record { told = record { call = c; answer = r.answer; lines = lines_of r } ∷ k.told; order = k.order; favoured = k.favoured }

-- by the rules, from the empty board
pub outcome : List Call → Case
unfolding any all keep first padded rising listed distinct without same names
    everyone admitted tallied touching opening closing dropping
    held_back carried_from carried with_given in_use safe can_give
    taken hand_to hand_on fetch_check return_check wait_item fetch finish return_item
    unfavour resume try_give pass candidate favour overdue admit_held run_held choose settle
    reply refuse enter_check open_check close_check leave_check cancel_check
    admit hold hold_for enter wait open_file done close_file drop_file count_leave leave count_cancel cancel apply
    told_by
outcome cs = told_by apply empty_board (Option.get_or (carried empty_board) []) cs

pub outcome_is : (cs : List Call) → outcome cs ≡ told_by apply empty_board (Option.get_or (carried empty_board) []) cs
unfolding outcome
outcome_is cs = refl

-- ---- words for the table

-- the call c is answered with a: the answer's line, then these lines of settling
yes : Call → Answer → List Line → Told
yes c a ls = record { call = c; answer = a; lines = line_of (word_of a) (program_of c) (file_of c) (item_of c) ∷ ls }

-- the call c is refused, and has no lines
no : Call → Refusal → Told
no c r = record { call = c; answer = Answer.Refuse r; lines = [] }

-- p enters with these files in V, or in Q, and is admitted
writer : ℕ → List ℕ → Told
unfolding yes set
writer p v = yes (Enter p (set v) no_files no_files) Answer.Admit []

reader : ℕ → List ℕ → Told
unfolding yes set
reader p q = yes (Enter p no_files (set q) no_files) Answer.Admit []

-- p is given f
gets : ℕ → ℕ → Told
unfolding yes
gets p f = yes (Open p f) Answer.Given []

-- nobody is favoured
nobody : List ℕ
nobody = 0 ∷ 0 ∷ 0 ∷ []

-- ---- the table

-- (a) empty board, empty order
pub a : Case
unfolding nobody
a = record { told = []; order = []; favoured = nobody }

-- (b) one program opening all it claims
b : Case
unfolding nobody yes set gets
b =
    record {
      told = yes (Enter 1 (set (1 ∷ 2 ∷ [])) (set (3 ∷ [])) no_files) Answer.Admit [] ∷ gets 1 1 ∷ gets 1 2 ∷ gets 1 3 ∷ [];
      order = 1 ∷ [];
      favoured = nobody;
    }

-- (c) V {1,2,3} with W {2} against V {2,3,4}: giving 3 to the second leaves no order
c : Case
unfolding nobody yes writer gets
c =
    record {
      told = writer 1 (1 ∷ 2 ∷ 3 ∷ []) ∷ writer 2 (2 ∷ 3 ∷ 4 ∷ []) ∷ gets 1 2 ∷ yes (Open 2 3) Answer.Unsafe [] ∷ [];
      order = 1 ∷ 2 ∷ [];
      favoured = nobody;
    }

-- (d) the same, giving 4: order 1 2
d : Case
unfolding nobody writer gets
d =
    record {
      told = writer 1 (1 ∷ 2 ∷ 3 ∷ []) ∷ writer 2 (2 ∷ 3 ∷ 4 ∷ []) ∷ gets 1 2 ∷ gets 2 4 ∷ [];
      order = 1 ∷ 2 ∷ [];
      favoured = nobody;
    }

-- (e) two readers of one file: given
e : Case
unfolding nobody reader gets
e = record { told = reader 1 (5 ∷ []) ∷ reader 2 (5 ∷ []) ∷ gets 1 5 ∷ gets 2 5 ∷ []; order = 1 ∷ 2 ∷ []; favoured = nobody }

-- (f) reader, then writer: WAIT
f : Case
unfolding nobody yes writer reader gets
f =
    record {
      told = reader 1 (64 ∷ []) ∷ writer 2 (64 ∷ []) ∷ gets 1 64 ∷ yes (Open 2 64) Answer.Wait [] ∷ [];
      order = 1 ∷ 2 ∷ [];
      favoured = nobody;
    }

-- (g) overlap, 10; the program stays absent, 11
g : Case
unfolding nobody no set
g =
    record {
      told = no (Enter 1 (set (1 ∷ 2 ∷ [])) (set (2 ∷ 3 ∷ [])) no_files) Refusal.ClaimsMeet ∷ no (Open 1 2) Refusal.IsAbsent ∷ [];
      order = [];
      favoured = nobody;
    }

-- (h) drop of an open file, 15
h : Case
unfolding nobody no writer gets
h = record { told = writer 1 (1 ∷ []) ∷ gets 1 1 ∷ no (Drop 1 1) Refusal.IsOpen ∷ []; order = 1 ∷ []; favoured = nobody }

-- (i) close of an unclaimed file, 16
i : Case
unfolding nobody no writer
i = record { told = writer 1 (1 ∷ []) ∷ no (Close 1 2) Refusal.NotOpen ∷ []; order = 1 ∷ []; favoured = nobody }

-- (j) the session
j : Case
unfolding nobody yes set writer gets
j =
    record {
      told =
          writer 1 (1 ∷ 2 ∷ 3 ∷ [])
          ∷ writer 2 (1 ∷ 2 ∷ [])
          ∷ gets 1 1
          ∷ gets 1 3
          ∷ yes (Open 2 2) Answer.Unsafe []
          ∷ yes (Close 1 3) Answer.Done (line Word.Favour 2 2 ∷ [])
          ∷ yes (Enter 3 no_files (set (2 ∷ [])) no_files) Answer.Held []
          ∷ yes (Leave 1) Answer.Done (line Word.Given 2 2 ∷ line Word.Admit 3 0 ∷ [])
          ∷ [];
      order = 2 ∷ 3 ∷ [];
      favoured = nobody;
    }

-- (k) settling gives to the oldest waiter first: 3 waits before 2, and both for file 1
k : Case
unfolding nobody yes writer gets
k =
    record {
      told =
          writer 1 (1 ∷ [])
          ∷ writer 2 (1 ∷ [])
          ∷ writer 3 (1 ∷ [])
          ∷ gets 1 1
          ∷ yes (Open 3 1) Answer.Wait []
          ∷ yes (Open 2 1) Answer.Wait []
          ∷ yes (Close 1 1) Answer.Done (line Word.Given 3 1 ∷ [])
          ∷ [];
      order = 3 ∷ 1 ∷ 2 ∷ [];
      favoured = nobody;
    }

-- (l) the leave of 1 gives 2 its file and favours 4: the held program 3 stays held, 12
l : Case
unfolding yes no set writer gets
l =
    record {
      told =
          writer 1 (1 ∷ 2 ∷ 3 ∷ 5 ∷ [])
          ∷ writer 2 (1 ∷ 2 ∷ 3 ∷ [])
          ∷ writer 4 (1 ∷ 2 ∷ 3 ∷ [])
          ∷ gets 1 1
          ∷ gets 1 5
          ∷ yes (Open 2 2) Answer.Unsafe []
          ∷ yes (Open 4 3) Answer.Unsafe []
          ∷ yes (Close 1 5) Answer.Done (line Word.Favour 2 2 ∷ [])
          ∷ yes (Enter 3 no_files (set (9 ∷ [])) no_files) Answer.Held []
          ∷ yes (Leave 1) Answer.Done (line Word.Given 2 2 ∷ line Word.Favour 4 3 ∷ [])
          ∷ no (Open 3 9) Refusal.IsHeld
          ∷ [];
      order = 2 ∷ 4 ∷ [];
      favoured = 4 ∷ 2 ∷ 0 ∷ [];
    }

-- (m) a leave while 2 is favoured is counted: 3 were admitted, 1 has left; and the board stays sound
m : Case
unfolding yes set writer reader gets
m =
    record {
      told =
          writer 1 (1 ∷ 2 ∷ 3 ∷ [])
          ∷ writer 2 (1 ∷ 2 ∷ [])
          ∷ reader 3 (9 ∷ [])
          ∷ gets 1 1
          ∷ gets 1 3
          ∷ yes (Open 2 2) Answer.Unsafe []
          ∷ yes (Close 1 3) Answer.Done (line Word.Favour 2 2 ∷ [])
          ∷ yes (Leave 3) Answer.Done []
          ∷ yes (Enter 3 no_files (set (9 ∷ [])) no_files) Answer.Held []
          ∷ [];
      order = 1 ∷ 2 ∷ [];
      favoured = 2 ∷ 3 ∷ 1 ∷ [];
    }

-- (n) a leave that leads to favouring is not counted: 2 are admitted after it
n : Case
unfolding yes writer reader gets
n =
    record {
      told =
          writer 1 (1 ∷ 2 ∷ 3 ∷ [])
          ∷ writer 2 (1 ∷ 2 ∷ [])
          ∷ reader 3 (9 ∷ [])
          ∷ gets 1 1
          ∷ yes (Open 2 2) Answer.Unsafe []
          ∷ yes (Leave 3) Answer.Done (line Word.Favour 2 2 ∷ [])
          ∷ [];
      order = 1 ∷ 2 ∷ [];
      favoured = 2 ∷ 2 ∷ 0 ∷ [];
    }

-- (o) a file dropped from Q is claimed no longer, 14, and nobody is held back for it
o : Case
unfolding nobody yes no writer reader gets
o =
    record {
      told =
          reader 1 (1 ∷ [])
          ∷ writer 2 (1 ∷ 2 ∷ [])
          ∷ gets 2 1
          ∷ yes (Drop 1 1) Answer.Done []
          ∷ no (Open 1 1) Refusal.NotClaimed
          ∷ [];
      order = 1 ∷ 2 ∷ [];
      favoured = nobody;
    }

-- (p) each holds back the next, and no two hold back each other: with 3 given to the third there is no order
p : Case
unfolding nobody yes writer gets
p =
    record {
      told =
          writer 1 (1 ∷ 2 ∷ [])
          ∷ writer 2 (2 ∷ 3 ∷ [])
          ∷ writer 3 (3 ∷ 1 ∷ [])
          ∷ gets 1 1
          ∷ gets 2 2
          ∷ yes (Open 3 3) Answer.Unsafe []
          ∷ [];
      order = 2 ∷ 1 ∷ 3 ∷ [];
      favoured = nobody;
    }

-- (q) numbers out of range come first, 8: programs 0 and 33, files 0 and 65
q : Case
unfolding nobody no set writer
q =
    record {
      told =
          writer 1 (1 ∷ [])
          ∷ no (Enter 0 (set (1 ∷ [])) (set (1 ∷ [])) no_files) Refusal.OutOfRange
          ∷ no (Enter 33 no_files no_files no_files) Refusal.OutOfRange
          ∷ no (Open 0 1) Refusal.OutOfRange
          ∷ no (Open 1 0) Refusal.OutOfRange
          ∷ no (Close 1 65) Refusal.OutOfRange
          ∷ no (Drop 33 1) Refusal.OutOfRange
          ∷ no (Leave 0) Refusal.OutOfRange
          ∷ [];
      order = 1 ∷ [];
      favoured = nobody;
    }

-- (r) checks 9 and 13: entered twice; a waiter that asks again
r : Case
unfolding nobody yes no set writer gets
r =
    record {
      told =
          writer 1 (1 ∷ [])
          ∷ writer 2 (1 ∷ [])
          ∷ no (Enter 1 (set (1 ∷ [])) (set (1 ∷ [])) no_files) Refusal.NotAbsent
          ∷ gets 1 1
          ∷ yes (Open 2 1) Answer.Wait []
          ∷ no (Open 2 2) Refusal.IsWaiting
          ∷ [];
      order = 1 ∷ 2 ∷ [];
      favoured = nobody;
    }

-- (s) one settling gives to every waiter that an open would now give to: two readers behind a writer
s : Case
unfolding nobody yes writer reader gets
s =
    record {
      told =
          writer 1 (1 ∷ [])
          ∷ reader 2 (1 ∷ [])
          ∷ reader 3 (1 ∷ [])
          ∷ gets 1 1
          ∷ yes (Open 2 1) Answer.Wait []
          ∷ yes (Open 3 1) Answer.Wait []
          ∷ yes (Close 1 1) Answer.Done (line Word.Given 2 1 ∷ line Word.Given 3 1 ∷ [])
          ∷ [];
      order = 2 ∷ 3 ∷ 1 ∷ [];
      favoured = nobody;
    }

-- (t) settling comes after every release: the drop, the close and the leave of 1 each give a waiter its file
t : Case
unfolding nobody yes writer gets
t =
    record {
      told =
          writer 1 (1 ∷ 2 ∷ 3 ∷ [])
          ∷ writer 2 (1 ∷ 2 ∷ [])
          ∷ writer 4 (3 ∷ [])
          ∷ gets 1 1
          ∷ gets 1 3
          ∷ yes (Open 2 2) Answer.Unsafe []
          ∷ yes (Drop 1 2) Answer.Done (line Word.Given 2 2 ∷ [])
          ∷ yes (Open 2 1) Answer.Wait []
          ∷ yes (Close 1 1) Answer.Done (line Word.Given 2 1 ∷ [])
          ∷ yes (Open 4 3) Answer.Wait []
          ∷ yes (Leave 1) Answer.Done (line Word.Given 4 3 ∷ [])
          ∷ [];
      order = 2 ∷ 4 ∷ [];
      favoured = nobody;
    }

-- (u) held programs run in line order, not by their numbers: 4 was held before 3
u : Case
unfolding nobody yes set writer gets
u =
    record {
      told =
          writer 1 (1 ∷ 2 ∷ 3 ∷ [])
          ∷ writer 2 (1 ∷ 2 ∷ [])
          ∷ gets 1 1
          ∷ gets 1 3
          ∷ yes (Open 2 2) Answer.Unsafe []
          ∷ yes (Close 1 3) Answer.Done (line Word.Favour 2 2 ∷ [])
          ∷ yes (Enter 4 no_files (set (2 ∷ [])) no_files) Answer.Held []
          ∷ yes (Enter 3 (set (5 ∷ [])) no_files no_files) Answer.Held []
          ∷ yes (Leave 1) Answer.Done (line Word.Given 2 2 ∷ line Word.Admit 4 0 ∷ line Word.Admit 3 0 ∷ [])
          ∷ [];
      order = 2 ∷ 3 ∷ 4 ∷ [];
      favoured = nobody;
    }

-- ---- CR 2, cancel

-- 01's session before its last call, 1 and 2 admitted: 2 waits for file 2 and is favoured, 3 is held
favoured2 : List Told → List Told
unfolding yes set writer gets
favoured2 more =
    writer 1 (1 ∷ 2 ∷ 3 ∷ [])
    ∷ writer 2 (1 ∷ 2 ∷ [])
    ∷ gets 1 1
    ∷ gets 1 3
    ∷ yes (Open 2 2) Answer.Unsafe []
    ∷ yes (Close 1 3) Answer.Done (line Word.Favour 2 2 ∷ [])
    ∷ yes (Enter 3 no_files (set (2 ∷ [])) no_files) Answer.Held []
    ∷ more

-- (v) the favoured program is cancelled, and nobody else waits: nobody is favoured any more, and settling lets the held one run
v : Case
unfolding favoured2 nobody yes
v =
    record {
      told = favoured2 (yes (Cancel 2) Answer.Done (line Word.Admit 3 0 ∷ []) ∷ []);
      order = 1 ∷ 3 ∷ [];
      favoured = nobody;
    }

-- (w) a held program is cancelled, which counts nowhere; a running one gets 18, an absent one 11, and 8 comes first
w : Case
unfolding favoured2 yes no
w =
    record {
      told =
          favoured2
          (yes (Cancel 3) Answer.Done []
          ∷ no (Cancel 1) Refusal.IsRunning
          ∷ no (Cancel 3) Refusal.IsAbsent
          ∷ no (Cancel 0) Refusal.OutOfRange
          ∷ no (Cancel 33) Refusal.OutOfRange
          ∷ []);
      order = 1 ∷ 2 ∷ [];
      favoured = 2 ∷ 2 ∷ 0 ∷ [];
    }

-- (x) a waiter is cancelled while another is favoured: it counts as a leave
x : Case
unfolding yes writer gets
x =
    record {
      told =
          writer 1 (1 ∷ 2 ∷ 3 ∷ [])
          ∷ writer 2 (1 ∷ 2 ∷ [])
          ∷ writer 4 (1 ∷ [])
          ∷ gets 1 1
          ∷ gets 1 3
          ∷ yes (Open 4 1) Answer.Wait []
          ∷ yes (Open 2 2) Answer.Unsafe []
          ∷ yes (Close 1 3) Answer.Done (line Word.Favour 2 2 ∷ [])
          ∷ yes (Cancel 4) Answer.Done []
          ∷ [];
      order = 1 ∷ 2 ∷ [];
      favoured = 2 ∷ 3 ∷ 1 ∷ [];
    }

-- (y) the favoured program is cancelled, and the next waiter is favoured by the same call: its numbers begin anew, and 3 stays held
y : Case
unfolding yes set writer gets
y =
    record {
      told =
          writer 1 (1 ∷ 2 ∷ 3 ∷ [])
          ∷ writer 2 (1 ∷ 2 ∷ [])
          ∷ writer 4 (1 ∷ 2 ∷ [])
          ∷ gets 1 1
          ∷ gets 1 3
          ∷ yes (Open 2 2) Answer.Unsafe []
          ∷ yes (Open 4 2) Answer.Unsafe []
          ∷ yes (Close 1 3) Answer.Done (line Word.Favour 2 2 ∷ [])
          ∷ yes (Enter 3 no_files (set (2 ∷ [])) no_files) Answer.Held []
          ∷ yes (Cancel 2) Answer.Done (line Word.Favour 4 2 ∷ [])
          ∷ [];
      order = 1 ∷ 4 ∷ [];
      favoured = 4 ∷ 2 ∷ 0 ∷ [];
    }

-- (z) a waiter with an open file is cancelled, and the file goes to the next who waits for it; the cancel that leads to favouring is not
-- counted; the number is free at once, for a program that is now held
z : Case
unfolding yes set writer gets
z =
    record {
      told =
          writer 1 (1 ∷ 2 ∷ 3 ∷ [])
          ∷ writer 2 (1 ∷ 2 ∷ [])
          ∷ writer 4 (3 ∷ 5 ∷ [])
          ∷ writer 6 (5 ∷ [])
          ∷ gets 1 1
          ∷ gets 1 3
          ∷ gets 4 5
          ∷ yes (Open 2 2) Answer.Unsafe []
          ∷ yes (Open 4 3) Answer.Wait []
          ∷ yes (Open 6 5) Answer.Wait []
          ∷ yes (Cancel 4) Answer.Done (line Word.Given 6 5 ∷ line Word.Favour 2 2 ∷ [])
          ∷ yes (Enter 4 (set (3 ∷ [])) no_files no_files) Answer.Held []
          ∷ [];
      order = 1 ∷ 2 ∷ 6 ∷ [];
      favoured = 2 ∷ 3 ∷ 0 ∷ [];
    }

-- (aa) 1 waits behind readers. Eight pass it; settling alone then favours nobody; the ninth is held and 1 favoured, though its file is in
-- conflicting use. It gets its file with the ninth leave: 8 more than the other programs admitted when its wait began.
aa : Case
unfolding writer reader gets yes set nobody
aa =
    record {
      told =
          reader 2 (1 ∷ [])
          ∷ writer 1 (1 ∷ [])
          ∷ gets 2 1
          ∷ yes (Open 1 1) Answer.Wait []
          ∷ reader 3 (1 ∷ [])
          ∷ reader 4 (1 ∷ [])
          ∷ reader 5 (1 ∷ [])
          ∷ reader 6 (1 ∷ [])
          ∷ reader 7 (1 ∷ [])
          ∷ reader 8 (1 ∷ [])
          ∷ reader 9 (1 ∷ [])
          ∷ reader 10 (1 ∷ [])
          ∷ gets 10 1
          ∷ yes (Close 2 1) Answer.Done []
          ∷ yes (Enter 11 no_files (set (1 ∷ [])) no_files) Answer.Held (line Word.Favour 1 1 ∷ [])
          ∷ yes (Leave 2) Answer.Done []
          ∷ yes (Leave 3) Answer.Done []
          ∷ yes (Leave 4) Answer.Done []
          ∷ yes (Leave 5) Answer.Done []
          ∷ yes (Leave 6) Answer.Done []
          ∷ yes (Leave 7) Answer.Done []
          ∷ yes (Leave 8) Answer.Done []
          ∷ yes (Leave 9) Answer.Done []
          ∷ yes (Leave 10) Answer.Done (line Word.Given 1 1 ∷ line Word.Admit 11 0 ∷ [])
          ∷ yes (Leave 11) Answer.Done []
          ∷ [];
      order = 1 ∷ [];
      favoured = nobody;
    }

-- (bb) settling admits one held program after another: the third stays held, since by then eight have passed 3; 2, which has its file
-- before them, is not passed
bb : Case
unfolding writer reader gets yes
bb =
    record {
      told =
          writer 1 (11 ∷ 12 ∷ 13 ∷ [])
          ∷ writer 2 (11 ∷ 12 ∷ [])
          ∷ writer 3 (1 ∷ [])
          ∷ reader 4 (1 ∷ [])
          ∷ gets 4 1
          ∷ yes (Open 3 1) Answer.Wait []
          ∷ reader 5 []
          ∷ reader 6 []
          ∷ reader 7 []
          ∷ reader 8 []
          ∷ reader 9 []
          ∷ reader 10 []
          ∷ gets 1 11
          ∷ gets 1 13
          ∷ yes (Open 2 12) Answer.Unsafe []
          ∷ yes (Close 1 13) Answer.Done (line Word.Favour 2 12 ∷ [])
          ∷ yes (Enter 11 no_files no_files no_files) Answer.Held []
          ∷ yes (Enter 12 no_files no_files no_files) Answer.Held []
          ∷ yes (Enter 13 no_files no_files no_files) Answer.Held []
          ∷ yes (Leave 1) Answer.Done
          (line Word.Given 2 12 ∷ line Word.Admit 11 0 ∷ line Word.Admit 12 0 ∷ line Word.Favour 3 1 ∷ [])
          ∷ yes (Leave 5) Answer.Done []
          ∷ [];
      order = 2 ∷ 4 ∷ 3 ∷ 6 ∷ 7 ∷ 8 ∷ 9 ∷ 10 ∷ 11 ∷ 12 ∷ [];
      favoured = 3 ∷ 11 ∷ 1 ∷ [];
    }

-- (cc) eight have passed both 2 and 1: the older one is favoured, by enter; when it has its file, the other one, by settling, and 12
-- stays held
cc : Case
unfolding writer reader gets yes
cc =
    record {
      told =
          reader 3 (1 ∷ [])
          ∷ writer 2 (1 ∷ [])
          ∷ writer 1 (1 ∷ [])
          ∷ gets 3 1
          ∷ yes (Open 2 1) Answer.Wait []
          ∷ yes (Open 1 1) Answer.Wait []
          ∷ reader 4 []
          ∷ reader 5 []
          ∷ reader 6 []
          ∷ reader 7 []
          ∷ reader 8 []
          ∷ reader 9 []
          ∷ reader 10 []
          ∷ reader 11 []
          ∷ yes (Enter 12 no_files no_files no_files) Answer.Held (line Word.Favour 2 1 ∷ [])
          ∷ yes (Leave 3) Answer.Done (line Word.Given 2 1 ∷ line Word.Favour 1 1 ∷ [])
          ∷ [];
      order = 2 ∷ 1 ∷ 4 ∷ 5 ∷ 6 ∷ 7 ∷ 8 ∷ 9 ∷ 10 ∷ 11 ∷ [];
      favoured = 1 ∷ 10 ∷ 0 ∷ [];
    }

-- (dd) two have passed 1 when it is given its file. Its count is then 0, and its next wait begins with 0: eight more are admitted.
dd : Case
unfolding writer reader gets yes
dd =
    record {
      told =
          reader 2 (1 ∷ [])
          ∷ writer 1 (1 ∷ [])
          ∷ gets 2 1
          ∷ yes (Open 1 1) Answer.Wait []
          ∷ reader 3 []
          ∷ reader 4 []
          ∷ yes (Close 2 1) Answer.Done (line Word.Given 1 1 ∷ [])
          ∷ yes (Close 1 1) Answer.Done []
          ∷ gets 2 1
          ∷ yes (Open 1 1) Answer.Wait []
          ∷ reader 5 []
          ∷ reader 6 []
          ∷ reader 7 []
          ∷ reader 8 []
          ∷ reader 9 []
          ∷ reader 10 []
          ∷ reader 11 []
          ∷ reader 12 []
          ∷ yes (Enter 13 no_files no_files no_files) Answer.Held (line Word.Favour 1 1 ∷ [])
          ∷ [];
      order = 2 ∷ 1 ∷ 3 ∷ 4 ∷ 5 ∷ 6 ∷ 7 ∷ 8 ∷ 9 ∷ 10 ∷ 11 ∷ 12 ∷ [];
      favoured = 1 ∷ 12 ∷ 0 ∷ [];
    }

-- (ee) one has passed 1 when it is cancelled: the number 1 has no count any more
ee : Case
unfolding writer reader gets yes nobody
ee =
    record {
      told =
          reader 2 (1 ∷ [])
          ∷ writer 1 (1 ∷ [])
          ∷ gets 2 1
          ∷ yes (Open 1 1) Answer.Wait []
          ∷ reader 3 []
          ∷ yes (Cancel 1) Answer.Done []
          ∷ [];
      order = 2 ∷ 3 ∷ [];
      favoured = nobody;
    }

-- (ff) 01's favouring comes first: eight have passed 3, the oldest waiter, and 14 is held, but the file of 6 is in no conflicting use
ff : Case
unfolding writer reader gets yes
ff =
    record {
      told =
          writer 1 (1 ∷ 2 ∷ [])
          ∷ writer 2 (1 ∷ 2 ∷ [])
          ∷ writer 3 (3 ∷ [])
          ∷ reader 4 (3 ∷ [])
          ∷ writer 5 (5 ∷ 6 ∷ [])
          ∷ writer 6 (5 ∷ 6 ∷ [])
          ∷ gets 4 3
          ∷ yes (Open 3 3) Answer.Wait []
          ∷ gets 1 1
          ∷ yes (Open 2 2) Answer.Unsafe []
          ∷ gets 5 5
          ∷ yes (Open 6 6) Answer.Unsafe []
          ∷ reader 7 []
          ∷ reader 8 []
          ∷ reader 9 []
          ∷ reader 10 []
          ∷ reader 11 []
          ∷ reader 12 []
          ∷ reader 13 []
          ∷ reader 14 []
          ∷ yes (Leave 14) Answer.Done (line Word.Favour 2 2 ∷ [])
          ∷ yes (Enter 14 no_files no_files no_files) Answer.Held []
          ∷ yes (Leave 1) Answer.Done (line Word.Given 2 2 ∷ line Word.Favour 6 6 ∷ [])
          ∷ [];
      order = 2 ∷ 4 ∷ 3 ∷ 5 ∷ 6 ∷ 7 ∷ 8 ∷ 9 ∷ 10 ∷ 11 ∷ 12 ∷ 13 ∷ [];
      favoured = 6 ∷ 12 ∷ 0 ∷ [];
    }

-- ---- CR 7

-- (gg) records: given, waited for, handed on to the oldest, a waiter cancelled; 10 for any two claims; 13, 18, 19, 20, 21
gg : Case
unfolding yes no set
gg =
    record {
      told =
          yes (Enter 1 no_files no_files (set (5 ∷ []))) Answer.Admit []
          ∷ yes (Enter 2 no_files no_files (set (5 ∷ []))) Answer.Admit []
          ∷ yes (Enter 3 no_files no_files (set (5 ∷ []))) Answer.Admit []
          ∷ yes (Open 1 5) Answer.Given []
          ∷ yes (Open 2 5) Answer.Given []
          ∷ yes (Open 3 5) Answer.Given []
          ∷ no (Enter 4 (set (5 ∷ [])) no_files (set (5 ∷ []))) Refusal.ClaimsMeet
          ∷ no (Enter 4 no_files (set (5 ∷ [])) (set (5 ∷ []))) Refusal.ClaimsMeet
          ∷ no (Enter 4 (set (5 ∷ [])) (set (5 ∷ [])) no_files) Refusal.ClaimsMeet
          ∷ no (Fetch 1 5 0) Refusal.BadRecord
          ∷ no (Fetch 1 5 65536) Refusal.BadRecord
          ∷ no (Fetch 30 5 0) Refusal.BadRecord
          ∷ no (Fetch 33 5 0) Refusal.OutOfRange
          ∷ no (Fetch 30 5 1) Refusal.IsAbsent
          ∷ no (Fetch 1 6 7) Refusal.NoRecord
          ∷ no (Return 1) Refusal.NoRecord
          ∷ yes (Fetch 1 5 7) Answer.Given []
          ∷ yes (Fetch 2 5 7) Answer.Wait []
          ∷ yes (Fetch 3 5 7) Answer.Wait []
          ∷ no (Fetch 1 5 8) Refusal.HasRecord
          ∷ no (Close 1 5) Refusal.HasRecord
          ∷ no (Open 1 60) Refusal.HasRecord
          ∷ no (Close 1 60) Refusal.HasRecord
          ∷ no (Fetch 1 60 8) Refusal.HasRecord
          ∷ no (Return 2) Refusal.IsWaiting
          ∷ no (Close 2 5) Refusal.IsWaiting
          ∷ no (Open 2 60) Refusal.IsWaiting
          ∷ no (Drop 2 60) Refusal.IsWaiting
          ∷ no (Fetch 2 60 8) Refusal.IsWaiting
          ∷ no (Drop 1 60) Refusal.HasRecord
          ∷ no (Cancel 1) Refusal.IsRunning
          ∷ yes (Return 1) Answer.Done (line_of Word.Given 2 5 7 ∷ [])
          ∷ yes (Cancel 3) Answer.Done []
          ∷ yes (Return 2) Answer.Done []
          ∷ [];
      order = 1 ∷ 2 ∷ [];
      favoured = 0 ∷ 0 ∷ 0 ∷ [];
    }

-- (hh) inquiry against reading and writing; 10; a leave returns the record
hh : Case
unfolding yes no set
hh =
    record {
      told =
          no (Enter 1 (set (1 ∷ [])) no_files (set (1 ∷ []))) Refusal.ClaimsMeet
          ∷ yes (Enter 1 no_files no_files (set (1 ∷ []))) Answer.Admit []
          ∷ yes (Enter 2 no_files (set (1 ∷ [])) no_files) Answer.Admit []
          ∷ yes (Enter 3 (set (1 ∷ [])) no_files no_files) Answer.Admit []
          ∷ yes (Open 1 1) Answer.Given []
          ∷ yes (Open 2 1) Answer.Wait []
          ∷ yes (Open 3 1) Answer.Wait []
          ∷ yes (Fetch 1 1 65535) Answer.Given []
          ∷ no (Fetch 1 1 65536) Refusal.BadRecord
          ∷ no (Drop 1 1) Refusal.HasRecord
          ∷ yes (Leave 1) Answer.Done (line_of Word.Given 2 1 0 ∷ [])
          ∷ [];
      order = 2 ∷ 3 ∷ [];
      favoured = 0 ∷ 0 ∷ 0 ∷ [];
    }

-- (ii) a return settles: the waiter for want of an order is favoured
ii : Case
unfolding yes no set
ii =
    record {
      told =
          yes (Enter 1 (set (1 ∷ 2 ∷ 3 ∷ [])) no_files no_files) Answer.Admit []
          ∷ yes (Enter 2 (set (1 ∷ 2 ∷ [])) no_files no_files) Answer.Admit []
          ∷ yes (Enter 3 no_files no_files (set (9 ∷ []))) Answer.Admit []
          ∷ yes (Open 1 1) Answer.Given []
          ∷ yes (Open 3 9) Answer.Given []
          ∷ yes (Fetch 3 9 1) Answer.Given []
          ∷ yes (Open 2 2) Answer.Unsafe []
          ∷ yes (Return 3) Answer.Done (line_of Word.Favour 2 2 0 ∷ [])
          ∷ yes (Enter 4 no_files no_files no_files) Answer.Held []
          ∷ yes (Leave 1) Answer.Done (line_of Word.Given 2 2 0 ∷ line_of Word.Admit 4 0 0 ∷ [])
          ∷ [];
      order = 2 ∷ 3 ∷ 4 ∷ [];
      favoured = 0 ∷ 0 ∷ 0 ∷ [];
    }

-- (jj) a leave hands on the record, and then the board settles
jj : Case
unfolding yes no set
jj =
    record {
      told =
          yes (Enter 1 (set (6 ∷ [])) no_files (set (5 ∷ []))) Answer.Admit []
          ∷ yes (Enter 2 no_files no_files (set (5 ∷ []))) Answer.Admit []
          ∷ yes (Enter 3 (set (6 ∷ [])) no_files no_files) Answer.Admit []
          ∷ yes (Open 1 5) Answer.Given []
          ∷ yes (Open 2 5) Answer.Given []
          ∷ yes (Open 1 6) Answer.Given []
          ∷ yes (Open 3 6) Answer.Wait []
          ∷ yes (Fetch 1 5 2) Answer.Given []
          ∷ yes (Fetch 2 5 2) Answer.Wait []
          ∷ yes (Leave 1) Answer.Done (line_of Word.Given 2 5 2 ∷ line_of Word.Given 3 6 0 ∷ [])
          ∷ [];
      order = 2 ∷ 3 ∷ [];
      favoured = 0 ∷ 0 ∷ 0 ∷ [];
    }

-- (kk) a wait for a record is counted, and favoured after 8 admissions; it gets the record, and the held one runs
kk : Case
unfolding yes no set
kk =
    record {
      told =
          yes (Enter 1 no_files no_files (set (5 ∷ []))) Answer.Admit []
          ∷ yes (Enter 2 no_files no_files (set (5 ∷ []))) Answer.Admit []
          ∷ yes (Open 1 5) Answer.Given []
          ∷ yes (Open 2 5) Answer.Given []
          ∷ yes (Fetch 1 5 3) Answer.Given []
          ∷ yes (Fetch 2 5 3) Answer.Wait []
          ∷ yes (Enter 3 no_files no_files no_files) Answer.Admit []
          ∷ yes (Leave 3) Answer.Done []
          ∷ yes (Enter 3 no_files no_files no_files) Answer.Admit []
          ∷ yes (Leave 3) Answer.Done []
          ∷ yes (Enter 3 no_files no_files no_files) Answer.Admit []
          ∷ yes (Leave 3) Answer.Done []
          ∷ yes (Enter 3 no_files no_files no_files) Answer.Admit []
          ∷ yes (Leave 3) Answer.Done []
          ∷ yes (Enter 3 no_files no_files no_files) Answer.Admit []
          ∷ yes (Leave 3) Answer.Done []
          ∷ yes (Enter 3 no_files no_files no_files) Answer.Admit []
          ∷ yes (Leave 3) Answer.Done []
          ∷ yes (Enter 3 no_files no_files no_files) Answer.Admit []
          ∷ yes (Leave 3) Answer.Done []
          ∷ yes (Enter 3 no_files no_files no_files) Answer.Admit []
          ∷ yes (Leave 3) Answer.Done []
          ∷ yes (Enter 3 no_files no_files no_files) Answer.Held (line_of Word.Favour 2 5 3 ∷ [])
          ∷ yes (Return 1) Answer.Done (line_of Word.Given 2 5 3 ∷ line_of Word.Admit 3 0 0 ∷ [])
          ∷ [];
      order = 1 ∷ 2 ∷ 3 ∷ [];
      favoured = 0 ∷ 0 ∷ 0 ∷ [];
    }

-- (ll) two records of one file are awaited: what is returned goes to the oldest waiter for it, and nobody else's wait ends
ll : Case
unfolding yes set
ll =
    record {
      told =
          yes (Enter 1 no_files no_files (set (5 ∷ []))) Answer.Admit []
          ∷ yes (Enter 2 no_files no_files (set (5 ∷ []))) Answer.Admit []
          ∷ yes (Enter 3 no_files no_files (set (5 ∷ []))) Answer.Admit []
          ∷ yes (Enter 4 no_files no_files (set (5 ∷ 6 ∷ []))) Answer.Admit []
          ∷ yes (Open 1 5) Answer.Given []
          ∷ yes (Open 2 5) Answer.Given []
          ∷ yes (Open 3 5) Answer.Given []
          ∷ yes (Open 4 5) Answer.Given []
          ∷ yes (Open 4 6) Answer.Given []
          ∷ yes (Fetch 1 5 1) Answer.Given []
          ∷ yes (Fetch 4 6 1) Answer.Given []
          ∷ yes (Return 4) Answer.Done []
          ∷ yes (Fetch 2 5 2) Answer.Given []
          ∷ yes (Fetch 3 5 1) Answer.Wait []
          ∷ yes (Fetch 4 5 2) Answer.Wait []
          ∷ yes (Return 2) Answer.Done (line_of Word.Given 4 5 2 ∷ [])
          ∷ yes (Fetch 2 5 1) Answer.Wait []
          ∷ yes (Return 1) Answer.Done (line_of Word.Given 3 5 1 ∷ [])
          ∷ [];
      order = 1 ∷ 2 ∷ 3 ∷ 4 ∷ [];
      favoured = 0 ∷ 0 ∷ 0 ∷ [];
    }

-- (mm) a file open for inquiry: 15 while it is open, 16 and 14 once it is closed and dropped; a file that is claimed, or open for reading, gives no
-- record, 20; a return leaves the file open
mm : Case
unfolding yes no set nobody
mm =
    record {
      told =
          yes (Enter 3 no_files (set (8 ∷ [])) (set (9 ∷ []))) Answer.Admit []
          ∷ yes (Open 3 8) Answer.Given []
          ∷ no (Fetch 3 8 1) Refusal.NoRecord
          ∷ no (Fetch 3 9 1) Refusal.NoRecord
          ∷ yes (Open 3 9) Answer.Given []
          ∷ no (Open 3 9) Refusal.IsOpen
          ∷ no (Drop 3 9) Refusal.IsOpen
          ∷ yes (Fetch 3 9 1) Answer.Given []
          ∷ yes (Return 3) Answer.Done []
          ∷ yes (Fetch 3 9 2) Answer.Given []
          ∷ yes (Return 3) Answer.Done []
          ∷ yes (Close 3 9) Answer.Done []
          ∷ no (Close 3 9) Refusal.NotOpen
          ∷ yes (Drop 3 9) Answer.Done []
          ∷ no (Open 3 9) Refusal.NotClaimed
          ∷ [];
      order = 3 ∷ [];
      favoured = nobody;
    }

-- (nn) a fetch does not settle, given or waiting; a record's user enters, 9; 8, 11 and 12 of FETCH and RETURN, 8 before 19; a held program keeps
-- its inquiry claim
nn : Case
unfolding yes no set writer gets nobody
nn =
    record {
      told =
          writer 1 (1 ∷ 2 ∷ [])
          ∷ writer 2 (1 ∷ 2 ∷ [])
          ∷ yes (Enter 3 no_files no_files (set (9 ∷ []))) Answer.Admit []
          ∷ yes (Enter 5 no_files no_files (set (9 ∷ []))) Answer.Admit []
          ∷ gets 3 9
          ∷ gets 5 9
          ∷ gets 1 1
          ∷ yes (Open 2 2) Answer.Unsafe []
          ∷ yes (Fetch 3 9 1) Answer.Given []
          ∷ yes (Fetch 5 9 1) Answer.Wait []
          ∷ no (Enter 3 no_files no_files no_files) Refusal.NotAbsent
          ∷ yes (Return 3) Answer.Done (line_of Word.Given 5 9 1 ∷ line Word.Favour 2 2 ∷ [])
          ∷ yes (Enter 6 no_files no_files (set (9 ∷ []))) Answer.Held []
          ∷ no (Fetch 6 9 2) Refusal.IsHeld
          ∷ no (Return 6) Refusal.IsHeld
          ∷ no (Return 7) Refusal.IsAbsent
          ∷ no (Return 0) Refusal.OutOfRange
          ∷ no (Return 33) Refusal.OutOfRange
          ∷ no (Fetch 3 0 1) Refusal.OutOfRange
          ∷ no (Fetch 3 65 0) Refusal.OutOfRange
          ∷ yes (Leave 1) Answer.Done (line Word.Given 2 2 ∷ line Word.Admit 6 0 ∷ [])
          ∷ gets 6 9
          ∷ [];
      order = 2 ∷ 3 ∷ 5 ∷ 6 ∷ [];
      favoured = nobody;
    }

pub table : List Case
unfolding a b c d e f g h i j k l m n o p q r s t u v w x y z aa bb cc dd ee ff gg hh ii jj kk ll mm nn
table =
    a ∷ b ∷ c ∷ d ∷ e ∷ f ∷ g ∷ h ∷ i ∷ j ∷ k ∷ l ∷ m ∷ n ∷ o ∷ p ∷ q ∷ r ∷ s ∷ t ∷ u ∷ v ∷ w ∷ x ∷ y ∷ z
    ∷ aa ∷ bb ∷ cc ∷ dd ∷ ee ∷ ff ∷ gg ∷ hh ∷ ii ∷ jj ∷ kk ∷ ll ∷ mm ∷ nn ∷ []

-- the calls of a case
pub calls : Case → List Call
calls k = map (λ (x : Told). x.call) k.told

-- the table is what its calls come to
computed : map (λ (k : Case). outcome (calls k)) table ≡ table
unfolding outcome table calls
computed = refl

-- and the board after (ee) is sound: it has no count of one who is absent
ee-sound : sound (worked (calls ee)) ≡ true
unfolding any all keep first padded rising listed distinct without same names
    everyone admitted tallied touching opening closing dropping
    held_back carried_from carried with_given in_use safe can_give
    sets_sound standing_sound may_have item_sound program_sound no_conflict line_sound waiter_sound uses_differ awaited_in_use
    none_favoured some_favoured count_sound sound
    taken hand_to hand_on fetch_check return_check wait_item fetch finish return_item
    unfavour resume try_give pass candidate favour overdue admit_held run_held choose settle
    reply refuse enter_check open_check close_check leave_check cancel_check
    admit hold hold_for enter wait open_file done close_file drop_file count_leave leave count_cancel cancel apply
    worked_from worked calls ee
ee-sound = refl

a-holds : outcome (calls a) ≡ a
unfolding outcome a calls
a-holds = refl

-- each case of the table is what its calls come to (past the end of the table stands case a)
pub table-holds : (i : ℕ) → outcome (calls (get_or table i a)) ≡ get_or table i a
table-holds i =
    sym (get_or-map (λ (k : Case). outcome (calls k)) table i a)
    ∙ ap (λ (l : List Case). get_or l i (outcome (calls a))) computed
    ∙ ap (get_or table i) a-holds
