-- A board with waiters, a favoured one and held ones is run through to the empty board (02, CR 4): each call with its answer, its lines of
-- settling and its order, computed from the definitions.
-- Assumes nothing.
use Prim.Native.Nat.{ℕ}
use mathlib.Core.Path.{◌≡◌, refl}
use mathlib.Core.List.{List, [], ◌∷◌, map}
use Rattle.rules.specs.declared.Board.{Board}
use Rattle.rules.specs.declared.Answer.{Answer}
use Rattle.rules.specs.declared.Word.{Word}
use Rattle.rules.specs.declared.Line.{Line}
use Rattle.laws.specs.Lists.{any, all, keep, first, padded, rising, without, names}
use Rattle.rules.specs.Modes.{touching}
use Rattle.rules.specs.Boards.{empty_board, everyone, admitted, tallied, opening, closing, dropping}
use Rattle.rules.specs.Orders.{held_back, carried_from, carried, with_given, in_use, safe, can_give}
use Rattle.rules.specs.Settling.{line, unfavour, resume, try_give, pass, hand_to, hand_on, candidate, favour, overdue, admit_held, run_held, choose, settle}
use Rattle.rules.specs.Replies.{reply, refuse, lines_of, order_of}
use Rattle.rules.specs.Checks.{enter_check, open_check, close_check, leave_check, cancel_check}
use Rattle.rules.specs.Calls.{admit, hold, hold_for, enter, wait, open_file, finish, done, close_file, drop_file, count_leave, leave, count_cancel, cancel, apply}
use Rattle.rules.specs.Calls.{Call, Enter, Open, Close, Leave, Cancel}
use Rattle.rules.proofs.Tables.{set}
use Rattle.theory.specs.Rounds.{Latest, start, after, to_open, finishing, round, rounds, held, programs_on}

-- a call, its answer, all its lines, and the order in its answer
record Told : Type 0 where
  call : Call
  answer : Answer
  lines : List Line
  order : List ℕ

told_from : Board → List Call → List Told
unfolding any all keep first padded rising without names
    everyone admitted tallied touching opening closing dropping
    held_back carried_from carried with_given in_use safe can_give
    unfavour resume try_give pass hand_to hand_on candidate favour overdue admit_held run_held choose settle
    reply refuse enter_check open_check close_check leave_check cancel_check
    admit hold hold_for enter wait open_file finish done close_file drop_file count_leave leave count_cancel cancel apply
told_from b [] = []
told_from b (c ∷ cs) =
    let r = apply b c in
    record { call = c; answer = r.answer; lines = lines_of r; order = order_of r } ∷ told_from r.board cs

calls : List Told → List Call
calls = map (λ (t : Told). t.call)

-- ---- words for the table

enters : ℕ → List ℕ → List ℕ → List ℕ → Told
unfolding set
enters p v q o = record { call = Enter p (set v) (set q) (set []); answer = Answer.Admit; lines = line Word.Admit p 0 ∷ []; order = o }

is_held : ℕ → List ℕ → List ℕ → List ℕ → Told
unfolding set
is_held p v q o = record { call = Enter p (set v) (set q) (set []); answer = Answer.Held; lines = line Word.Held p 0 ∷ []; order = o }

gets : ℕ → ℕ → List ℕ → Told
gets p f o = record { call = Open p f; answer = Answer.Given; lines = line Word.Given p f ∷ []; order = o }

-- it leaves, and settling has these lines
leaves : ℕ → List Line → List ℕ → Told
leaves p ls o = record { call = Leave p; answer = Answer.Done; lines = line Word.Done p 0 ∷ ls; order = o }

-- ---- the day: 2 and 4 wait, since no order would be left, 8 for a file in use; 2 is favoured, 3 and 6 are held, 7 was cancelled

day : List Told
unfolding enters is_held gets
day =
    enters 1 (1 ∷ 2 ∷ 3 ∷ []) [] (1 ∷ [])
    ∷ enters 2 (1 ∷ 2 ∷ []) [] (1 ∷ 2 ∷ [])
    ∷ enters 4 (5 ∷ 6 ∷ []) [] (1 ∷ 2 ∷ 4 ∷ [])
    ∷ enters 5 (5 ∷ 6 ∷ []) [] (1 ∷ 2 ∷ 4 ∷ 5 ∷ [])
    ∷ enters 8 [] (1 ∷ []) (1 ∷ 2 ∷ 4 ∷ 5 ∷ 8 ∷ [])
    ∷ gets 1 1 (1 ∷ 2 ∷ 4 ∷ 5 ∷ 8 ∷ [])
    ∷ gets 1 3 (1 ∷ 2 ∷ 4 ∷ 5 ∷ 8 ∷ [])
    ∷ gets 5 5 (1 ∷ 2 ∷ 5 ∷ 4 ∷ 8 ∷ [])
    ∷ record { call = Open 2 2; answer = Answer.Unsafe; lines = line Word.Unsafe 2 2 ∷ []; order = 1 ∷ 2 ∷ 5 ∷ 4 ∷ 8 ∷ [] }
    ∷ record { call = Open 4 6; answer = Answer.Unsafe; lines = line Word.Unsafe 4 6 ∷ []; order = 1 ∷ 2 ∷ 5 ∷ 4 ∷ 8 ∷ [] }
    ∷ record { call = Open 8 1; answer = Answer.Wait; lines = line Word.Wait 8 1 ∷ []; order = 1 ∷ 2 ∷ 5 ∷ 4 ∷ 8 ∷ [] }
    ∷ record {
      call = Close 1 3;
      answer = Answer.Done;
      lines = line Word.Done 1 3 ∷ line Word.Favour 2 2 ∷ [];
      order = 1 ∷ 2 ∷ 5 ∷ 4 ∷ 8 ∷ [];
    }
    ∷ is_held 3 [] (2 ∷ []) (1 ∷ 2 ∷ 5 ∷ 4 ∷ 8 ∷ [])
    ∷ is_held 6 (4 ∷ []) (1 ∷ 5 ∷ []) (1 ∷ 2 ∷ 5 ∷ 4 ∷ 8 ∷ [])
    ∷ is_held 7 [] [] (1 ∷ 2 ∷ 5 ∷ 4 ∷ 8 ∷ [])
    ∷ record { call = Cancel 7; answer = Answer.Done; lines = line Word.Done 7 0 ∷ []; order = 1 ∷ 2 ∷ 5 ∷ 4 ∷ 8 ∷ [] }
    ∷ []

day-holds : told_from empty_board (calls day) ≡ day
unfolding told_from calls day
day-holds = refl

-- ---- its end: seven rounds for five admitted and two held

through : List Told
unfolding gets leaves
through =
    -- 1 has 1 open already; 2 and 8 get their files, and 4 is favoured; 3 and 6 stay held
    gets 1 2 (1 ∷ 2 ∷ 5 ∷ 4 ∷ 8 ∷ [])
    ∷ gets 1 3 (1 ∷ 2 ∷ 5 ∷ 4 ∷ 8 ∷ [])
    ∷ leaves 1 (line Word.Given 2 2 ∷ line Word.Given 8 1 ∷ line Word.Favour 4 6 ∷ []) (5 ∷ 4 ∷ 8 ∷ 2 ∷ [])
    -- 8 now holds back 2, and 5 holds back 4: the first is 5; then the held ones run
    ∷ gets 5 6 (5 ∷ 4 ∷ 8 ∷ 2 ∷ [])
    ∷ leaves 5 (line Word.Given 4 6 ∷ line Word.Admit 3 0 ∷ line Word.Admit 6 0 ∷ []) (4 ∷ 6 ∷ 8 ∷ 2 ∷ 3 ∷ [])
    ∷ gets 4 5 (4 ∷ 6 ∷ 8 ∷ 2 ∷ 3 ∷ [])
    ∷ leaves 4 [] (6 ∷ 8 ∷ 2 ∷ 3 ∷ [])
    -- rising over both claims together: 4 to write between 1 and 5 to read
    ∷ gets 6 1 (6 ∷ 8 ∷ 2 ∷ 3 ∷ [])
    ∷ gets 6 4 (6 ∷ 8 ∷ 2 ∷ 3 ∷ [])
    ∷ gets 6 5 (6 ∷ 8 ∷ 2 ∷ 3 ∷ [])
    ∷ leaves 6 [] (8 ∷ 2 ∷ 3 ∷ [])
    -- nothing left to open
    ∷ leaves 8 [] (2 ∷ 3 ∷ [])
    ∷ gets 2 1 (2 ∷ 3 ∷ [])
    ∷ leaves 2 [] (3 ∷ [])
    ∷ gets 3 2 (3 ∷ [])
    ∷ leaves 3 [] []
    ∷ []

-- the end of the day, as it stands before the rounds
evening : Latest
unfolding after calls day
evening = after start (calls day)

seven : programs_on evening.board ≡ 7
unfolding evening told_from held
seven = refl

through-holds : told_from evening.board (rounds 7 evening) ≡ through
unfolding evening told_from through after to_open finishing round rounds
through-holds = refl

empty_then : after evening (rounds 7 evening) ≡ start
unfolding evening told_from after to_open finishing round rounds
empty_then = refl

-- one round less leaves a program
three_left : admitted (after evening (rounds 6 evening)).board ≡ 3 ∷ []
unfolding evening told_from after to_open finishing round rounds admitted
three_left = refl
