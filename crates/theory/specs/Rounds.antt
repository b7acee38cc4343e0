-- Running the order through (02, CR 4): a round, n rounds, and what is said of them after every list of calls: `RunsThrough`.
-- `run-through` of RoundsProof proves it.
-- Assumes nothing.
use Rattle.std.specs.Prelude.{ℕ, zero, suc, ◌<◌, ◌+◌, ◌≡◌, ◌↔◌, Bool, true, false, not, ◌&&◌, List, [], ◌∷◌, ◌++◌, map, length, replicate}
use Rattle.std.proofs.Math.Option.{get_or, some}
use Rattle.rules.specs.declared.Program.{Program}
use Rattle.rules.specs.declared.Board.{Board}
use Rattle.rules.specs.declared.Answer.{Answer}
use Rattle.rules.specs.declared.Reply.{Reply}
use Rattle.laws.specs.Lists.{keep, rising, without}
use Rattle.rules.specs.Boards.{is_absent, is_held, empty_board, everyone, at, admitted, claims, has_open}
use Rattle.rules.specs.Orders.{carried}
use Rattle.rules.specs.Soundness.{sound}
use Rattle.rules.specs.Replies.{order_of}
use Rattle.rules.specs.Calls.{Call, Open, Leave, apply}
use Rattle.rules.specs.Worked.{worked, replies_from, direct_from}
use Rattle.laws.specs.Laws.{◌∈◌, Pairs}
use Rattle.theory.specs.Programs.{Is, Sized}
use Rattle.theory.specs.Records.{Uses}
use Rattle.theory.specs.Sizes.{Counts32}

-- ══ Definitions ══

-- What the calls so far have left: the board, and the order of completion in the last answer.
pub record Latest : Type 0 where
  pub board : Board
  pub order : List ℕ

-- Before any call: the empty board, and no order, since nothing was answered.
abbrev pub start : Latest
start = record { board = empty_board; order = [] }

-- After one more call.
abbrev pub answered : Reply → Latest
answered r = record { board = r.board; order = order_of r }

-- After further calls, to which the rules are applied one after another.
unfoldable pub after : Latest → List Call → Latest
after l [] = l
after l (c ∷ cs) = after (answered (apply l.board c)) cs

-- "each claimed file that it hasn't open, rising": over the three claims together
unfoldable pub to_open : Program → List ℕ
to_open q = keep (λ f. claims q f && not (has_open q f)) (rising 64 1)

-- p "opens each claimed file that it hasn't open, rising, then leaves"
unfoldable pub finishing : Board → ℕ → List Call
finishing b p = map (Open p) (to_open (at b p)) ++ (Leave p ∷ [])

-- "In a round the order's first program opens each claimed file that it hasn't open, rising, then leaves." With an empty order no call is made.
abbrev pub round_with : Board → List ℕ → List Call
round_with b [] = []
round_with b (p ∷ rest) = finishing b p

-- a round, with the order read from the last answer
unfoldable pub round : Latest → List Call
round l = round_with l.board l.order

-- "letting the carried order's first program finish, then the new one's, and so on": n rounds from l on, as one list of calls
unfoldable pub rounds : ℕ → Latest → List Call
rounds zero l = []
rounds (suc n) l = let cs = rounds n l in cs ++ round (after l cs)

-- the answers to calls that the rules are applied with, from b on
abbrev pub answers_from : Board → List Call → List Answer
answers_from b cs = map (λ (r : Reply). r.answer) (replies_from b cs)

-- the held programs, rising
unfoldable pub held : Board → List ℕ
held b = keep (λ p. is_held (at b p).standing) everyone

-- "n programs, held ones included": the number of the admitted and the held
abbrev pub programs_on : Board → ℕ
programs_on b = length (admitted b) + length (held b)

-- p is on the board: admitted or held
abbrev pub is_present : Board → ℕ → Bool
is_present b p = not (is_absent (at b p).standing)

-- the programs on the board, rising
unfoldable pub present : Board → List ℕ
present b = keep (is_present b) everyone

-- ══ What is said of them ══

-- "each claimed file that it hasn't open", and no other, "rising". `each_to_open` and `to_open_rising` of RoundsOpens prove it.
abbrev pub EachToOpen : Type 0
EachToOpen = (q : Program) (f : ℕ) → (f ∈ to_open q) ↔ ((claims q f ≡ true) × (has_open q f ≡ false))

abbrev pub ToOpenRising : Type 0
ToOpenRising = (q : Program) → Pairs (λ f g. f < g) (to_open q)

-- One round.
pub record Round (l : Latest) : Type 0 where
  -- "the carried order" and "the order's first program"
  pub carries : carried l.board ≡ some l.order
  pub first : ℕ
  pub rest : List ℕ
  pub order : l.order ≡ first ∷ rest
  -- "No such open waits", nor is one refused: each open is answered GIVEN, and the leave DONE.
  pub answers : answers_from l.board (round l) ≡ replicate (length (to_open (at l.board first))) Answer.Given ++ (Answer.Done ∷ [])
  -- It has gone, and no other program has, admitted or held.
  pub others_stay : present (after l (round l)).board ≡ without first (present l.board)
  pub one_fewer : programs_on l.board ≡ suc (programs_on (after l (round l)).board)

-- "n rounds for n programs": what round k + 1 begins with is what k rounds have left.
pub record Emptied (l : Latest) : Type 0 where
  pub each-round : (k : ℕ) → k < programs_on l.board → Round (after l (rounds k l))
  -- The board is then the constant, the same in every part: 32 absent programs with empty sets, both lines 0 throughout, nobody favoured,
  -- both numbers and all counts 0. The order in the last answer is empty.
  pub empties : after l (rounds (programs_on l.board) l) ≡ start

-- "CR 4 begins with no record in use."
abbrev pub NoneInUse : Board → Type 0
NoneInUse b = (i f r : ℕ) → Is i → Uses (at b i) f r → ⊥

-- "this empties every board reached from the empty one": after the calls cs, with no record in use.
pub record RunsThrough (cs : List Call) : Type 0 where
  pub on-worked : (after start cs).board ≡ worked cs
  pub emptied : Emptied (after start cs)
  -- The same as one list: the calls cs, then those of the rounds. Direct calls, each handed the board that the one before it gave back,
  -- reply so.
  pub worked-empty : worked (cs ++ rounds (programs_on (worked cs)) (after start cs)) ≡ empty_board
  pub direct-calls : direct_from empty_board (cs ++ rounds (programs_on (worked cs)) (after start cs))
      ≡ replies_from empty_board (cs ++ rounds (programs_on (worked cs)) (after start cs))

-- Beyond 02: the same of every sound board without a record in use, with its carried order, as an image holds it. `sound-emptied` proves it.
abbrev pub SoundEmptied : Type 0
SoundEmptied = (b : Board) → Sized b.programs → Counts32 b → sound b ≡ true → NoneInUse b
    → Emptied (record { board = b; order = get_or (carried b) [] })
