-- What demand 3 says of a list of calls, as one record, `Demand3`. `demand3` of Demand3Proof proves it of every non-empty list.
-- Assumes nothing.
use Rattle.std.specs.Prelude.{ℕ, ◌+◌, ◌≤◌, ◌≡◌, ◌↔◌, ◌≢◌, ◌⊎◌, true, false, cond, List, [], ◌∷◌, ◌++◌, eqb, length}
use Rattle.rules.specs.declared.Board.{Board}
use Rattle.rules.specs.declared.Answer.{Answer}
use Rattle.rules.specs.declared.Word.{Word}
use Rattle.rules.specs.declared.Reply.{Reply}
use Rattle.rules.specs.Boards.{is_waiting, is_admitted, empty_board, at, admitted, opening}
use Rattle.rules.specs.Orders.{conflict, holds_back, with_given}
use Rattle.rules.specs.Settling.{line_of}
use Rattle.rules.specs.Replies.{settling_lines, refused, lines_of, order_of}
use Rattle.rules.specs.Calls.{Call, Enter, Open, Close, Drop, Leave, Cancel, Fetch, Return, apply}
use Rattle.rules.specs.Worked.{worked, replies_from, direct_from}
use Rattle.laws.specs.Laws.{◌∈◌}
use Rattle.theory.specs.Order.{Names}
use Rattle.theory.specs.Programs.{Is}
use Rattle.theory.specs.Carried.{EveryOrderHeld}
use Rattle.theory.specs.Records.{Uses}
use Rattle.theory.specs.Worked.{AwaitsInUse}

-- ══ The words of demand 3 ══

-- The worked reply to the call c that comes after the calls xs of the list.
abbrev pub reply_after : List Call → Call → Reply
reply_after xs c = apply (worked xs) c

-- "A call is accepted if it isn't refused."
abbrev pub Accepted : List Call → Call → Type 0
Accepted xs c = refused (reply_after xs c).answer ≡ false

-- "An accepted open waits if its answer is WAIT or UNSAFE."
abbrev pub Waits : Answer → Type 0
Waits a = (a ≡ Answer.Wait) ⊎ (a ≡ Answer.Unsafe)

-- "Another program has f in conflicting use if, with f given, it and p would conflict."
abbrev pub ConflictingUse : Board → ℕ → ℕ → Type 0
ConflictingUse b p f = (i : ℕ) × Is i × (i ≢ p) × (conflict (at b i) (opening (at b p) f) ≡ true)

-- The number of programs admitted after the calls xs.
abbrev pub admitted_after : List Call → ℕ
admitted_after xs = length (admitted (worked xs))

-- 1 if the call counts as a leave while p is favoured, and 0 otherwise; xs are the calls before it. An accepted leave counts. So does an
-- accepted cancel of an admitted program that isn't p: "A cancelled favoured program is favoured no longer. Otherwise a cancel of an admitted
-- program counts as a leave, also in the bound for favoured programs ..; a cancel of a held one counts nowhere."
abbrev pub accepted_leave : ℕ → List Call → Call → ℕ
accepted_leave p xs (Enter q v r j) = 0
accepted_leave p xs (Open q f) = 0
accepted_leave p xs (Close q f) = 0
accepted_leave p xs (Drop q f) = 0
accepted_leave p xs (Leave q) = cond (refused (reply_after xs (Leave q)).answer) 0 1
accepted_leave p xs (Cancel q) =
    cond (refused (reply_after xs (Cancel q)).answer) 0
    (cond (eqb p q) 0 (cond (is_admitted (at (worked xs) q).standing) 1 0))
accepted_leave p xs (Fetch q f r) = 0
accepted_leave p xs (Return q) = 0

-- The number of those calls among ys, which come after the calls xs.
unfoldable pub leaves_in : ℕ → List Call → List Call → ℕ
leaves_in p xs [] = 0
leaves_in p xs (c ∷ ys) = accepted_leave p xs c + leaves_in p (xs ++ (c ∷ [])) ys

-- p is favoured before the first of the calls ys, which come after the calls xs, and after each of them.
abbrev pub FavouredThrough : List Call → List Call → ℕ → Type 0
FavouredThrough xs ys p = (us vs : List Call) → ys ≡ us ++ vs → (worked (xs ++ us)).favoured ≡ p

-- Another program than p has the record r of f in use.
abbrev pub RecordTaken : Board → ℕ → ℕ → ℕ → Type 0
RecordTaken b p f r = (i : ℕ) × Is i × (i ≢ p) × Uses (at b i) f r

-- The call c asks, for p, for the file f (an open, r being 0), or for the record r of f (a fetch).
abbrev pub AsksFor : Call → ℕ → ℕ → ℕ → Type 0
AsksFor c p f r = ((c ≡ Open p f) × (r ≡ 0)) ⊎ ((c ≡ Fetch p f r) × (r ≢ 0))

-- The call c after the calls xs has a FAVOUR line for p, with the file f and the record r, 0 where p waits for the file.
abbrev pub Favours : List Call → Call → ℕ → ℕ → ℕ → Type 0
Favours xs c p f r = line_of Word.Favour p f r ∈ lines_of (reply_after xs c)

-- The reply r stands in the list after n others.
pub record StandsAt (n : ℕ) (r : Reply) (rs : List Reply) : Type 0 where
  pub earlier : List Reply
  pub later : List Reply
  pub split : rs ≡ earlier ++ (r ∷ later)
  pub place : length earlier ≡ n

-- ══ The sentences of demand 3 ══

-- "After the list, the order of completion in the last answer names each admitted program exactly once, has none held back by a later one
-- and, unless empty, begins with a program that isn't waiting"; by CR 7, "or it awaits a record whose user is running".
pub record LastOrder (cs : List Call) : Type 0 where
  pub earlier : List Reply
  pub last : Reply
  pub last-answer : direct_from empty_board cs ≡ earlier ++ (last ∷ [])
  pub names-each-once : Names (admitted (worked cs)) (order_of last)
  pub none-held-back : (before after : List ℕ) (i j : ℕ) → order_of last ≡ before ++ (i ∷ after) → j ∈ after
      → holds_back (at (worked cs) j) (at (worked cs) i) ≡ false
  pub first-free : (p : ℕ) (rest : List ℕ) → order_of last ≡ p ∷ rest → (is_waiting (at (worked cs) p).standing ≡ false) ⊎ AwaitsInUse
      (worked cs) p

-- "While a program is favoured, the accepted leaves after the call that favoured it and the programs now admitted add up to the number
-- admitted after that call", with the cancels that count as leaves. xs are the calls up to now. "The call that favoured a program is the
-- latest of these whose lines have FAVOUR for it."
pub record FavouredBy (xs : List Call) (p : ℕ) : Type 0 where
  pub before : List Call
  pub call : Call
  pub after : List Call
  pub split : xs ≡ before ++ (call ∷ after)
  pub file : ℕ
  pub item : ℕ
  pub favours : Favours before call p file item
  pub latest : (us vs : List Call) (d : Call) (f r : ℕ) → after ≡ us ++ (d ∷ vs) → Favours (before ++ (call ∷ us)) d p f r → ⊥
  pub adds_up : leaves_in p (before ++ (call ∷ [])) after + admitted_after xs ≡ admitted_after (before ++ (call ∷ []))
  -- "the board's two numbers are the number admitted after that call and the count of these leaves"
  pub number : (worked xs).initial ≡ admitted_after (before ++ (call ∷ []))
  pub count : (worked xs).leaves ≡ leaves_in p (before ++ (call ∷ [])) after
  -- while it is favoured, those leaves have not yet come to that number less one
  pub to_come : leaves_in p (before ++ (call ∷ [])) after + 2 ≤ admitted_after (before ++ (call ∷ []))

-- A call of ys, which come after the calls xs, gives p the file f, or the record r of f where r isn't 0, by a GIVEN line after the call's first,
-- and "that wait is then over": p was favoured until then, and "is favoured no longer".
pub record GetsIt (xs ys : List Call) (p f r : ℕ) : Type 0 where
  pub before : List Call
  pub call : Call
  pub after : List Call
  pub split : ys ≡ before ++ (call ∷ after)
  pub that_wait : FavouredThrough xs before p
  pub given : line_of Word.Given p f r ∈ settling_lines (reply_after (xs ++ before) call)
  pub wait-over : is_waiting (at (worked (xs ++ (before ++ (call ∷ [])))) p).standing ≡ false
  pub no_longer : (worked (xs ++ (before ++ (call ∷ [])))).favoured ≢ p

-- "a wait now also ends with its own cancel": a call of ys, which come after the calls xs, is an accepted cancel of p, which was favoured
-- until then and waits no longer.
pub record CancelledIn (xs ys : List Call) (p : ℕ) : Type 0 where
  pub before : List Call
  pub after : List Call
  pub split : ys ≡ before ++ (Cancel p ∷ after)
  pub that_wait : FavouredThrough xs before p
  pub accepted : Accepted (xs ++ before) (Cancel p)
  pub wait-over : is_waiting (at (worked (xs ++ (before ++ (Cancel p ∷ [])))) p).standing ≡ false

pub record Demand3 (cs : List Call) : Type 0 where
  -- "each answer is the one that 01's rules give when worked through the list": the replies of direct calls, the first handed the
  -- empty board and each later one the board that the call before it gave back, are the worked ones, with their boards, lines and orders
  pub answers : direct_from empty_board cs ≡ replies_from empty_board cs
  -- the reply to each call of the list is the one that the sentences below speak of
  pub each : (xs ys : List Call) (c : Call) → cs ≡ xs ++ (c ∷ ys) → StandsAt (length xs) (reply_after xs c) (direct_from empty_board cs)
  -- the sentence on the last answer's order
  pub order : LastOrder cs
  -- "An accepted open in the list waits exactly when another program has its file in conflicting use or, with the file given,
  -- every order of the admitted programs has one held back by a later one."
  pub waits : (xs ys : List Call) (p f : ℕ) → cs ≡ xs ++ (Open p f ∷ ys) → Accepted xs (Open p f)
      → Waits (reply_after xs (Open p f)).answer ↔ (ConflictingUse (worked xs) p f ⊎ EveryOrderHeld (with_given (worked xs) p f))
  -- "It waits (WAIT) while another has that record"
  pub fetch_waits : (xs ys : List Call) (p f r : ℕ) → cs ≡ xs ++ (Fetch p f r ∷ ys) → Accepted xs (Fetch p f r)
      → ((reply_after xs (Fetch p f r)).answer ≡ Answer.Wait) ↔ RecordTaken (worked xs) p f r
  -- "else gets it (GIVEN)"
  pub fetch-given : (xs ys : List Call) (p f r : ℕ) → cs ≡ xs ++ (Fetch p f r ∷ ys) → Accepted xs (Fetch p f r)
      → ((reply_after xs (Fetch p f r)).answer ≡ Answer.Given) ↔ (RecordTaken (worked xs) p f r → ⊥)
  -- the sentence on the sum, after each call of the list
  pub favoured : (xs ys : List Call) (p : ℕ) → cs ≡ xs ++ ys → p ≢ 0 → (worked xs).favoured ≡ p → FavouredBy xs p
  -- "It gets its file at the latest with the leave that brings those leaves to that number less one, and that wait is then over."
  -- c favours p with the file f, or with the record r of f where r isn't 0, and d is that leave, or the cancel that counts as one. "a wait
  -- now also ends with its own cancel"; "A favoured program that gets its record, within the same bound, is favoured no longer."
  pub gets : (xs ys zs : List Call) (c d : Call) (p f r : ℕ) → cs ≡ xs ++ (c ∷ (ys ++ (d ∷ zs))) → Favours xs c p f r
      → accepted_leave p (xs ++ (c ∷ ys)) d ≡ 1 → leaves_in p (xs ++ (c ∷ [])) (ys ++ (d ∷ [])) + 1 ≡ admitted_after (xs ++ (c ∷ []))
      → GetsIt (xs ++ (c ∷ [])) (ys ++ (d ∷ [])) p f r ⊎ CancelledIn (xs ++ (c ∷ [])) (ys ++ (d ∷ [])) p
