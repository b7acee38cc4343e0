-- 02, CR 6: the matrix of which admitted program holds back which, closed over paths; loops with a file given; what an answer carries.
-- Assumes nothing.
use Rattle.std.specs.Prelude.{ℕ, Bool, true, false, not, cond, ◌&&◌, ◌||◌, List, [], ◌∷◌, eqb, leb, length}
use Rattle.rules.specs.declared.Board.{Board}
use Rattle.rules.specs.declared.Answer.{Answer}
use Rattle.laws.specs.Lists.{distinct}
use Rattle.rules.specs.Boards.{is_program, is_admitted, at, admitted, claims}
use Rattle.rules.specs.Orders.{holds_back, with_given}
use Rattle.rules.specs.Calls.{Call, Enter, Open, Close, Drop, Leave, Cancel, Fetch, Return}

-- ---- the matrix

-- x is an admitted program
abbrev pub is_in : Board → ℕ → Bool
is_in b x = is_program x && is_admitted (at b x).standing

-- "which admitted program holds back which": i and j are different, both admitted, and i holds back j
unfoldable pub step : Board → ℕ → ℕ → Bool
step b i j = not (eqb i j) && ((is_in b i && is_in b j) && holds_back (at b i) (at b j))

-- "closed over paths": from i to j in one step, or by way of the programs listed; of these one after another is allowed
unfoldable pub paths : (ℕ → ℕ → Bool) → List ℕ → ℕ → ℕ → Bool
paths g [] i j = g i j
paths g (k ∷ ks) i j = paths g ks i j || paths g ks k j && paths g ks i k

-- the matrix: i reaches j
unfoldable pub reaches : Board → ℕ → ℕ → Bool
reaches b i j = paths (step b) (admitted b) i j

-- ---- loops

-- x holds back the first of the list, each of the list the next, and the last of them z
unfoldable pub leads_to : (ℕ → ℕ → Bool) → ℕ → ℕ → List ℕ → Bool
leads_to g z x [] = g x z
leads_to g z x (y ∷ l) = g x y && leads_to g z y l

-- "each holding back the next and the last the first"
unfoldable pub closes : (ℕ → ℕ → Bool) → List ℕ → Bool
closes g [] = false
closes g (x ∷ l) = leads_to g x x l

-- "a list of two or more different programs, each holding back the next and the last the first"
unfoldable pub is_loop_of : (ℕ → ℕ → Bool) → List ℕ → Bool
is_loop_of g l = leb 2 (length l) && distinct l && closes g l

-- The checker: the list is a loop "with the file given", f to p. Only an admitted program can be given a file, and only one that it claims:
-- for other numbers no list is.
unfoldable pub is_loop_with : Board → ℕ → ℕ → List ℕ → Bool
is_loop_with b p f l = is_in b p && claims (at b p) f && is_loop_of (step (with_given b p f)) l

-- ---- what an answer carries

-- a loop with the file given that an open asks for
abbrev pub loop_for : Board → Call → List ℕ → Bool
loop_for b (Enter p v q j) l = false
loop_for b (Open p f) l = is_loop_with b p f l
loop_for b (Close p f) l = false
loop_for b (Drop p f) l = false
loop_for b (Leave p) l = false
loop_for b (Cancel p) l = false
loop_for b (Fetch p f r) l = false
loop_for b (Return p) l = false

abbrev pub is_unsafe : Answer → Bool
is_unsafe Answer.Admit = false
is_unsafe Answer.Held = false
is_unsafe Answer.Given = false
is_unsafe Answer.Wait = false
is_unsafe Answer.Unsafe = true
is_unsafe Answer.Done = false
is_unsafe (Answer.Refuse r) = false

-- "An UNSAFE answer now carries a loop", with the file given on the board before the call; "Which loop is free". All other answers carry none.
abbrev pub may_carry : Board → Call → Answer → List ℕ → Bool
may_carry b c a l = cond (is_unsafe a) (loop_for b c l) (eqb (length l) 0)
