-- A board with the lines written so far, and what a step of the rules makes of it.
-- Assumes nothing.
use Rattle.std.specs.Prelude.{ℕ, ◌+◌, ◌-◌, ◌≤◌, ◌≡◌, Bool, true, not, cond, ◌&&◌, eqb, List, [], ◌∷◌, length, set}
use Rattle.std.specs.Prelude.{Option as Given, Some, None}
use Rattle.std.proofs.Math.Option.{Option, none, some}
use Rattle.std.proofs.lemmas.List.Edits.{sets}
use Rattle.rules.specs.declared.Standing.{Standing}
use Rattle.rules.specs.declared.Program.{Program}
use Rattle.rules.specs.declared.Board.{Board}
use Rattle.rules.specs.declared.Word.{Word}
use Rattle.rules.specs.declared.Line.{Line}
use Rattle.laws.specs.Lists.{first, names, padded, without}
use Rattle.rules.specs.Boards.{at, is_waiting, awaited, wants, set_standing, opening}
use Rattle.rules.specs.Orders.{in_use, with_given}
use Rattle.rules.specs.Settling.{Step, line, unfavour, resume, admit_held}
use Rattle.laws.specs.Laws.{◌∈◌, NoRepeat}
use Rattle.theory.specs.Programs.{Is}
use Rattle.theory.specs.Loose.{Loose, waits_in, count_in}
use Rattle.parts.specs.Entries.{Entries, lines_in}
use Rattle.store.specs.declared.Seat.{Seat}
use Rattle.store.specs.declared.Rest.{Rest}
use Rattle.store.specs.Sets.{Sets}
use Rattle.store.specs.Store.{with_waiting, with_favour, with_passed, seated_at, board_of}
use Rattle.settling.specs.declared.Progress.{Progress}

-- this rest, and this many lines so far
abbrev pub progress : Rest → ℕ → Progress
progress r n = record { rest = r; count = n }

-- a board, and the lines written so far: the first `count` of 32 places
pub record Written : Type 0 where
  pub board : Board
  pub lines : List Line
  pub count : ℕ

-- the board of these sets and the rest, with the lines that stand in the array
abbrev pub written_in : Sets → Entries → Progress → Written
written_in sets lines w = record { board = board_of sets w.rest; lines = lines_in lines; count = w.count }

-- the step's board, with its lines after those of w
abbrev pub after : Written → Step → Written
after w s = record { board = s.board; lines = sets w.lines w.count s.lines; count = w.count + length s.lines }

-- the step's lines fit
abbrev pub Fits : Written → Step → Type 0
Fits w s = w.count + length s.lines ≤ 32

-- the waiter p is given the file f
abbrev pub give_to : Board → ℕ → ℕ → Step
give_to b p f = record { board = unfavour (resume (with_given b p f) p) p; lines = line Word.Given p f ∷ [] }

-- the held program p runs, out of the entry line
abbrev pub admit_one : Board → ℕ → Step
admit_one b p = record { board = admit_held b p (without p (names b.entry)); lines = line Word.Admit p 0 ∷ [] }

-- p awaits no record, and nobody else uses the file that it awaits
abbrev pub unused : Board → ℕ → Bool
unused b p = eqb (at b p).item 0 && not (in_use b p (awaited b p))

-- these are waiters, each once, of a board that is loose
abbrev pub Ready : Board → List ℕ → Type 0
Ready b ps = Loose b × NoRepeat ps × ((p : ℕ) → p ∈ ps → Is p × (waits_in b.programs p ≡ true))

-- the waiter q is given f, and runs
abbrev pub serve : Program → ℕ → Program
serve q f = set_standing (opening q f) Standing.Running

-- the rest with the waiter p given its file, or its record: it runs, out of the line, its count is 0, and it is favoured no longer
abbrev pub served_rest : Rest → ℕ → Rest
served_rest r p = let n : ℕ → ℕ = (λ k. cond (eqb r.favoured p) 0 k) in
    with_passed (with_favour (with_waiting (seated_at r p Standing.Running) (padded 0 (without p (names r.waiting))))
    (n r.favoured) (n r.initial) (n r.leaves)) (set r.passed (p - 1) 0)

-- no count is above 8
abbrev pub CountsFew : List ℕ → Type 0
CountsFew c = (p : ℕ) → Is p → count_in c p ≤ 8

-- the program in a seat waits for the record r of f
abbrev pub seat_wants : Seat → ℕ → ℕ → Bool
seat_wants s f r = is_waiting s.standing && not (eqb s.item 0) && eqb s.file f && eqb s.item r

-- "the oldest waiter for the record"
abbrev pub record_waiter : Board → ℕ → ℕ → Option ℕ
record_waiter b f r = first (λ w. wants (at b w) f r) (names b.waiting)

-- a test that holds of a program just where t does, for each of these
abbrev pub Tests : (ℕ → Bool → Type 0) → (ℕ → Bool) → List ℕ → Type 0
Tests holds t ps = (p : ℕ) → p ∈ ps → (r : Bool) → holds p r → r ≡ t p

-- what was found, as a function gives it back
abbrev pub as_option : Option ℕ → Given ℕ
as_option none = None
as_option (some p) = Some p
