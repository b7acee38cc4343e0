-- A board as two things: the sets of its programs, and the small rest. `board_of` leads from both to the board of the rules.
-- Assumes nothing.
use Rattle.std.specs.Prelude.{ℕ, zero, suc, ◌-◌, ◌<◌, ◌≡◌, Bool, not, ◌&&◌, List, [], ◌∷◌, eqb, get_or, set, replicate}
use Rattle.files.specs.Words.{word_count}
use Rattle.rules.specs.declared.Standing.{Standing}
use Rattle.rules.specs.declared.Program.{Program}
use Rattle.rules.specs.declared.Board.{Board}
use Rattle.rules.specs.declared.Mode.TheVariants.{Write, Read, Inquiry}
use Rattle.rules.specs.Boards.{is_running}
use Rattle.store.specs.declared.Seat.{Seat}
use Rattle.store.specs.declared.Rest.{Rest}
use Rattle.store.specs.Sets.{place_count, Sets, set_in, claim_place, open_place, in_place}

-- the seat of an absent program
abbrev pub no_seat : Seat
no_seat = record { standing = Standing.Absent; file = 0; item = 0 }

-- the seat of program p
abbrev pub seat_at : Rest → ℕ → Seat
seat_at r p = get_or r.seats (p - 1) no_seat

-- what a program has beside its sets
abbrev pub seat_of : Program → Seat
seat_of q = record { standing = q.standing; file = q.file; item = q.item }

-- the standing of program p
abbrev pub standing_at : Rest → ℕ → Standing
standing_at r p = (seat_at r p).standing

-- the program in a seat has the record r of f in use
abbrev pub seat_uses : Seat → ℕ → ℕ → Bool
seat_uses s f r = is_running s.standing && not (eqb s.item 0) && eqb s.file f && eqb s.item r

-- the program at index i, by its sets, with a seat
abbrev pub program_with : Sets → ℕ → Seat → Program
program_with sets i s =
    record {
      writable = set_in sets (claim_place Write i);
      readable = set_in sets (claim_place Read i);
      inquirable = set_in sets (claim_place Inquiry i);
      writing = set_in sets (open_place Write i);
      reading = set_in sets (open_place Read i);
      inquiring = set_in sets (open_place Inquiry i);
      standing = s.standing;
      file = s.file;
      item = s.item;
    }

-- the n programs from index i on, by their sets, with these seats
unfoldable pub programs_from : Sets → (ℕ → Seat) → ℕ → ℕ → List Program
programs_from sets s zero i = []
programs_from sets s (suc n) i = program_with sets i (s i) ∷ programs_from sets s n (suc i)

-- the board
unfoldable pub board_of : Sets → Rest → Board
board_of sets r =
    record {
      programs = programs_from sets (λ i. get_or r.seats i no_seat) 32 0;
      waiting = r.waiting;
      entry = r.entry;
      favoured = r.favoured;
      initial = r.initial;
      leaves = r.leaves;
      passed = r.passed;
    }

-- ---- a rest with one part changed

abbrev pub with_seats : Rest → List Seat → Rest
with_seats r l =
    record {
      seats = l;
      waiting = r.waiting;
      entry = r.entry;
      favoured = r.favoured;
      initial = r.initial;
      leaves = r.leaves;
      passed = r.passed;
    }

abbrev pub with_waiting : Rest → List ℕ → Rest
with_waiting r l =
    record {
      seats = r.seats;
      waiting = l;
      entry = r.entry;
      favoured = r.favoured;
      initial = r.initial;
      leaves = r.leaves;
      passed = r.passed;
    }

abbrev pub with_entry : Rest → List ℕ → Rest
with_entry r l =
    record {
      seats = r.seats;
      waiting = r.waiting;
      entry = l;
      favoured = r.favoured;
      initial = r.initial;
      leaves = r.leaves;
      passed = r.passed;
    }

-- p is favoured, n were admitted when it was, and v leaves are counted since
abbrev pub with_favour : Rest → ℕ → ℕ → ℕ → Rest
with_favour r p n v =
    record {
      seats = r.seats;
      waiting = r.waiting;
      entry = r.entry;
      favoured = p;
      initial = n;
      leaves = v;
      passed = r.passed;
    }

abbrev pub with_passed : Rest → List ℕ → Rest
with_passed r l =
    record {
      seats = r.seats;
      waiting = r.waiting;
      entry = r.entry;
      favoured = r.favoured;
      initial = r.initial;
      leaves = r.leaves;
      passed = l;
    }

-- the rest with a seat for p
abbrev pub put_seat : Rest → ℕ → Seat → Rest
put_seat r p t = with_seats r (set r.seats (p - 1) t)

-- the rest with p at a standing
abbrev pub seated_at : Rest → ℕ → Standing → Rest
seated_at r p s = put_seat r p (record { standing = s; file = (seat_at r p).file; item = (seat_at r p).item })

-- ---- the rest of a board

-- the first n seats are those of the board's programs
abbrev pub SeatsTo : Board → ℕ → List Seat → Type 0
SeatsTo b n seats = (i : ℕ) → i < n → get_or seats i no_seat ≡ seat_of (in_place b i)

-- the rest has the seats, the lines, the numbers and the counts of the board
pub record RestOf (b : Board) (r : Rest) : Type 0 where
  pub seats_are : SeatsTo b 32 r.seats
  pub waiting_is : r.waiting ≡ b.waiting
  pub entry-is : r.entry ≡ b.entry
  pub favoured_is : r.favoured ≡ b.favoured
  pub initial_is : r.initial ≡ b.initial
  pub leaves_are : r.leaves ≡ b.leaves
  pub passed_are : r.passed ≡ b.passed

-- ---- the empty board

-- no file is in any set
abbrev pub empty_sets : Sets
empty_sets = replicate place_count (replicate {A = ℕ} word_count 0)

abbrev pub empty_rest : Rest
empty_rest =
    record {
      seats = replicate 32 no_seat;
      waiting = replicate 32 0;
      entry = replicate 32 0;
      favoured = 0;
      initial = 0;
      leaves = 0;
      passed = replicate 32 0;
    }
