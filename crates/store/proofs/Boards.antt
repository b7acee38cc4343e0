-- Laws of a board as its sets and the rest. Assumes nothing.
use Prim.Native.Nat.{ℕ, zero, suc, ◌+◌, ◌-◌, ◌≤◌, ◌<◌}
use native.Mathlib.Omega.{arith}
use mathlib.Core.Path.{◌≡◌, refl, sym, ap, ap₂, ◌∙◌}
use mathlib.Core.List.{List}
use mathlib.Core.Logic.{◌≢◌}
use lib.Dec.{eqb}
use lib.ListN.{length, get_or, set}
use lib.Seq.{ext_get_or, get_or-set_same, get_or-set_other}
use borrow.Author.Tests.{eqb-true, eqb-false}
use Rattle.laws.specs.Tests.{by_test}
use Rattle.rules.specs.declared.Board.{Board}
use Rattle.rules.specs.declared.Mode.TheVariants.{Write, Read, Inquiry}
use Rattle.files.specs.Words.{bits_of}
use Rattle.laws.specs.Lists.{padded}
use Rattle.rules.specs.Boards.{no_program, empty_board, at, set_waiting, set_entry, set_passed}
use Rattle.store.specs.declared.Seat.{Seat}
use Rattle.store.specs.declared.Rest.{Rest}
use Rattle.store.specs.Sets.{Sets, IsStore, SetsTo, SetsOf, in_place}
use Rattle.store.specs.Store.{no_seat, seat_at, seat_of, program_with, programs_from, board_of, SeatsTo, RestOf}
use Rattle.store.specs.Store.{with_waiting, with_entry, with_passed, empty_sets, empty_rest}

-- ---- reading

length_from : (sets : Sets) (s : ℕ → Seat) (n i : ℕ) → length (programs_from sets s n i) ≡ n
unfolding programs_from
length_from sets s zero i = refl
length_from sets s (suc n) i = ap suc (length_from sets s n (suc i))

from_at : (sets : Sets) (s : ℕ → Seat) (n i k : ℕ) → k < n
    → get_or (programs_from sets s n i) k no_program ≡ program_with sets (i + k) (s (i + k))
unfolding programs_from
from_at sets s zero i k h = absurd (omega arith)
from_at sets s (suc n) i zero h = ap (λ (j : ℕ). program_with sets j (s j)) (omega arith)
from_at sets s (suc n) i (suc k) h = from_at sets s n (suc i) k (omega arith) ∙ ap (λ (j : ℕ). program_with sets j (s j)) (omega arith)

-- programs that stand so, with the sets of the board, are the board's
programs_are : (b : Board) (sets : Sets) (s : ℕ → Seat) → SetsOf b sets → ((i : ℕ) → i < 32 → s i ≡ seat_of (in_place b i))
    → length b.programs ≡ 32 → programs_from sets s 32 0 ≡ b.programs
programs_are b sets s o t n = ext_get_or no_program (programs_from sets s 32 0) b.programs (length_from sets s 32 0 ∙ sym n)
    (λ i h. let l : i < 32 = omega (arith, length_from sets s 32 0) in
    from_at sets s 32 0 i l ∙ ap (λ (j : ℕ). program_with sets j (s j)) (omega arith) ∙ same i l)
  where
    same : (i : ℕ) → i < 32 → program_with sets i (s i) ≡ in_place b i
    same i l = rw ((o.1 i l Write).0, (o.1 i l Write).1, (o.1 i l Read).0, (o.1 i l Read).1, (o.1 i l Inquiry).0, (o.1 i l Inquiry).1, t i l) refl

module _ (sets : Sets) (r : Rest) where
  pub board-size : length (board_of sets r).programs ≡ 32
  unfolding board_of
  board-size = length_from sets (λ i. get_or r.seats i no_seat) 32 0

  -- the program at an index
  pub board_in : (i : ℕ) → i < 32 → in_place (board_of sets r) i ≡ program_with sets i (get_or r.seats i no_seat)
  unfolding board_of
  board_in i h = from_at sets (λ i. get_or r.seats i no_seat) 32 0 i h
      ∙ ap (λ (j : ℕ). program_with sets j (get_or r.seats j no_seat)) (omega arith)

  -- program p
  pub board-at : (p : ℕ) → 1 ≤ p → p ≤ 32 → at (board_of sets r) p ≡ program_with sets (p - 1) (seat_at r p)
  board-at p h k = board_in (p - 1) (omega arith)

  -- the sets of the board are the sets
  pub board-sets : IsStore sets → SetsOf (board_of sets r) sets
  board-sets s = (s, all_in)
    where
      all_in : SetsTo (board_of sets r) 32 sets
      all_in i h Write = rw (board_in i h) (refl, refl)
      all_in i h Read = rw (board_in i h) (refl, refl)
      all_in i h Inquiry = rw (board_in i h) (refl, refl)

-- ---- the same board

pub same-board : (b c : Board) → b.programs ≡ c.programs → b.waiting ≡ c.waiting → b.entry ≡ c.entry → b.favoured ≡ c.favoured
    → b.initial ≡ c.initial → b.leaves ≡ c.leaves → b.passed ≡ c.passed → b ≡ c
same-board b c e f g h i j k = rw (e, f, g, h, i, j, k) refl

pub board_is : (b : Board) (sets : Sets) (r : Rest) → SetsOf b sets → RestOf b r → length b.programs ≡ 32 → board_of sets r ≡ b
unfolding board_of
board_is b sets r s t n = same-board (board_of sets r) b
    (programs_are b sets (λ i. get_or r.seats i no_seat) s t.seats_are n)
    t.waiting_is t.entry-is t.favoured_is t.initial_is t.leaves_are t.passed_are

-- the seat of one program more
pub seats_more : (b : Board) (i : ℕ) (l : List Seat) → i < length l → SeatsTo b i l
    → SeatsTo b (i + 1) (set l i (seat_of (in_place b i)))
seats_more b i l h f k d = by_test (eqb k i)
    (λ t. let z : k ≡ i = eqb-true k i t in rw (z, get_or-set_same l i (seat_of (in_place b i)) no_seat h) refl)
    (λ t. let z : k ≢ i = eqb-false k i t in get_or-set_other l i k (seat_of (in_place b i)) no_seat z ∙ f k (omega arith))

-- ---- a board whose rest changes

module _ (sets : Sets) (r : Rest) (b : Board) (e : board_of sets r ≡ b) where
  pub with_waiting_lem : (l n : List ℕ) → l ≡ padded 0 n → board_of sets (with_waiting r l) ≡ set_waiting b n
  unfolding board_of
  with_waiting_lem l n k = ap (λ (y : List ℕ). board_of sets (with_waiting r y)) k ∙ ap (λ (x : Board). set_waiting x n) e

  pub with_entry_lem : (l n : List ℕ) → l ≡ padded 0 n → board_of sets (with_entry r l) ≡ set_entry b n
  unfolding board_of
  with_entry_lem l n k = ap (λ (y : List ℕ). board_of sets (with_entry r y)) k ∙ ap (λ (x : Board). set_entry x n) e

  pub with_passed_lem : (l n : List ℕ) → l ≡ n → board_of sets (with_passed r l) ≡ set_passed b n
  unfolding board_of
  with_passed_lem l n k = ap₂ (λ (x : Board) (y : List ℕ). set_passed x y) e k

-- the empty sets and rest are the empty board
pub empty_board_lem : board_of empty_sets empty_rest ≡ empty_board
unfolding board_of programs_from bits_of
empty_board_lem = refl
