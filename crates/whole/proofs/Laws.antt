-- Laws of a set of one word, and of programs made one after another. Assumes nothing.
use Prim.Native.Nat.{ℕ, suc, ◌+◌, ◌^◌, ◌≤◌, ◌<◌}
use native.Mathlib.Omega.{arith}
use mathlib.Core.Path.{◌≡◌, sym, ap, ◌∙◌}
use mathlib.Core.Logic.{◌≢◌}
use mathlib.Core.List.{List, [], ◌∷◌}
use lib.Dec.{eqb}
use lib.ListN.{length, get_or, set}
use lib.Seq.{ext_get_or, get_or-set_same, get_or-set_other}
use borrow.Author.Tests.{eqb-true, eqb-false}
use Rattle.laws.specs.Tests.{by_test}
use Rattle.files.specs.declared.FileSet.{FileSet}
use Rattle.files.specs.Words.{word_count, set_of}
use Rattle.files.proofs.Rows.{one_word}
use Rattle.rules.specs.declared.Program.{Program}
use Rattle.rules.specs.Boards.{no_program}
use Rattle.store.specs.declared.Seat.{Seat}
use Rattle.store.specs.declared.Rest.{Rest}
use Rattle.store.specs.Sets.{Sets}
use Rattle.store.specs.Store.{no_seat, program_with, programs_from, board_of}
use Rattle.store.proofs.Boards.{board-size, board_in}

-- the set of a row of one word
pub word_set : (s : List ℕ) → length s ≡ word_count → get_or s 0 0 < 2 ^ 64 → record { bits = get_or s 0 0 } ≡ set_of s
word_set [] n h = absurd (let m : 0 ≡ 1 = n in omega arith)
word_set (w ∷ []) n h = ap {B = FileSet} (λ x. record { bits = x }) (sym (one_word w h))
word_set (v ∷ w ∷ s) n h = absurd (let m : suc (suc (length s)) ≡ 1 = n in omega arith)

-- ---- the programs of a board

-- the programs that sets and seats make
abbrev pub made : Sets → List Seat → List Program
made sets seats = programs_from sets (λ i. get_or seats i no_seat) 32 0

-- a rest with these seats
abbrev seated : List Seat → Rest
seated seats = record { seats = seats; waiting = []; entry = []; favoured = 0; initial = 0; leaves = 0; passed = [] }

pub made_size : (sets : Sets) (seats : List Seat) → length (made sets seats) ≡ 32
unfolding board_of
made_size sets seats = board-size sets (seated seats)

pub made_in : (sets : Sets) (seats : List Seat) (i : ℕ) → i < 32 → get_or (made sets seats) i no_program ≡ program_with sets i (get_or seats i no_seat)
unfolding board_of
made_in sets seats = board_in sets (seated seats)

-- ---- programs one after another

-- the first n programs are those of another list
abbrev pub SameTo : List Program → ℕ → List Program → Type 0
SameTo qs n ps = (k : ℕ) → k < n → get_or ps k no_program ≡ get_or qs k no_program

-- one program more
pub same_more : (qs : List Program) (i : ℕ) (ps : List Program) (q : Program) → i < length ps → q ≡ get_or qs i no_program → SameTo qs i ps
    → SameTo qs (i + 1) (set ps i q)
same_more qs i ps q h e f k d = by_test (eqb k i)
    (λ t. let z : k ≡ i = eqb-true k i t in rw (z, get_or-set_same ps i q no_program h) e)
    (λ t. let z : k ≢ i = eqb-false k i t in get_or-set_other ps i k q no_program z ∙ f k (omega arith))

-- all programs
pub same_all : (qs : List Program) (n i : ℕ) (ps : List Program) → length ps ≡ n → length qs ≡ n → n ≤ i → SameTo qs i ps → ps ≡ qs
same_all qs n i ps a b h f = ext_get_or no_program ps qs (a ∙ sym b) (λ k l. f k (omega (arith, a)))
