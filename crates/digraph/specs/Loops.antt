-- Loops as the code finds and tests them.
-- Assumes nothing.
use Rattle.std.specs.Prelude.{ℕ, ◌≤◌, ◌≡◌, ◌⊎◌, ◌≢◌, Bool, true, false, not, ◌&&◌, List, [], ◌∷◌, eqb, take}
use Rattle.std.proofs.Math.Option.{Option}
use Rattle.rules.specs.declared.Board.{Board}
use Rattle.rules.specs.declared.Line.{Line}
use Rattle.rules.specs.declared.Reply.{Reply}
use Rattle.laws.specs.Lists.{keep, first, found}
use Rattle.files.specs.Sets.{is_file}
use Rattle.rules.specs.Boards.{is_program, is_waiting, everyone, at, awaited}
use Rattle.rules.specs.Orders.{carried, with_given}
use Rattle.rules.specs.Calls.{Call, direct}
use Rattle.rules.specs.Digraph.{step, is_loop_of, is_loop_with, is_unsafe, may_carry}
use Rattle.tables.specs.declared.ProgramSet.{ProgramSet}
use Rattle.tables.specs.ProgramSets.{has_program, without_program}
use Rattle.tables.specs.Tables.{row_of}
use Rattle.digraph.specs.declared.Loop.{Loop}
use Rattle.digraph.specs.Rows.{rows_saying, matrix_of, cell}

-- the programs of a set, rising
abbrev pub list_of : ProgramSet → List ℕ
list_of s = keep (has_program s) everyone

-- the programs of a loop
abbrev pub named : Loop → List ℕ
named r = take r.count r.at

-- z holds back the first of the list, and each the next; all are of the set, and none comes twice
unfoldable pub goes : List ℕ → ProgramSet → ℕ → List ℕ → Bool
goes rows s z [] = true
goes rows s z (p ∷ l) = (has_program s p && has_program (row_of rows p) z) && goes rows (without_program s p) p l

-- the lowest of s that is another than x and holds it back
unfoldable pub lowest_holder : List ℕ → ProgramSet → ℕ → Option ℕ
lowest_holder rows s x = first (λ y. not (eqb y x) && cell rows y x) (list_of s)

-- a loop of the board where no order exists, and none where one does: "Which loop is free"; it stands in the 32 places
pub record LoopOf (b : Board) (r : Loop) : Type 0 where
  pub is_loop : found (carried b) ≡ false → is_loop_of (step b) (named r) ≡ true
  pub is_none : found (carried b) ≡ true → named r ≡ []
  pub fits : r.count ≤ 32

-- a loop with the file given that p waits for, and none if it doesn't wait for a file
pub record LoopOfWaiter (b : Board) (p : ℕ) (r : Loop) : Type 0 where
  pub is_loop : is_waiting (at b p).standing ≡ true → (at b p).item ≡ 0 → is_loop_with b p (awaited b p) (named r) ≡ true
  pub is_none : (is_waiting (at b p).standing ≡ false) ⊎ ((at b p).item ≢ 0) → named r ≡ []
  pub fits : r.count ≤ 32

-- what the reply to a call on the board carries, whatever call it answers; a reply that isn't UNSAFE carries nothing
abbrev pub CarriedBy : Board → Reply → Loop → Type 0
CarriedBy b r l = (c : Call) → (r ≡ direct b c) ⊎ (is_unsafe r.answer ≡ false) → may_carry b c r.answer (named l) ≡ true

-- a loop of the board with the file given that a line names
abbrev pub LoopWith : Board → Line → Loop → Type 0
LoopWith b line r = is_program line.program ≡ true → is_file line.file ≡ true → LoopOf (with_given b line.program line.file) r

-- the same for every board with these rows and this matrix
abbrev pub LoopFor : List ℕ → List ℕ → Loop → Type 0
LoopFor rows matrix r = (b : Board) → rows ≡ rows_saying (step b) → matrix ≡ matrix_of b → LoopOf b r
