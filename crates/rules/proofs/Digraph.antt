-- The matrix and the checker of CR 6 on chosen boards, sound and unsound, as two tables: each row is computed from the definitions.
-- Assumes nothing.
use Prim.Native.Nat.{ℕ}
use mathlib.Core.Path.{◌≡◌, refl}
use mathlib.Core.Bool.{Bool, true, false, not}
use mathlib.Core.List.{List, [], ◌∷◌, ◌++◌, map}
use lib.ListN.{replicate}
use Rattle.rules.specs.declared.Standing.{Standing}
use Rattle.rules.specs.declared.Program.{Program}
use Rattle.rules.specs.declared.Board.{Board}
use Rattle.laws.specs.Lists.{any, all, keep, first, rising, listed, distinct}
use Rattle.rules.specs.Modes.{touching}
use Rattle.rules.specs.Boards.{no_program, empty_board, everyone, admitted, opening}
use Rattle.rules.specs.Orders.{with_given}
use Rattle.rules.specs.Digraph.{step, paths, reaches, leads_to, closes, is_loop_of, is_loop_with}
use Rattle.rules.proofs.Tables.{set, program}

-- the board with programs 1, 2, 3 and 4
board : Program → Program → Program → Program → Board
board a b c d =
    record {
      programs = a ∷ b ∷ c ∷ d ∷ replicate 28 no_program;
      waiting = empty_board.waiting;
      entry = empty_board.entry;
      favoured = 0;
      initial = 0;
      leaves = 0;
      passed = empty_board.passed;
    }

-- one that may write these, and has these open for writing
writes : List ℕ → List ℕ → Program
unfolding program
writes v w = program v [] w [] Standing.Running

-- one that may read these, and has these open for reading
reads : List ℕ → List ℕ → Program
unfolding program
reads q r = program [] q [] r Standing.Running

-- ---- the matrix

-- a board, and for programs 1 to 4 whom each reaches
pub record Row : Type 0 where
  pub board : Board
  pub reached : List (List ℕ)

rows : List Row
unfolding board writes reads program
rows =
    -- a path of two steps: 1 holds back 2, and 2 holds back 3
    record {
      board = board (writes (1 ∷ []) (1 ∷ [])) (writes (1 ∷ 2 ∷ []) (2 ∷ [])) (writes (2 ∷ []) []) (writes (9 ∷ []) (9 ∷ []));
      reached = (2 ∷ 3 ∷ []) ∷ (3 ∷ []) ∷ [] ∷ [] ∷ [];
    }
    -- one of three steps, against the numbers: 3 holds back 4, 4 holds back 1, 1 holds back 2
    ∷ record {
      board = board (writes (1 ∷ 4 ∷ []) (1 ∷ [])) (writes (1 ∷ []) []) (writes (3 ∷ []) (3 ∷ [])) (writes (3 ∷ 4 ∷ []) (4 ∷ []));
      reached = (2 ∷ []) ∷ [] ∷ (1 ∷ 2 ∷ 4 ∷ []) ∷ (1 ∷ 2 ∷ []) ∷ [];
    }
    -- unsound: 1, 2 and 3 hold back each other in a round, so each reaches itself
    ∷ record {
      board = board (writes (1 ∷ 3 ∷ []) (1 ∷ [])) (writes (1 ∷ 2 ∷ []) (2 ∷ [])) (writes (2 ∷ 3 ∷ []) (3 ∷ [])) no_program;
      reached = (1 ∷ 2 ∷ 3 ∷ []) ∷ (1 ∷ 2 ∷ 3 ∷ []) ∷ (1 ∷ 2 ∷ 3 ∷ []) ∷ [] ∷ [];
    }
    -- unsound: the same, but 2 is not admitted: no step leads to it or from it
    ∷ record {
      board = board (writes (1 ∷ 3 ∷ []) (1 ∷ [])) (program (1 ∷ 2 ∷ []) [] (2 ∷ []) [] Standing.Absent) (writes (2 ∷ 3 ∷ []) (3 ∷ [])) no_program;
      reached = [] ∷ [] ∷ (1 ∷ []) ∷ [] ∷ [];
    }
    ∷ record {
      board = board (writes (1 ∷ 3 ∷ []) (1 ∷ [])) (program (1 ∷ 2 ∷ []) [] (2 ∷ []) [] Standing.Held) (writes (2 ∷ 3 ∷ []) (3 ∷ [])) no_program;
      reached = [] ∷ [] ∷ (1 ∷ []) ∷ [] ∷ [];
    }
    -- what a program has open never counts against its own claims
    ∷ record {
      board = board (program (1 ∷ []) (1 ∷ []) (1 ∷ []) (1 ∷ []) Standing.Running) no_program no_program no_program;
      reached = [] ∷ [] ∷ [] ∷ [] ∷ [];
    }
    -- reading holds back who may write, and not who may read; a waiting program holds back too
    ∷ record {
      board = board (program [] (1 ∷ []) [] (1 ∷ []) (Standing.Waiting 2)) (writes (1 ∷ []) []) (reads (1 ∷ []) []) no_program;
      reached = (2 ∷ []) ∷ [] ∷ [] ∷ [] ∷ [];
    }
    ∷ []

-- whom each of programs 1 to 4 reaches
reached_on : Board → List (List ℕ)
unfolding any all keep first rising listed everyone admitted touching step paths reaches
reached_on b = map (λ i. keep (reaches b i) (1 ∷ 2 ∷ 3 ∷ 4 ∷ [])) (1 ∷ 2 ∷ 3 ∷ 4 ∷ [])

matrix_computed : map (λ (r : Row). reached_on r.board) rows ≡ map (λ (r : Row). r.reached) rows
unfolding set reached_on rows
matrix_computed = refl

-- ---- the checker

-- on a board, with f given to p: lists that are loops, and lists that aren't
pub record Checked : Type 0 where
  pub board : Board
  pub program : ℕ
  pub file : ℕ
  pub loops : List (List ℕ)
  pub others : List (List ℕ)

-- 1 has file 3 open, and 2 asks for file 4
pair : Board
unfolding board writes
pair = board (writes (3 ∷ 4 ∷ []) (3 ∷ [])) (writes (3 ∷ 4 ∷ []) []) no_program no_program

-- the same, but 2 does not claim file 4
unclaimed : Board
unfolding board writes
unclaimed = board (writes (3 ∷ 4 ∷ []) (3 ∷ [])) (writes (3 ∷ []) []) no_program no_program

-- 1 holds back 2, 2 holds back 3, and 3 asks for file 3, which 1 claims
three : Standing → Board
unfolding board writes program
three s = board (writes (1 ∷ 3 ∷ []) (1 ∷ [])) (program (1 ∷ 2 ∷ []) [] (2 ∷ []) [] s) (writes (2 ∷ 3 ∷ []) []) (writes (1 ∷ 3 ∷ []) [])

-- unsound: 1, 2 and 3 hold back each other in a round already, and 4 is absent with a claim
round : Board
unfolding board writes program
round =
    board (writes (1 ∷ 3 ∷ []) (1 ∷ [])) (writes (1 ∷ 2 ∷ []) (2 ∷ [])) (writes (2 ∷ 3 ∷ []) (3 ∷ [])) (program (9 ∷ []) [] [] [] Standing.Absent)

checks : List Checked
unfolding pair unclaimed three round
checks =
    -- "two or more different programs", from any of them on
    record {
      board = pair;
      program = 2;
      file = 4;
      loops = (2 ∷ 1 ∷ []) ∷ (1 ∷ 2 ∷ []) ∷ [];
      others =
          []
          ∷ (1 ∷ [])
          ∷ (2 ∷ 2 ∷ [])
          ∷ (1 ∷ 2 ∷ 1 ∷ 2 ∷ [])
          ∷ (1 ∷ 2 ∷ 2 ∷ [])
          ∷ (1 ∷ 3 ∷ [])
          ∷ (0 ∷ 1 ∷ 2 ∷ [])
          ∷ (2 ∷ 1 ∷ 33 ∷ [])
          ∷ [];
    }
    -- with the file given: before, and with a file that changes nothing, there is none
    ∷ record { board = pair; program = 1; file = 3; loops = []; others = (2 ∷ 1 ∷ []) ∷ (1 ∷ 2 ∷ []) ∷ [] }
    -- no file is given to a program that isn't admitted or doesn't claim it
    ∷ record { board = pair; program = 3; file = 4; loops = []; others = (2 ∷ 1 ∷ []) ∷ (1 ∷ 2 ∷ []) ∷ [] }
    ∷ record { board = unclaimed; program = 2; file = 4; loops = []; others = (2 ∷ 1 ∷ []) ∷ (1 ∷ 2 ∷ []) ∷ [] }
    ∷ record { board = pair; program = 0; file = 4; loops = []; others = (2 ∷ 1 ∷ []) ∷ (1 ∷ 2 ∷ []) ∷ [] }
    -- "each holding back the next and the last the first": not the other way round, and none left out; any of several
    ∷ record {
      board = three Standing.Running;
      program = 3;
      file = 3;
      loops = (1 ∷ 2 ∷ 3 ∷ []) ∷ (2 ∷ 3 ∷ 1 ∷ []) ∷ [];
      others = (3 ∷ 2 ∷ 1 ∷ []) ∷ (1 ∷ 2 ∷ []) ∷ (2 ∷ 3 ∷ []) ∷ (1 ∷ 3 ∷ []) ∷ (1 ∷ 2 ∷ 3 ∷ 4 ∷ []) ∷ [];
    }
    -- unsound: one of them is not admitted
    ∷ record { board = three Standing.Held; program = 3; file = 3; loops = []; others = (1 ∷ 2 ∷ 3 ∷ []) ∷ [] }
    -- unsound: loops that were there before are loops with a file given, but none is given to one that is absent
    ∷ record { board = round; program = 1; file = 3; loops = (1 ∷ 2 ∷ 3 ∷ []) ∷ []; others = (1 ∷ 3 ∷ 2 ∷ []) ∷ [] }
    ∷ record { board = round; program = 4; file = 9; loops = []; others = (1 ∷ 2 ∷ 3 ∷ []) ∷ [] }
    ∷ []

-- the checker's answers to the lists of a row
answers : Checked → List Bool
unfolding any all keep listed distinct everyone admitted touching opening with_given step leads_to closes is_loop_of is_loop_with
answers c = map (is_loop_with c.board c.program c.file) (c.loops ++ c.others)

expected : Checked → List Bool
expected c = map (λ l. true) c.loops ++ map (λ l. false) c.others

checker_computed : map answers checks ≡ map expected checks
unfolding set answers expected checks
checker_computed = refl
