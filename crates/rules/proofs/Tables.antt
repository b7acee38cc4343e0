-- What the tables of boards and calls are written with.
-- Assumes nothing.
use Prim.Native.Nat.{ℕ}
use mathlib.Core.List.{List, [], ◌∷◌}
use Rattle.files.specs.declared.FileSet.{FileSet}
use Rattle.files.specs.Sets.{no_files, adding}
use Rattle.rules.specs.declared.Standing.{Standing}
use Rattle.rules.specs.declared.Program.{Program}
use Rattle.rules.specs.Modes.{by_mode}
use Rattle.rules.specs.Boards.{no_program, set_standing, set_claims, set_open}

-- the set of these files
unfoldable pub set : List ℕ → FileSet
set [] = no_files
set (f ∷ fs) = adding (set fs) f

-- a program with V, Q, W, R and its standing, nothing for inquiry and no record
unfoldable pub program : List ℕ → List ℕ → List ℕ → List ℕ → Standing → Program
program v q w r s =
    set_open (set_claims (set_standing no_program s) (by_mode (set v) (set q) no_files)) (by_mode (set w) (set r) no_files)
