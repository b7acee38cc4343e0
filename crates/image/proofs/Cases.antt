-- The image of a board with records, byte by byte, and what its layout allows, computed. Assumes nothing.
use Prim.Native.Nat.{ℕ, suc}
use mathlib.Core.Path.{◌≡◌, refl}
use mathlib.Core.List.{List, [], ◌∷◌, map}
use mathlib.Core.Bool.{Bool, true, false, cond}
use lib.Dec.{eqb}
use lib.ListN.{set, replicate}
use Rattle.files.specs.declared.FileSet.{FileSet}
use Rattle.rules.specs.declared.Standing.{Standing}
use Rattle.rules.specs.declared.Program.{Program}
use Rattle.rules.specs.declared.Board.{Board}
use Rattle.rules.specs.Boards.{no_program}
use Rattle.columns.specs.Rows.{flat}
use Rattle.image.specs.Sections.{bytes_n, value_of, read_many, fit_many, agree}
use Rattle.image.specs.Image.{both_or_none, seat_fits, image_section, image_of}

-- ---- a board: 1 may write 1, has 3 open for inquiry and its record 300 in use; 2 may read 2, which it has open, and have 3 and 64 for inquiry,
-- has 3 open for inquiry and awaits record 300; 4 may write 9 and runs

abbrev files : ℕ → FileSet
files x = record { bits = x }

abbrev one : Program
one =
    record {
      writable = files 1;
      readable = files 0;
      inquirable = files 4;
      writing = files 0;
      reading = files 0;
      inquiring = files 4;
      standing = Standing.Running;
      file = 3;
      item = 300;
    }

abbrev two : Program
two =
    record {
      writable = files 0;
      readable = files 2;
      inquirable = files 9223372036854775812;
      writing = files 0;
      reading = files 2;
      inquiring = files 4;
      standing = Standing.Waiting 3;
      file = 3;
      item = 300;
    }

abbrev four : Program
four =
    record {
      writable = files 256;
      readable = files 0;
      inquirable = files 0;
      writing = files 0;
      reading = files 0;
      inquiring = files 0;
      standing = Standing.Running;
      file = 0;
      item = 0;
    }

abbrev board : Board
board =
    record {
      programs = one ∷ two ∷ no_program ∷ four ∷ replicate 28 no_program;
      waiting = 2 ∷ replicate 31 0;
      entry = replicate 32 0;
      favoured = 0;
      initial = 0;
      leaves = 0;
      passed = 0 ∷ 1 ∷ replicate 30 0;
    }

-- ---- its image

abbrev noted : ℕ → ℕ → List (ℕ × ℕ) → List (ℕ × ℕ)
noted i x rest = cond (eqb x 0) rest ((i, x) ∷ rest)

-- the bytes that aren't 0, with their places from i on
unfoldable pub shown : ℕ → List ℕ → List (ℕ × ℕ)
shown i [] = []
shown i (x ∷ l) = noted i x (shown (suc i) l)

pub bytes_are : shown 0 (image_of board)
    ≡ (0, 1) ∷ (32, 1) ∷ (33, 3)
    ∷ (42, 2) ∷ (58, 2) ∷ (66, 2) ∷ (67, 3)
    ∷ (103, 1) ∷ (134, 1)
    ∷ (1088, 2)
    ∷ (1156, 1)
    ∷ (1187, 4) ∷ (1195, 4) ∷ (1203, 44) ∷ (1204, 1)
    ∷ (1207, 4) ∷ (1214, 128) ∷ (1215, 4) ∷ (1225, 44) ∷ (1226, 1) ∷ []
unfolding shown image_of flat bytes_n
bytes_are = refl

-- ---- the layout

-- the image with one byte changed: its place, the byte, and whether that is of the layout
abbrev Changed : Type 0
Changed = (ℕ × ℕ) × Bool

-- a standing of 2 or 3 with a record in use; no file of it, and another (which isn't sound); 2 with a standing of 0 or 1; no file that it waits for, and no
-- record (neither is sound); an awaited record of one that runs; a record in use of one that waits; a file and a record of 4, which has none
abbrev changes : List Changed
changes =
    ((32, 1), true) ∷ ((32, 2), false) ∷ ((32, 3), false) ∷ ((32, 4), false) ∷ ((33, 0), false) ∷ ((33, 5), true)
    ∷ ((66, 0), false) ∷ ((66, 1), false) ∷ ((66, 3), false) ∷ ((67, 0), true)
    ∷ ((1205, 7), false) ∷ ((1206, 1), false) ∷ ((1223, 44), false) ∷ ((1224, 1), false)
    ∷ ((135, 9), false) ∷ ((1263, 1), false) ∷ ((1266, 1), false) ∷ []

abbrev tried : Changed → Changed
tried ((i, x), t) = ((i, x), image_section.fits (set (image_of board) i x))

pub layout_is : map tried changes ≡ changes
unfolding image_of flat bytes_n value_of read_many fit_many agree seat_fits both_or_none
layout_is = refl
