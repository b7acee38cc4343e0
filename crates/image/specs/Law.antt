-- What the laws of sections and of the image speak of: bytes, the two round trips, and a board as the code has it.
-- Assumes nothing.
use Rattle.std.specs.Prelude.{ℕ, ◌≤◌, ◌<◌, ◌≡◌, List, ◌++◌, true, length, get_or, take}
use Rattle.rules.specs.declared.Board.{Board}
use Rattle.image.specs.Sections.{Section, number}
use Rattle.image.specs.Image.{set_section, parts_with, from_board}

-- each number of the list is a byte: so is every slice of bytes
abbrev pub Bytes : List ℕ → Type 0
Bytes l = (i : ℕ) → get_or l i 0 < 256

-- The laws of a section. What it writes has its size, fits and reads back equal, whatever comes after it; bytes that fit are those that it writes.
pub record Lawful {A : Type 0} (s : Section A) : Type 0 where
  pub long : (a : A) → s.holds a → length (s.write a) ≡ s.size
  pub fit : (a : A) (rest : List ℕ) → s.holds a → s.fits (s.write a ++ rest) ≡ true
  pub back : (a : A) (rest : List ℕ) → s.holds a → s.read (s.write a ++ rest) ≡ a
  pub again : (l : List ℕ) → Bytes l → s.size ≤ length l → s.fits l ≡ true → s.write (s.read l) ≡ take s.size l

-- 32 programs, lines of 32 places, 32 counts, sets of files, and files and records of two bytes: so is every Board of the code, by its type
abbrev pub BoardOfCode : Board → Type 0
BoardOfCode b = (parts_with set_section (number 2)).holds (from_board b)
