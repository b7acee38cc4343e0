-- The image of a board, section by section.
-- Assumes nothing.
use Rattle.std.specs.Prelude.{ℕ, ◌≡◌, refl, Option, None, Some, List, map, Bool, true, false, not, cond, ◌&&◌, length, drop, leb, eqb}
use Rattle.files.specs.declared.FileSet.{FileSet}
use Rattle.rules.specs.declared.Standing.{Standing}
use Rattle.rules.specs.declared.Program.{Program}
use Rattle.rules.specs.declared.Board.{Board}
use Rattle.rules.specs.Boards.{empty_board}
use Rattle.image.specs.Sections.{Section, ◌▸◌, seen, refined, Each, many, zipped, agree, byte, run, number}
unfoldable pub use Rattle.image.specs.Sections.{bytes_n}

-- ---- a set: "8 bytes each, lowest first, file 1 the lowest bit"

abbrev pub to_set : ℕ → FileSet
to_set x = record { bits = x }

abbrev pub from_set : FileSet → ℕ
from_set s = s.bits

-- a set in n bytes
abbrev pub set_with : ℕ → Section FileSet
set_with n = seen to_set from_set (number n)

abbrev pub set_section : Section FileSet
set_section = set_with 8

-- ---- a seat, in four numbers: "standing (0 absent, 1 running, 2 waiting, 3 held), awaited file, 0 unless waiting",
-- "record in use and awaited record (2 each, low byte first, 0 for none)", "The awaited-file byte of a record's user holds its file"

abbrev pub kind_of : Standing → ℕ
kind_of Standing.Absent = 0
kind_of Standing.Running = 1
kind_of (Standing.Waiting f) = 2
kind_of Standing.Held = 3

-- the number in the awaited-file byte, where file is the file of the program's record
abbrev pub file_byte : Standing → ℕ → ℕ
file_byte Standing.Absent file = 0
file_byte Standing.Running file = file
file_byte (Standing.Waiting f) file = f
file_byte Standing.Held file = 0

-- the record in use, of a program with this record
abbrev pub used_by : Standing → ℕ → ℕ
used_by Standing.Absent item = 0
used_by Standing.Running item = item
used_by (Standing.Waiting f) item = 0
used_by Standing.Held item = 0

-- and the awaited one
abbrev pub wanted_by : Standing → ℕ → ℕ
wanted_by Standing.Absent item = 0
wanted_by Standing.Running item = 0
wanted_by (Standing.Waiting f) item = item
wanted_by Standing.Held item = 0

-- the standing of a kind and an awaited-file byte
unfoldable pub standing_of : ℕ → ℕ → Standing
standing_of k f =
    cond (eqb k 0) Standing.Absent
    (cond (eqb k 1) Standing.Running (cond (eqb k 2) (Standing.Waiting f) Standing.Held))

-- the file of the record, where a is the awaited record
unfoldable pub file_of : ℕ → ℕ → ℕ → ℕ
file_of k f a = cond (eqb k 1) f (cond (eqb k 2) (cond (eqb a 0) 0 f) 0)

-- the record, by the record in use and the awaited one
unfoldable pub item_of : ℕ → ℕ → ℕ → ℕ
item_of k u a = cond (eqb k 1) u (cond (eqb k 2) a 0)

-- a record and its file: both or none
unfoldable pub both_or_none : ℕ → ℕ → Bool
both_or_none f u = cond (eqb f 0) (eqb u 0) (not (eqb u 0))

-- Four numbers are those of a seat. Who runs awaits no record, and has a file in the awaited-file byte exactly if a record is in use; nobody else
-- has a record in use; who neither runs nor waits has no file there and awaits no record.
unfoldable pub seat_fits : ℕ → ℕ → ℕ → ℕ → Bool
seat_fits k f u a =
    cond (leb k 3)
    (cond (eqb k 1) (both_or_none f u && eqb a 0) (eqb u 0 && cond (eqb k 2) true (eqb f 0 && eqb a 0)))
    false

-- a seat that has an image: so is every seat of a sound board
unfoldable pub seat_good : Standing → ℕ → ℕ → Bool
seat_good Standing.Absent file item = eqb file 0 && eqb item 0
seat_good Standing.Running file item = both_or_none file item
seat_good (Standing.Waiting f) file item = eqb file (cond (eqb item 0) 0 f)
seat_good Standing.Held file item = eqb file 0 && eqb item 0

abbrev pub GoodProgram : Program → Type 0
GoodProgram q = seat_good q.standing q.file q.item ≡ true

-- ---- a program, in two rows: V, Q, W, R, its standing's byte and the awaited-file byte; "J and I (8 bytes each), record in use and awaited record"

abbrev pub Row : Type 0
Row = (((FileSet × FileSet) × FileSet) × FileSet) × (ℕ × ℕ)

abbrev pub InquiryRow : Type 0
InquiryRow = (FileSet × FileSet) × (ℕ × ℕ)

abbrev pub joined : Row → InquiryRow → Program
joined ((((v, q), w), r), (k, f)) ((j, i), (u, a)) =
    record {
      writable = v;
      readable = q;
      inquirable = j;
      writing = w;
      reading = r;
      inquiring = i;
      standing = standing_of k f;
      file = file_of k f a;
      item = item_of k u a;
    }

abbrev pub row_of : Program → Row
row_of p = ((((p.writable, p.readable), p.writing), p.reading), (kind_of p.standing, file_byte p.standing p.file))

abbrev pub inquiry_of : Program → InquiryRow
inquiry_of p = ((p.inquirable, p.inquiring), (used_by p.standing p.item, wanted_by p.standing p.item))

-- the two rows are those of one program
abbrev pub rows_agree : Row → InquiryRow → Bool
rows_agree r i = seat_fits r.1.0 r.1.1 i.1.0 i.1.1

-- ---- the image: the programs, "then waiting line (32), entry line (32), favoured, number at favouring, leaves", "32 count bytes",
-- and "at its end, per program" the second rows

abbrev pub line_section : Section (List ℕ)
line_section = run 32

abbrev pub numbers_section : Section ((ℕ × ℕ) × ℕ)
numbers_section = byte ▸ byte ▸ byte

abbrev pub counts_section : Section (List ℕ)
counts_section = run 32

abbrev pub items_section : Section (ℕ × ℕ)
items_section = number 2 ▸ number 2

-- what comes before the second rows
abbrev pub Front : Type 0
Front = (((List Row × List ℕ) × List ℕ) × ((ℕ × ℕ) × ℕ)) × List ℕ

abbrev pub BoardParts : Type 0
BoardParts = Front × List InquiryRow

-- the second row, by the section of a set
abbrev pub inquiry_with : Section FileSet → Section InquiryRow
inquiry_with set = set ▸ set ▸ items_section

-- by the sections of a set and of the awaited file
module _ (set : Section FileSet) (file : Section ℕ) where
  abbrev pub row_with : Section Row
  row_with = set ▸ set ▸ set ▸ set ▸ (byte ▸ file)

  abbrev pub front_with : Section Front
  front_with = many 32 row_with ▸ line_section ▸ line_section ▸ numbers_section ▸ counts_section

  abbrev pub parts_with : Section BoardParts
  parts_with = front_with ▸ many 32 (inquiry_with set)

abbrev pub to_board : BoardParts → Board
to_board (((((rs, w), e), ((f, n), v)), c), is) =
    record { programs = zipped joined rs is; waiting = w; entry = e; favoured = f; initial = n; leaves = v; passed = c }

abbrev pub from_board : Board → BoardParts
from_board b = (
  ((((map row_of b.programs, b.waiting), b.entry), ((b.favoured, b.initial), b.leaves)), b.passed),
  map inquiry_of b.programs,
)

-- each program's two rows are those of one program
abbrev pub parts_agree : BoardParts → Bool
parts_agree (((((rs, w), e), ns), c), is) = agree rows_agree rs is

abbrev pub GoodSeats : Board → Type 0
GoodSeats b = Each GoodProgram b.programs

abbrev pub image_with : Section FileSet → Section ℕ → Section Board
image_with set file = refined to_board from_board parts_agree GoodSeats (parts_with set file)

-- "awaited file", a number in one byte
abbrev pub awaited_section : Section ℕ
awaited_section = number 1

-- sets of 8 bytes, and a byte for the awaited file
abbrev pub row_section : Section Row
row_section = row_with set_section awaited_section

abbrev pub inquiry_section : Section InquiryRow
inquiry_section = inquiry_with set_section

abbrev pub rows_section : Section (List Row)
rows_section = many 32 row_section

abbrev pub inquiries_section : Section (List InquiryRow)
inquiries_section = many 32 inquiry_section

abbrev pub front_section : Section Front
front_section = front_with set_section awaited_section

abbrev pub parts_section : Section BoardParts
parts_section = parts_with set_section awaited_section

abbrev pub image_section : Section Board
image_section = image_with set_section awaited_section

abbrev pub image_length : ℕ
image_length = image_section.size

-- the bytes of the second rows of an image
abbrev pub inquiries_in : List ℕ → List ℕ
inquiries_in l = drop front_section.size l

-- "1,827 in all"
pub length_02 : image_length ≡ 1827
length_02 = refl

-- the image of a board
unfoldable pub image_of : Board → List ℕ
image_of = image_section.write

-- the board of an image
unfoldable pub board_of : List ℕ → Board
board_of = image_section.read

-- an image that hasn't its length or isn't of its layout; whether the board is sound is asked by the caller
abbrev pub refused_image : Option Board
refused_image = None

-- what reading an image finds: the board, or a refusal
unfoldable pub loaded_of : List ℕ → Option Board
loaded_of l =
    cond (eqb (length l) image_length) (cond (image_section.fits l) (Some (board_of l)) refused_image) refused_image

-- the board that was read; "Reading a refused image gives the empty board."
abbrev pub board_or_empty : Option Board → Board
board_or_empty None = empty_board
board_or_empty (Some b) = b

-- ---- writing into a buffer

-- the buffer has the length of an image
abbrev pub image_fits : List ℕ → Bool
image_fits buffer = eqb (length buffer) image_length

-- the buffer after the image of a board, sound or not, is written into it; one of another length stays as it was
abbrev pub image_in : List ℕ → Board → List ℕ
image_in buffer b = cond (image_fits buffer) (image_of b) buffer
