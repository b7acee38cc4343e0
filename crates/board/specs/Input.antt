-- What bytes of input do: a line that byte 10 ends is a line call, with a board and journal lines after it. Last the ORDER line.
-- Assumes nothing.
use Rattle.std.specs.Prelude.{ℕ, ◌+◌, ◌-◌, ◌*◌, cond, List, [], ◌∷◌, ◌++◌, eqb, length, take, replicate}
use Rattle.rules.specs.declared.Board.{Board}
use Rattle.rules.specs.Boards.{empty_board}
use Rattle.laws.specs.Lists.{names}
use Rattle.rules.specs.Orders.{carried}
use Rattle.search.specs.Rows.{as_order}
use Rattle.columns.specs.Columns.{word_width, program_width, columns_of}
use Rattle.columns.specs.Rows.{flat}
use Rattle.request.specs.Verbs.{cut_line}
use Rattle.journal.specs.Journal.{journal_room}
use Rattle.linecall.specs.LineCall.{Outcome, line_call}

-- ---- limits of the program

-- bytes of its journal's buffer, and of each read
abbrev pub buffer_length : ℕ
buffer_length = 65536

-- the last place from which the journal has room for a call
abbrev pub last_place : ℕ
last_place = buffer_length - journal_room

-- columns of the longest ORDER line
abbrev pub order_columns : ℕ
order_columns = word_width + program_width * 32

-- the bytes before the first byte 10
unfoldable pub first_line : List ℕ → List ℕ
first_line [] = []
first_line (x ∷ xs) = cond (eqb x 10) [] (x ∷ first_line xs)

-- ---- a line

-- the line call with room in an empty journal
abbrev pub called : Board → List ℕ → Outcome
called b line = line_call b line (replicate journal_room 0) 0

-- the board after it, and the bytes of its journal lines
unfoldable pub board_after : Board → List ℕ → Board
board_after b line = (called b line).reply.board

unfoldable pub bytes_after : Board → List ℕ → List ℕ
bytes_after b line = take (called b line).place (called b line).journal

-- ---- bytes one after another

-- a board, the bytes so far of a line that has not ended, and the journal that is not written yet
pub record Fed : Type 0 where
  pub board : Board
  pub line : List ℕ
  pub journal : List ℕ

abbrev pub held : Board → List ℕ → List ℕ → Fed
held b line journal = record { board = b; line = line; journal = journal }

-- the journal has been written
abbrev pub flushed : Fed → Fed
flushed s = held s.board s.line []

-- the line has ended
unfoldable pub served : Fed → Fed
served s = held (board_after s.board s.line) [] (s.journal ++ bytes_after s.board s.line)

-- one byte; "The longest line has 602 bytes; a longer one is cut to 603."
unfoldable pub feed : Fed → ℕ → Fed
feed s x = cond (eqb x 10) (served s) (held s.board (take cut_line (s.line ++ (x ∷ []))) s.journal)

-- bytes one after another
unfoldable pub fed : Fed → List ℕ → Fed
fed s [] = s
fed s (x ∷ xs) = fed (feed s x) xs

-- the end of the input: "a last line may lack" byte 10
unfoldable pub finished : Fed → Fed
finished s = cond (eqb (length s.line) 0) s (served s)

-- ---- the output

-- "a line of ORDER, one blank and three columns per program of the order"
abbrev pub order_word : List ℕ
order_word = 79 ∷ 82 ∷ 68 ∷ 69 ∷ 82 ∷ 32 ∷ []

unfoldable pub order_line : List ℕ → List ℕ
order_line order = order_word ++ (flat (columns_of program_width) (names order) ++ (10 ∷ []))

-- the ORDER line of a board
unfoldable pub order_of : Board → List ℕ
order_of b = order_line (as_order (carried b)).at

-- what is still to be written at the end of the input
unfoldable pub ending : Fed → List ℕ
ending s = (finished s).journal ++ order_of (finished s).board

-- "starts empty, writes the journal and last a line of ORDER": all of the output
unfoldable pub output : List ℕ → List ℕ
output input = ending (fed (held empty_board [] []) input)
