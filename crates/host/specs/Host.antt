-- The calls of a C host over the bytes of an image, as definitions: the line call on the board of the image, and the board's order.
-- Assumes nothing.
use Rattle.std.specs.Prelude.{ℕ, ◌-◌, ◌^◌, Bool, cond, Option, None, Some, List, [], ◌++◌, eqb, ltb, length, drop}
use Rattle.std.specs.Option.{option_map_or}
use Rattle.std.proofs.Math.Option.{get_or}
use Rattle.rules.specs.declared.Board.{Board}
use Rattle.rules.specs.Boards.{empty_board}
use Rattle.rules.specs.Orders.{carried}
use Rattle.rules.specs.Soundness.{sound}
use Rattle.rules.specs.Replies.{refusal_of}
use Rattle.store.specs.Sets.{Sets}
use Rattle.store.specs.declared.Rest.{Rest}
use Rattle.image.specs.Stored.{loaded_in}
use Rattle.image.specs.Image.{loaded_of, image_of, refused_image, board_or_empty, image_fits, image_in}
use Rattle.linecall.specs.LineCall.{Outcome, line_call}

-- ---- reading an image

-- check 1 of an image: "board not sound", or image not 1,827 bytes "or not of its layout"
abbrev pub sound_only : Option Board → Option Board
sound_only None = refused_image
sound_only (Some b) = cond (sound b) (Some b) refused_image

-- the board of an image; none of a refused one
unfoldable pub read_image : List ℕ → Option Board
read_image image = sound_only (loaded_of image)

-- the board that a host goes on with; "Reading a refused image gives the empty board."
unfoldable pub read_board : List ℕ → Board
read_board image = board_or_empty (read_image image)

-- the same of an image that is taken into sets and a rest: they have its board, or it is refused
abbrev pub taken_in : Sets → Option Rest → Option Board
taken_in sets r = loaded_in sets r

-- ---- the call of a C host

-- what a C host gets: the answer, and its image and journal after the call
pub record Hosted : Type 0 where
  pub answer : ℕ
  pub image : List ℕ
  pub journal : List ℕ

-- a refusal as a C host gets it, 2^64 less its number: "the largest 64-bit number for refusal 1, one less for 2"
abbrev pub refusal_answer : ℕ → ℕ
refusal_answer n = 2 ^ 64 - n

-- the answer of refusal 1 or 2, else the new place
abbrev pub host_answer : ℕ → ℕ → ℕ
host_answer n place = cond (eqb n 1) (refusal_answer 1) (cond (eqb n 2) (refusal_answer 2) place)

-- "its image then holds the board after the call, on a refusal the same bytes as before"
abbrev pub host_image : ℕ → List ℕ → Board → List ℕ
host_image n image b = cond (eqb n 0) (image_of b) image

abbrev pub hosted_by : List ℕ → Outcome → Hosted
hosted_by image o =
    record {
      answer = host_answer (refusal_of o.reply.answer) o.place;
      image = host_image (refusal_of o.reply.answer) image o.reply.board;
      journal = o.journal;
    }

-- the C host's call: an image that is not of its layout is refused with 1; otherwise the line call on its board
unfoldable pub host_call : List ℕ → List ℕ → List ℕ → ℕ → Hosted
host_call image line journal place =
    option_map_or (λ b. hosted_by image (line_call b line journal place)) (loaded_of image)
    (record { answer = host_answer 1 place; image = image; journal = journal })

-- ---- an image to begin with

-- the image of the empty board is written into a buffer of 1,827 bytes; one of another length stays as it was
abbrev pub empty_image : List ℕ → List ℕ
empty_image image = image_in image empty_board

-- 0 if it was written, and the answer of refusal 1 if not
abbrev pub empty_answer : List ℕ → ℕ
empty_answer image = cond (image_fits image) 0 (refusal_answer 1)

-- ---- the order of an image's board

-- the carried order of a board, as its answers carry it; a sound board has one
abbrev pub order_now : Board → List ℕ
order_now b = get_or (carried b) []

-- the buffer is shorter than the order
abbrev pub is_short : List ℕ → List ℕ → Bool
is_short order buffer = ltb (length buffer) (length order)

-- how many numbers the order has; refusal 17 for a buffer that is shorter
abbrev pub placed_answer : List ℕ → List ℕ → ℕ
placed_answer order buffer = cond (is_short order buffer) (refusal_answer 17) (length order)

-- the order's numbers from the buffer's start, and the bytes after them as before; a shorter buffer stays as it was
abbrev pub placed_in : List ℕ → List ℕ → List ℕ
placed_in order buffer = cond (is_short order buffer) buffer (order ++ drop (length order) buffer)

-- what a C host gets that asks for the order: refusal 1 for an image that isn't read, then 17, else how many numbers it has
unfoldable pub order_answer : List ℕ → List ℕ → ℕ
order_answer image buffer = option_map_or (λ b. placed_answer (order_now b) buffer) (read_image image) (refusal_answer 1)

-- its buffer then: the carried order of the image's board stands in it; on a refusal the same bytes as before
unfoldable pub order_buffer : List ℕ → List ℕ → List ℕ
order_buffer image buffer = option_map_or (λ b. placed_in (order_now b) buffer) (read_image image) buffer
