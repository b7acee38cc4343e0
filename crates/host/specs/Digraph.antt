-- The matrix of an image's board and its loops, as a C host gets them.
-- Assumes nothing.
use Rattle.std.specs.Prelude.{ℕ, Some, is_some, ◌≡◌, ◌≢◌, ◌⊎◌, true, false, cond, List, ◌++◌, ltb, length, drop}
use Rattle.std.specs.Option.{option_map_or}
use Rattle.rules.specs.declared.Board.{Board}
use Rattle.rules.specs.Boards.{is_program, is_waiting, at, awaited}
use Rattle.rules.specs.Digraph.{is_loop_with}
use Rattle.columns.specs.Rows.{flat}
use Rattle.image.specs.Image.{bytes_n}
use Rattle.digraph.specs.Rows.{matrix_of}
use Rattle.host.specs.Host.{read_image, refusal_answer}

-- ---- the matrix

-- its 128 bytes: for each program a row of four, lowest first; in the row of p bit i - 1 says that i reaches p
abbrev pub matrix_bytes : Board → List ℕ
matrix_bytes b = flat (bytes_n 4) (matrix_of b)

-- refusal 1 for an image that isn't read, then 17 for a buffer of fewer than 128 bytes, else 128
unfoldable pub reach_answer : List ℕ → List ℕ → ℕ
reach_answer image buffer =
    cond (is_some (read_image image)) (cond (ltb (length buffer) 128) (refusal_answer 17) 128) (refusal_answer 1)

-- the buffer then: the matrix from its start, and the bytes after it as before; on a refusal the same bytes as before
unfoldable pub reach_rows : List ℕ → List ℕ → List ℕ
reach_rows image buffer =
    option_map_or (λ b. cond (ltb (length buffer) 128) buffer (matrix_bytes b ++ drop 128 buffer)) (read_image image) buffer

-- ---- a waiter's loop

-- what a list of 32 bytes or more then holds: for a program that waits for a file a loop with it given, any one, from its start on, and the answer is
-- how many programs it has; for one that doesn't wait, or waits for a record, nothing is written, and the answer is 0
pub record LoopPlaced (b : Board) (p : ℕ) (before : List ℕ) (answer : ℕ) (after : List ℕ) : Type 0 where
  pub waits : is_waiting (at b p).standing ≡ true → (at b p).item ≡ 0
      → (L : List ℕ) × (is_loop_with b p (awaited b p) L ≡ true) × (answer ≡ length L) × (after ≡ L ++ drop (length L) before)
  pub waits_not : (is_waiting (at b p).standing ≡ false) ⊎ ((at b p).item ≢ 0) → (answer ≡ 0) × (after ≡ before)

-- refusal 1 for an image that isn't read, then 8 for a number that is no program's, then 17 for a list of fewer than 32 bytes; 0 for none
unfoldable pub loop_refusal : List ℕ → ℕ → List ℕ → ℕ
loop_refusal image p list = cond (is_some (read_image image)) (cond (is_program p) (cond (ltb (length list) 32) 17 0) 8) 1

-- a refusal writes nothing; "Which loop is free"
pub record LoopReply (image : List ℕ) (p : ℕ) (before : List ℕ) (answer : ℕ) (after : List ℕ) : Type 0 where
  pub refused : loop_refusal image p before ≢ 0 → (answer ≡ refusal_answer (loop_refusal image p before)) × (after ≡ before)
  pub placed : (b : Board) → read_image image ≡ Some b → loop_refusal image p before ≡ 0 → LoopPlaced b p before answer after

-- ---- the checker

-- 1 if the list is a loop of the image's board with f given to p, otherwise 0; refusal 1 for an image that isn't read
unfoldable pub is_loop_answer : List ℕ → ℕ → ℕ → List ℕ → ℕ
is_loop_answer image p f list =
    option_map_or (λ b. cond (is_loop_with b p f list) 1 0) (read_image image) (refusal_answer 1)
