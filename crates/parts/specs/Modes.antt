-- The table of modes, as the code computes it: word by word of six rows.
-- Assumes nothing.
use Rattle.std.specs.Prelude.{ℕ, ◌≡◌, List, length}
use Rattle.std.specs.Int.Bits.{bit_and, bit_or}
use Rattle.files.specs.declared.FileSet.{FileSet}
use Rattle.files.specs.Words.{set_of}
use Rattle.rules.specs.declared.Mode.{Mode}
use Rattle.rules.specs.Modes.{by_mode}

-- what three sets share with three others, in the modes that clash: by columns of the table
abbrev pub clashes : ℕ → ℕ → ℕ → ℕ → ℕ → ℕ → ℕ
clashes w r i v q j = bit_or (bit_or (bit_and (bit_or (bit_or w r) i) v) (bit_and (bit_or w i) q)) (bit_and (bit_or w r) j)

-- the sets in three rows, by mode
abbrev pub rows : List ℕ → List ℕ → List ℕ → Mode → FileSet
rows w r i = by_mode (set_of w) (set_of r) (set_of i)

-- the rows have as many words as the first
pub record SameLengths (w r i v q j : List ℕ) : Type 0 where
  pub of-r : length r ≡ length w
  pub of-i : length i ≡ length w
  pub of-v : length v ≡ length w
  pub of-q : length q ≡ length w
  pub of-j : length j ≡ length w
