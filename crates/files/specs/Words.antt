-- A set of files as words of 64 bits that stand in a row, lowest first: place i, that of file i + 1, is bit i % 64 of word i / 64.
-- The number of words is any.
-- Assumes nothing.
use Rattle.std.specs.Prelude.{ℕ, ◌+◌, ◌-◌, ◌*◌, ◌/◌, ◌%◌, ◌^◌, cond, List, [], ◌∷◌, get_or, set, replicate}
use Rattle.files.specs.Bits.{with_bit, without_bit}
use Rattle.files.specs.Sets.{is_file}
use Rattle.files.specs.declared.FileSet.{FileSet}

-- how many words a set has in the code: enough for the files 1 to 64
abbrev pub word_count : ℕ
word_count = 1

-- the number that the words are
unfoldable pub bits_of : List ℕ → ℕ
bits_of [] = 0
bits_of (w ∷ ws) = w % 2 ^ 64 + 2 ^ 64 * bits_of ws

-- the set that the words are
abbrev pub set_of : List ℕ → FileSet
set_of ws = record { bits = bits_of ws }

-- the words with file f, and without it
abbrev pub with_file : List ℕ → ℕ → List ℕ
with_file ws f = cond (is_file f) (set ws ((f - 1) / 64) (with_bit (get_or ws ((f - 1) / 64) 0) ((f - 1) % 64))) ws

abbrev pub without_file : List ℕ → ℕ → List ℕ
without_file ws f = cond (is_file f) (set ws ((f - 1) / 64) (without_bit (get_or ws ((f - 1) / 64) 0) ((f - 1) % 64))) ws

-- n words, the first of which has the files 1 to 64 of a set
abbrev pub words_for : ℕ → FileSet → List ℕ
words_for n s = set (replicate n 0) 0 s.bits

-- two rows of words, word by word
unfoldable pub wordwise : (ℕ → ℕ → ℕ) → List ℕ → List ℕ → List ℕ
wordwise g [] ws = []
wordwise g (v ∷ vs) [] = v ∷ vs
wordwise g (v ∷ vs) (w ∷ ws) = g v w ∷ wordwise g vs ws
