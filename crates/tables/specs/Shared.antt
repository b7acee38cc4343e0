-- The files that some of several programs have, and those that two of them have, as words.
-- Assumes nothing.
use Rattle.std.specs.Prelude.{ℕ, zero, suc, ◌-◌, ◌≡◌, ◌≢◌, ◌↔◌, Bool, true, List, length, replicate}
use Rattle.std.specs.Int.Bits.{bit_and, bit_or}
use Rattle.files.specs.Bits.{has_bit, less_bits}
use Rattle.files.specs.Words.{word_count, bits_of, wordwise}
use Rattle.rules.specs.declared.Mode.{Mode}
use Rattle.rules.specs.declared.Mode.TheVariants.{Write, Read, Inquiry}
use Rattle.store.specs.Sets.{Sets, row_in, claim_place, open_place}
use Rattle.tables.specs.declared.shared.Shared.{Shared}
use Rattle.tables.specs.declared.shared.OpenFiles.{OpenFiles}

-- of no program
abbrev pub none_shared : Shared
none_shared = record { once = replicate word_count 0; twice = replicate word_count 0 }

-- with one more program, which has these files
abbrev pub sharing : Shared → List ℕ → Shared
sharing k s = record { once = wordwise bit_or k.once s; twice = wordwise bit_or k.twice (wordwise bit_and k.once s) }

-- of the programs 1 to n, which have the files g
unfoldable pub shared_to : (ℕ → List ℕ) → ℕ → Shared
shared_to g zero = none_shared
shared_to g (suc n) = sharing (shared_to g n) (g (suc n))

-- what the others have than one that has these
abbrev pub others_of : Shared → List ℕ → List ℕ
others_of k own = wordwise bit_or k.twice (wordwise less_bits k.once own)

-- what is open in a mode
abbrev pub open_in : Mode → OpenFiles → List ℕ
open_in Write o = o.writing
open_in Read o = o.reading
open_in Inquiry o = o.inquiring

-- by the sets: what p has open in a mode
abbrev pub open_row : Sets → Mode → ℕ → List ℕ
open_row sets m p = row_in sets (open_place m (p - 1))

-- what all programs have open
abbrev pub opened_in : Sets → OpenFiles
opened_in sets =
    record {
      writing = (shared_to (open_row sets Write) 32).once;
      reading = (shared_to (open_row sets Read) 32).once;
      inquiring = (shared_to (open_row sets Inquiry) 32).once;
    }

-- what stands in three rows, by mode
abbrev pub in_any_mode : (Mode → List ℕ) → List ℕ
in_any_mode g = wordwise bit_or (wordwise bit_or (g Write) (g Read)) (g Inquiry)

-- what p claims, in any mode
abbrev pub claimed_at : Sets → ℕ → List ℕ
claimed_at sets p = in_any_mode (λ m. row_in sets (claim_place m (p - 1)))

-- what p has open, in any mode
abbrev pub opened_at : Sets → ℕ → List ℕ
opened_at sets p = in_any_mode (λ m. open_row sets m p)

-- place x is in the words
abbrev pub in_words : List ℕ → ℕ → Bool
in_words ws x = has_bit (bits_of ws) x

-- once has the files that some program has that passes the test, and twice those that two different ones have
pub record SharedBy (g : ℕ → List ℕ) (t : ℕ → Bool) (k : Shared) : Type 0 where
  pub once-words : length k.once ≡ word_count
  pub twice-words : length k.twice ≡ word_count
  pub once_is : (x : ℕ) → (in_words k.once x ≡ true) ↔ ((p : ℕ) × (t p ≡ true) × (in_words (g p) x ≡ true))
  pub twice-is : (x : ℕ) → (in_words k.twice x ≡ true) ↔ ((p q : ℕ) × (p ≢ q) × (t p ≡ true) × (t q ≡ true)
      × (in_words (g p) x ≡ true) × (in_words (g q) x ≡ true))
