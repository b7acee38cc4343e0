-- Sets of the numbers 1 to w as the bits of one number: k is bit k - 1. Any other number is in no set, joins none and leaves none.
-- Assumes nothing.
use Rattle.std.specs.Prelude.{ℕ, ◌-◌, ◌/◌, ◌%◌, ◌^◌, Bool, not, cond, ◌&&◌, eqb, leb}
use Rattle.std.specs.Int.Bits.{bit_and, bit_or, bit_xor}

-- bit i of m is 1
abbrev pub has_bit : ℕ → ℕ → Bool
has_bit m i = eqb (m / 2 ^ i % 2) 1

-- m with bit i
abbrev pub with_bit : ℕ → ℕ → ℕ
with_bit m i = bit_or m (2 ^ i)

-- m without bit i
abbrev pub without_bit : ℕ → ℕ → ℕ
without_bit m i = cond (has_bit m i) (m - 2 ^ i) m

-- some bit is 1 in both
abbrev pub share : ℕ → ℕ → Bool
share a b = not (eqb (bit_and a b) 0)

-- the bits of a that are not in b
abbrev pub less_bits : ℕ → ℕ → ℕ
less_bits a b = bit_xor a (bit_and a b)

-- every bit of a is in b
abbrev pub covers : ℕ → ℕ → Bool
covers a b = eqb (bit_and a b) a

-- k is one of 1 to w
abbrev pub is_number : ℕ → ℕ → Bool
is_number w k = leb 1 k && leb k w

-- k is in the set m
abbrev pub has_number : ℕ → ℕ → ℕ → Bool
has_number w m k = is_number w k && has_bit m (k - 1)

-- m and k
abbrev pub with_number : ℕ → ℕ → ℕ → ℕ
with_number w m k = cond (is_number w k) (with_bit m (k - 1)) m

-- m but k
abbrev pub without_number : ℕ → ℕ → ℕ → ℕ
without_number w m k = cond (is_number w k) (without_bit m (k - 1)) m
