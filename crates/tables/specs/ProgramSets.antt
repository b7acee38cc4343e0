-- Sets of programs, as sets of the numbers 1 to 32.
-- Assumes nothing.
use Rattle.std.specs.Iterator.{Count, at_most}
use Rattle.std.specs.Prelude.{ℕ, ◌≤◌, ◌<◌, ◌≡◌, Bool, true, false, Option, MatchOption}
use Rattle.std.proofs.Math.Option.{get_or}
use Rattle.std.specs.Int.Bits.{bit_and, bit_or}
use Rattle.files.specs.Bits.{has_number, with_number, without_number, share, less_bits}
use Rattle.laws.specs.Lists.{first}
use Rattle.rules.specs.Boards.{everyone}
use Rattle.tables.specs.declared.ProgramSet.{ProgramSet}
use Rattle.tables.specs.declared.Members.{Members}

abbrev pub no_programs : ProgramSet
no_programs = record { bits = 0 }

-- p is in s
abbrev pub has_program : ProgramSet → ℕ → Bool
has_program s p = has_number 32 s.bits p

-- s and p
abbrev pub with_program : ProgramSet → ℕ → ProgramSet
with_program s p = record { bits = with_number 32 s.bits p }

-- s but p
abbrev pub without_program : ProgramSet → ℕ → ProgramSet
without_program s p = record { bits = without_number 32 s.bits p }

-- the sets have a program in common
abbrev pub programs_meet : ProgramSet → ProgramSet → Bool
programs_meet s t = share s.bits t.bits

-- the programs of both
abbrev pub union_of : ProgramSet → ProgramSet → ProgramSet
union_of s t = record { bits = bit_or s.bits t.bits }

-- the programs that they have in common
abbrev pub common_of : ProgramSet → ProgramSet → ProgramSet
common_of s t = record { bits = bit_and s.bits t.bits }

-- the programs of s that are not in t
abbrev pub less_of : ProgramSet → ProgramSet → ProgramSet
less_of s t = record { bits = less_bits s.bits t.bits }

-- the lowest program of s, or 0
unfoldable pub lowest_of : ProgramSet → ℕ
lowest_of s = get_or (first (has_program s) everyone) 0

-- p is the lowest program of s: it is in s, and none below it is
abbrev pub IsLowest : ProgramSet → ℕ → Type 0
IsLowest s p = (1 ≤ p) × (p ≤ 32) × (has_program s p ≡ true) × ((q : ℕ) → q < p → has_program s q ≡ false)

-- r has those of s that pass a test, and no others, where `comes` says what the test of each comes to
abbrev pub PassedBy : (ℕ → Bool → Type 0) → ProgramSet → ProgramSet → Type 0
PassedBy comes s r = ((p : ℕ) → has_program s p ≡ true → comes p (has_program r p)) × ((p : ℕ) → has_program s p ≡ false → has_program r p ≡ false)

-- the same of all programs
abbrev pub AllPassedBy : (ℕ → Bool → Type 0) → ProgramSet → Type 0
AllPassedBy comes r = (p : ℕ) → 1 ≤ p → p ≤ 32 → comes p (has_program r p)

-- a step of a walk gave r, and left t of what was left, s: its lowest, and the others; or nothing where nothing was left
abbrev pub GivesLowest : Members → Option ℕ → Members → Type 0
GivesLowest s r t = MatchOption r (s.left.bits ≡ 0) (λ p. IsLowest s.left p × (t.left ≡ without_program s.left p))

-- a walk ends: each step takes the number of the set down
abbrev pub programs_left : Members → Count
programs_left s = at_most s.left.bits
