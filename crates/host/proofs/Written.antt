-- Laws of the writer as a C host calls it, for its functions. Assumes nothing.
use Prim.Native.Nat.{ℕ, ◌*◌, ◌≤◌}
use mathlib.Core.Path.{◌≡◌}
use mathlib.Core.List.{List}
use lib.ListN.{length, take, drop}
use borrow.Author.Tests.{eq-eqb, ne_eqb}
use native.Mathlib.Omega.{arith}
use Rattle.files.specs.declared.FileSet.{FileSet}
use Rattle.rules.specs.Calls.{claiming, no_claims}
use Rattle.image.specs.Image.{set_section}
use Rattle.image.proofs.Laws.{take_same}
use Rattle.writer.specs.declared.Unwritten.{Unwritten}
use Rattle.writer.specs.Writer.{unwritten_number}
use Rattle.host.specs.Writing.{claims_length, set_at, claims_in}

-- every refusal has a number
pub unwritten_some : (r : Unwritten) → 1 ≤ unwritten_number r
unwritten_some Unwritten.OutOfRange = omega arith
unwritten_some Unwritten.BadRecord = omega arith
unwritten_some Unwritten.BadLabel = omega arith
unwritten_some Unwritten.BufferShort = omega arith

-- ---- claims

-- a set, from the part that has its bytes
abbrev part_at : ℕ → List ℕ → List ℕ
part_at k claims = take set_section.size (drop k claims)

part_set : (claims : List ℕ) (k : ℕ) (s : FileSet) → s ≡ set_section.read (part_at k claims) → s ≡ set_at k claims
part_set claims k s h = simp take_same at h

-- the claims of bytes that have their length, and of others
pub claims-read : (claims : List ℕ) (v q j : FileSet) → length claims ≡ claims_length → v ≡ set_section.read (part_at 0 claims)
    → q ≡ set_section.read (part_at set_section.size claims) → j ≡ set_section.read (part_at (2 * set_section.size) claims)
    → claiming v q j ≡ claims_in claims
unfolding claims_in
claims-read claims v q j e hv hq hj = rw (
  eq-eqb (length claims) claims_length e,
  part_set claims 0 v hv,
  part_set claims set_section.size q hq,
  part_set claims (2 * set_section.size) j hj,
)

pub claims-none : (claims : List ℕ) → (length claims ≡ claims_length → ⊥) → no_claims ≡ claims_in claims
unfolding claims_in
claims-none claims h = rw (ne_eqb (length claims) claims_length h)
