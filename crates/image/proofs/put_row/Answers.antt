use Prim.Native.Nat.{ℕ, ◌-◌}
use mathlib.Core.Path.{refl, ◌∙◌}
use Rattle.rules.specs.declared.Mode.TheVariants.{Write, Read}
use Rattle.store.specs.Sets.{claim_place, open_place, set_in}
use Rattle.image.specs.Sections.{◌▸◌, byte, bytes_n}
use Rattle.image.specs.Image.{set_section, awaited_section, kind_of, file_byte}
use Rattle.image.proofs.Sections.{put_first, put-after}
use Rattle.image.proofs.RoundTrip.{set-length}
use Rattle.image.proofs.Stored.{set-placed}
use Rattle.image.proofs.put_row.Goals as goal

-- its sections one after another
pub returns : goal.returns
unfolding bytes_n
returns c =
    let a = c.args in
    let sets = a.sets.now in
    let v = set_in sets (claim_place Write (a.p - 1)) in
    let q = set_in sets (claim_place Read (a.p - 1)) in
    let w = set_in sets (open_place Write (a.p - 1)) in
    let r = set_in sets (open_place Read (a.p - 1)) in
    let e₁ = put_first {s = set_section} {a = v} (set-length v) (set-placed sets _ _ c.claim_at.ensures.0 c.put_set.ensures) in
    let e₂ = put-after set_section q e₁ (set-length q) (set-placed sets _ _ c.claim_at-2.ensures.0 c.put_set-2.ensures) in
    let e₃ = put-after set_section w e₂ (set-length w) (set-placed sets _ _ c.open_at.ensures.0 c.put_set-3.ensures) in
    let e₄ = put-after set_section r e₃ (set-length r) (set-placed sets _ _ c.open_at-2.ensures.0 c.put_set-4.ensures) in
    let standing : ℕ × ℕ = (kind_of a.seat.standing, file_byte a.seat.standing a.seat.file) in
    let e₅ = put-after (byte ▸ awaited_section) standing e₄ refl (c.put_at.ensures ∙ rw (c.kind.ensures, c.file_byte-file.ensures)) in
    e₅.front
