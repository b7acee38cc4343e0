use Prim.Native.Nat.{◌-◌}
use mathlib.Core.Path.{◌∙◌}
use mathlib.Core.List.{append_assoc}
use Rattle.rules.specs.declared.Mode.TheVariants.{Inquiry}
use Rattle.store.specs.Sets.{claim_place, open_place, set_in}
use Rattle.image.specs.Sections.{number}
use Rattle.image.specs.Image.{set_section, used_by, wanted_by}
use Rattle.image.proofs.Laws.{two_written}
use Rattle.image.proofs.Sections.{number-length, put_first, put-after}
use Rattle.image.proofs.RoundTrip.{set-length}
use Rattle.image.proofs.Stored.{set-placed}
use Rattle.image.proofs.put_inquiry.Goals as goal

-- its sections one after another
pub returns : goal.returns
returns c =
    let a = c.args in
    let sets = a.sets.now in
    let j = set_in sets (claim_place Inquiry (a.p - 1)) in
    let i = set_in sets (open_place Inquiry (a.p - 1)) in
    let u = used_by a.seat.standing a.seat.item in
    let w = wanted_by a.seat.standing a.seat.item in
    let e₁ = put_first {s = set_section} {a = j} (set-length j) (set-placed sets _ _ c.claim_at.ensures.0 c.put_set.ensures) in
    let e₂ = put-after set_section i e₁ (set-length i) (set-placed sets _ _ c.open_at.ensures.0 c.put_set-2.ensures) in
    let e₃ = put-after (number 2) u e₂ (number-length 2 u) (c.put_at.ensures ∙ rw (two_written _ _ c.to_le_bytes.ensures c.used-used.ensures)) in
    let e₄ = put-after (number 2) w e₃ (number-length 2 w) (c.put_at-2.ensures ∙ rw (two_written _ _ c.to_le_bytes-2.ensures c.wanted-wanted.ensures)) in
    e₄.front ∙ simp append_assoc
