use mathlib.Core.Path.{refl}
use mathlib.Core.List.{map}
use borrow.Author.Rules.{rules}
use Rattle.store.specs.Store.{board_of}
use Rattle.whole.proofs.Laws.{made, made_size}
use Rattle.image.specs.Image.{image_of, line_section, numbers_section, counts_section, inquiry_of, inquiry_section, inquiries_section}
use Rattle.image.proofs.Sections.{Put, put-after, put_all}
use Rattle.image.proofs.RoundTrip.{rows-put, rows-length, inquiry_length}
use Rattle.image.proofs.fill_image.Goals as goal

-- its sections one after another
pub returns : goal.returns
unfolding image_of board_of
returns c =
    let b = c.args.rest in
    let sets = c.args.sets.now in
    let m = made sets b.seats in
    let e₁ = rows-put m c.split_at_mut-front.result.0.now (made_size sets b.seats) c.put_programs.ensures.rows_after in
    let e₂ = put-after line_section b.waiting e₁ (search rules) c.put_at.ensures in
    let e₃ = put-after line_section b.entry e₂ (search rules) c.put_at-2.ensures in
    let e₄ = put-after numbers_section ((b.favoured, b.initial), b.leaves) e₃ refl c.put_at-3.ensures in
    let e₅ = put-after counts_section b.passed e₄ (search rules) c.put_at-4.ensures in
    let k = rows-length inquiry_section inquiry_of 32 m inquiry_length (made_size sets b.seats) in
    let e₆ : Put inquiries_section (map inquiry_of m) c.split_at_mut-front.result.1.now c.put_programs.new.inquiries
    = record { long = k; front = c.put_programs.ensures.inquiries_after } in
    rw (put_all e₅ (search rules), put_all e₆ (search rules))
