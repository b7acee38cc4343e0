use Rattle.std.proofs.Common.{◌≡◌, length}
use Rattle.store.specs.Sets.{SetsTo}
use Rattle.store.specs.Store.{SeatsTo}
use Rattle.image.specs.Image.{image_section}
use Rattle.image.proofs.read_rows.Given as goal

abbrev pub invariant-loop-i : goal.invariant-loop-i
invariant-loop-i l = record {
  len : length l.seat-items ≡ 32;
  sets_to : SetsTo (image_section.read l.s) l.i l.sets;
  seats_to : SeatsTo (image_section.read l.s) l.i l.seat-items;
}
