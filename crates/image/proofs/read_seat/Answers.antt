use Rattle.image.proofs.Stored.{seat_read}
use Rattle.image.proofs.read_seat.Goals as goal

pub returns : goal.returns
returns c =
    seat_read c.args.s.now c.args.x.now c.read_item-u.result c.read_item-a.result c.requires.1 c.read_item-u.ensures c.read_item-a.ensures
    _ _ _ c.standing_of.ensures c.file_of.ensures c.item_of.ensures
