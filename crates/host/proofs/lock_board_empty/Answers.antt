use mathlib.Core.Path.{ap, ◌∙◌}
use Rattle.store.proofs.Boards.{empty_board_lem}
use Rattle.image.specs.Image.{image_in}
use Rattle.host.proofs.lock_board_empty.Goals as goal

pub returns-then-put_image_of-clause-image_after : goal.returns-then-put_image_of-clause-image_after
returns-then-put_image_of-clause-image_after c = c.put_image_of.ensures.out_after ∙ ap (image_in c.args.image.now) empty_board_lem
