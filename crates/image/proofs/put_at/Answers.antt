use Rattle.image.proofs.Laws.{put_there}
use Rattle.image.proofs.put_at.Goals as goal

pub returns : goal.returns
returns c = put_there c.args.at c.args.src.now c.args.out.now _ c.copy_from_slice.ensures.after
