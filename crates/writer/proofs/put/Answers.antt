use Rattle.writer.proofs.Laws.{put_all}
use Rattle.writer.proofs.put.Goals as goal

pub returns-clause-line_after : goal.returns-clause-line_after
returns-clause-line_after c = put_all c.args.at c.args.row.now c.args.line.now _ c.copy_from_slice.ensures.after
