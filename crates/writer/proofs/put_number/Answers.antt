use Rattle.columns.proofs.Rows.{put_columns}
use Rattle.writer.proofs.put_number.Goals as goal

pub returns-clause-line_after : goal.returns-clause-line_after
returns-clause-line_after c = let a = c.args in put_columns a.at a.width a.n a.line.now c.put_number.new.part c.requires.1 c.put_number.ensures
