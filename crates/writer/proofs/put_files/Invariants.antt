-- The columns of the files from f on are left to be written.
use Rattle.std.proofs.Common.{◌≡◌, ◌+◌, ◌*◌, length}
use Rattle.columns.specs.Columns.{file_width}
use Rattle.columns.specs.Rows.{put_at}
use Rattle.files.specs.Sets.{member}
use Rattle.request.specs.Requests.{files_of, files_columns}
use Rattle.writer.proofs.Laws.{files_from}
use Rattle.writer.proofs.put_files.Given as goal

abbrev pub invariant-loop-f : goal.invariant-loop-f
invariant-loop-f l = record {
  place : l.at + file_width * length (files_from (member l.s) l.f) ≡ l.start + file_width * length (files_of l.s);
  written : put_at l.start (files_columns (files_of l.s)) l.fn.line ≡ put_at l.at (files_columns (files_from (member l.s) l.f)) l.line;
}
