-- The files from f on are left to be counted.
use Rattle.std.proofs.Common.{◌≡◌, ◌+◌, ◌<◌, length}
use Rattle.files.specs.Sets.{member}
use Rattle.request.specs.Requests.{files_of}
use Rattle.writer.proofs.Laws.{files_from}
use Rattle.writer.proofs.count.Given as goal

abbrev pub invariant-loop-f : goal.invariant-loop-f
invariant-loop-f l = record {
  few : l.n < l.f;
  counted : length (files_of l.s) ≡ l.n + length (files_from (member l.s) l.f);
}
