-- The columns of the programs so far follow those of the word; none of these programs is 0.
use Rattle.std.proofs.Common.{◌+◌, ◌*◌, ◌≡◌, ◌++◌, length, take, drop}
use Rattle.laws.specs.Lists.{names}
use Rattle.columns.specs.Columns.{program_width, word_width, columns_of}
use Rattle.columns.specs.Rows.{flat}
use Rattle.board.proofs.put_programs.Given as goal

abbrev pub invariant-loop-p : goal.invariant-loop-p
invariant-loop-p l = record {
  place : l.at ≡ word_width + program_width * l.p-index;
  room : length l.out ≡ length l.fn.out;
  written : l.out ≡ take word_width l.fn.out ++ flat (columns_of program_width) (take l.p-index l.fn.programs)
      ++ drop (word_width + program_width * l.p-index) l.fn.out;
  named : names l.fn.programs ≡ take l.p-index l.fn.programs ++ names (drop l.p-index l.fn.programs);
}
