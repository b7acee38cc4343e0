-- Between two reads the journal is written and the board is sound.
use Rattle.std.proofs.Common.{length, ◌≡◌, true, ◌≤◌}
use Rattle.rules.specs.Soundness.{sound}
use Rattle.store.specs.Store.{board_of}
use Rattle.request.specs.Verbs.{cut_line}
use Rattle.board.specs.Input.{buffer_length}
use Rattle.board.proofs.serve_input.Given as goal

abbrev pub invariant-loop : goal.invariant-loop
invariant-loop g l = record {
  kept_within : l.s.kept ≤ cut_line;
  written : l.s.place ≡ 0;
  room_kept : length l.kept ≡ cut_line;
  room_journal : length l.journal ≡ buffer_length;
  is_sound : sound (board_of l.sets l.s.rest) ≡ true;
}
