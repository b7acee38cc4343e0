-- The lines so far did what their bytes do, the board is sound, and the journal has room for a call.
use Rattle.std.proofs.Common.{length, ◌-◌, ◌≡◌, true, [], ◌≤◌, take}
use Rattle.rules.specs.Soundness.{sound}
use Rattle.store.specs.Store.{board_of}
use Rattle.request.specs.Verbs.{cut_line}
use Rattle.board.specs.Input.{buffer_length, last_place, held, fed}
use Rattle.board.proofs.take_part.Given as goal

abbrev pub invariant-loop-n : goal.invariant-loop-n
invariant-loop-n l = record {
  in_part : l.at ≤ length l.part;
  kept_within : l.s.kept ≤ cut_line;
  room : l.s.place ≤ last_place;
  room_kept : length l.kept ≡ cut_line;
  room_journal : length l.journal ≡ buffer_length;
  taken : held (board_of l.sets l.s.rest) (take l.s.kept l.kept) (take l.s.place l.journal)
      ≡ fed (held (board_of l.initial.sets l.initial.s.rest) (take l.initial.s.kept l.initial.kept) []) (take l.at l.part);
  is_sound : sound (board_of l.sets l.s.rest) ≡ true;
}

abbrev pub decreases-loop-n : goal.decreases-loop-n
decreases-loop-n l = length l.part - l.at
