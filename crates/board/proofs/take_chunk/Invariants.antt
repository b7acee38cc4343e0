-- What is left does to the state so far what all does to the first, and all of the journal is written.
use Rattle.std.proofs.Common.{length, ◌≡◌, true, false, is_ok, [], ◌≤◌, take}
use Rattle.rules.specs.Soundness.{sound}
use Rattle.store.specs.Store.{board_of}
use Rattle.request.specs.Verbs.{cut_line}
use Rattle.board.specs.Input.{buffer_length, held, flushed, fed}
use Rattle.board.proofs.take_chunk.Given as goal

abbrev pub invariant-loop-rest : goal.invariant-loop-rest
invariant-loop-rest g l = record {
  kept_within : l.s.kept ≤ cut_line;
  written : l.s.place ≡ 0;
  room_kept : length l.kept ≡ cut_line;
  room_journal : length l.journal ≡ buffer_length;
  taken : flushed (fed (held (board_of l.sets l.s.rest) (take l.s.kept l.kept) []) l.rest)
      ≡ flushed (fed (held (board_of l.initial.sets l.initial.s.rest) (take l.initial.s.kept l.initial.kept) []) l.chunk);
  is_sound : sound (board_of l.sets l.s.rest) ≡ true;
  stays_failed : is_ok l.initial.written ≡ false → is_ok l.written ≡ false;
}

abbrev pub decreases-loop-rest : goal.decreases-loop-rest
decreases-loop-rest g l = length l.rest
