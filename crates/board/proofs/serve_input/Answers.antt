-- The empty board is sound.
use Rattle.std.proofs.Common.{rules, ◌≡◌, true, [], ap, ◌∙◌, arith}
use Rattle.rules.specs.Boards.{empty_board}
use Rattle.rules.specs.Soundness.{sound}
use Rattle.rules.specs.Worked.{worked, worked_from}
use Rattle.theory.specs.Sound.{sound_iff, good_sound}
use Rattle.theory.specs.Worked.{worked_good}
use Rattle.board.proofs.serve_input.Goals as goal

empty_sound : sound empty_board ≡ true
unfolding worked worked_from
empty_sound = (sound_iff empty_board).1 (good_sound empty_board (worked_good []))

pub loop-init : goal.loop-init
loop-init g c =
    let s = c.start-s.ensures in
    record {
      kept_within = omega (arith, s.1);
      written = s.2;
      room_kept = search rules;
      room_journal = search rules;
      is_sound = ap sound s.0 ∙ empty_sound;
    }
