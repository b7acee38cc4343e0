-- From what the tests find to the soundness of the board. Assumes nothing.
use mathlib.Core.Path.{◌≡◌, refl, sym, ap, ap₂, ◌∙◌}
use mathlib.Core.Bool.{Bool, true, false, cond, ◌&&◌}
use lib.Dec.{eqb}
use Rattle.laws.specs.Tests.{by_test, and_false}
use Rattle.laws.specs.Lists.{all, names, found}
use Rattle.rules.specs.declared.Board.{Board}
use Rattle.rules.specs.Boards.{everyone}
use Rattle.rules.specs.Orders.{carried}
use Rattle.rules.specs.Soundness.{no_conflict, line_sound, none_favoured, some_favoured, count_sound, uses_differ, awaited_in_use, sound}
use Rattle.store.specs.declared.Rest.{Rest}
use Rattle.store.specs.Sets.{Sets, IsStore}
use Rattle.store.specs.Store.{board_of}
use Rattle.store.proofs.Boards.{board-sets}
use Rattle.tables.specs.declared.ProgramSet.{ProgramSet}
use Rattle.tables.specs.ProgramSets.{has_program}
use Rattle.search.specs.Gives.{uses_in}
use Rattle.sound.specs.Parts.{stands_at, is_sound_at, waiter_at, count_at, record_at, Known, Packed}
use Rattle.sound.proofs.Blank.{and_assoc}
use Rattle.sound.proofs.Conflicts.{ordered-apart}
use Rattle.sound.proofs.Records.{records_are}
use Rattle.sound.proofs.Seats.{counts_are}
use Rattle.sound.proofs.Taken.{line-packed}

-- ---- what has been tested after each test, and the tests of the favoured program

module _ (sets : Sets) (r : Rest) (ordered : Bool) (waiters held : ProgramSet) where
  abbrev board : Board
  board = board_of sets r

  abbrev each : Bool
  each = all (is_sound_at board) everyone

  abbrev pub after_programs : Bool
  after_programs = ordered && each

  abbrev pub after_waiting : Bool
  after_waiting = after_programs && line_sound r.waiting (has_program waiters)

  abbrev pub after_entry : Bool
  after_entry = after_waiting && line_sound r.entry (has_program held)

  abbrev pub after_waiters : Bool
  after_waiters = after_entry && all (waiter_at board) (names r.waiting)

  abbrev pub after_favour : Bool
  after_favour = after_waiters && cond (eqb r.favoured 0) (none_favoured board) (some_favoured board)

  abbrev pub after_counts : Bool
  after_counts = after_favour && all (count_at r) everyone

-- ---- a board that these are packed of

module _ (sets : Sets) (r : Rest) (admitted : ProgramSet) (ordered : Bool) (waiters held : ProgramSet)
    (p : Packed (board_of sets r) admitted ordered waiters held) where
  -- what is known of the arrays where each program is sound by itself and there is an order
  pub known_by : IsStore sets → ordered ≡ true → all (is_sound_at (board_of sets r)) everyone ≡ true → Known (board_of sets r) sets (uses_in admitted sets)
  known_by s t e = let o = sym p.is-ordered ∙ t in record {
    in_sets = board-sets sets r s;
    in_use = ap (λ (x : ProgramSet). uses_in x sets) p.admitted_are;
    apart = ordered-apart (board_of sets r) e o;
    ordered = o;
  }

  base : (ordered && all (is_sound_at (board_of sets r)) everyone)
      ≡ (all (is_sound_at (board_of sets r)) everyone && no_conflict (board_of sets r) && found (carried (board_of sets r)))
  base = let b = board_of sets r in let each = all (is_sound_at b) everyone in by_test each
      (λ e. by_test ordered (λ t. let o = sym p.is-ordered ∙ t in rw (t, e, ordered-apart b e o, o) refl)
      (λ t. rw (t, sym p.is-ordered ∙ t) (sym (and_false (each && no_conflict b)))))
      (λ e. rw e (and_false ordered))

  waiting_is : line_sound r.waiting (has_program waiters) ≡ line_sound r.waiting (stands_at (board_of sets r) false)
  waiting_is = ap (λ (x : ProgramSet). line_sound r.waiting (has_program x)) p.waiters_are ∙ line-packed r.waiting (stands_at (board_of sets r) false)

  entry_is : line_sound r.entry (has_program held) ≡ line_sound r.entry (stands_at (board_of sets r) true)
  entry_is = ap (λ (x : ProgramSet). line_sound r.entry (has_program x)) p.held_are ∙ line-packed r.entry (stands_at (board_of sets r) true)

  -- all that is said of the board
  pub sound_is : (after_counts sets r ordered waiters held && all (record_at r) everyone) ≡ sound (board_of sets r)
  unfolding sound board_of
  sound_is = let b = board_of sets r in ap₂ ◌&&◌ (ap₂ ◌&&◌ (ap
      (λ (x : Bool). x && all (waiter_at b) (names r.waiting) && cond (eqb r.favoured 0) (none_favoured b) (some_favoured b))
      (ap₂ ◌&&◌ (ap₂ ◌&&◌ base waiting_is) entry_is))
      (counts_are sets r)) (records_are sets r)
      ∙ sym (and_assoc (all (is_sound_at b) everyone && no_conflict b && found (carried b) && line_sound r.waiting (stands_at b false)
      && line_sound r.entry (stands_at b true) && all (waiter_at b) (names r.waiting)
      && cond (eqb r.favoured 0) (none_favoured b) (some_favoured b) && all (count_sound b) everyone) (uses_differ b) (awaited_in_use b))
