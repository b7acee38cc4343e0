-- From sets and seats to the board. Assumes nothing.
use Prim.Native.Nat.{ℕ, ◌-◌, ◌≤◌}
use mathlib.Core.Path.{◌≡◌, refl, sym, ap, ◌∙◌}
use mathlib.Core.Bool.{Bool, true, ◌&&◌}
use Rattle.laws.specs.Lists.{all}
use Rattle.laws.specs.Laws.{all_same}
use Rattle.rules.specs.declared.Standing.{Standing}
use Rattle.rules.specs.declared.Program.{Program}
use Rattle.rules.specs.Boards.{everyone, passed_by, awaited_of}
use Rattle.rules.specs.Soundness.{waiter_sound, sets_sound, standing_sound, may_have, item_sound, program_sound, count_sound}
use Rattle.theory.specs.Programs.{everyone_is}
use Rattle.store.specs.declared.Seat.{Seat}
use Rattle.store.specs.declared.Rest.{Rest}
use Rattle.store.specs.Sets.{Sets}
use Rattle.store.specs.Store.{seat_at, standing_at, program_with, board_of}
use Rattle.store.proofs.Boards.{board-at}
use Rattle.tables.specs.Boards.{admits}
use Rattle.search.specs.declared.Uses.{Uses}
use Rattle.tables.proofs.Given.{packed-same}
use Rattle.sound.specs.Parts.{stands, stands_at, stand_set, seat_stands, seat_set, bare_at, is_sound_with, stands_for, is_sound_at, count_fits, count_at, waiter_at, Known, WaiterFor}

-- a standing asks the same of a program by its sets alone
by_standing : (sets : Sets) (p : ℕ) (t : Seat) (s : Standing) → standing_sound s (program_with sets (p - 1) t) ≡ standing_sound s (bare_at sets p)
unfolding standing_sound
by_standing sets p t Standing.Absent = refl
by_standing sets p t Standing.Running = refl
by_standing sets p t (Standing.Waiting f) = refl
by_standing sets p t Standing.Held = refl

-- what is said of a program by itself, by its sets and standing, and by its record
pub program_with_lem : (sets : Sets) (p : ℕ) (t : Seat) → program_sound (program_with sets (p - 1) t)
    ≡ (is_sound_with sets p t.standing && item_sound (program_with sets (p - 1) t))
unfolding program_sound sets_sound
program_with_lem sets p t = ap (λ (x : Bool). sets_sound (bare_at sets p) && x && item_sound (program_with sets (p - 1) t)) (by_standing sets p t t.standing)

-- who may have a record, by the standing and the file alone
pub may_have_lem : (s : Standing) (q : Program) → may_have s q ≡ stands_for s q.file
unfolding may_have
may_have_lem Standing.Absent q = refl
may_have_lem Standing.Running q = refl
may_have_lem (Standing.Waiting f) q = refl
may_have_lem Standing.Held q = refl

module _ (sets : Sets) (r : Rest) where
  -- a program by itself
  pub sound_with : (p : ℕ) → 1 ≤ p → p ≤ 32 → program_sound (program_with sets (p - 1) (seat_at r p)) ≡ is_sound_at (board_of sets r) p
  sound_with p h k = sym (ap program_sound (board-at sets r p h k))

  -- the programs that stand so
  pub seats_stand : (held : Bool) → seat_set r held ≡ stand_set (board_of sets r) held
  seats_stand held = packed-same (seat_stands r held) (stands_at (board_of sets r) held) 32
      (λ p h k. ap (λ (q : Program). stands held q.standing) (sym (board-at sets r p h k)))

  -- the counts
  pub counts_are : all (count_at r) everyone ≡ all (count_sound (board_of sets r)) everyone
  unfolding count_sound board_of
  counts_are = all_same (count_at r) (count_sound (board_of sets r)) everyone (λ p m. let c = everyone_is p m in
      ap (λ (q : Program). count_fits q.standing (passed_by (board_of sets r) p)) (sym (board-at sets r p c.least c.most)))

  -- whether the waiting of p for the file that it awaits is sound
  pub waiter_judged : (u : Uses) (p f : ℕ) (t : Bool) → 1 ≤ p → p ≤ 32 → Known (board_of sets r) sets u → admits (board_of sets r) p ≡ true
      → f ≡ awaited_of (standing_at r p) → WaiterFor sets u p f (seat_at r p).item t → t ≡ waiter_at (board_of sets r) p
  waiter_judged u p f t h k n a e w = let q = board-at sets r p h k in
      w (board_of sets r) n a (ap (λ (x : Program). x.item) q)
      ∙ ap (waiter_sound (board_of sets r) p) (e ∙ ap (λ (x : Program). awaited_of x.standing) (sym q))
