-- What the code of a call finds on a sound board that has passed the call's checks: room in each line and in the reply, and a board to
-- settle.
-- Assumes nothing.
use Rattle.std.specs.Prelude.{ℕ, suc, ◌≤◌, ◌<◌, ◌+◌, ◌≡◌, true, false, eqb, length, ◌++◌, Ok}
use Rattle.std.proofs.Common.{arith, ◌∙◌, eqb-true}
use Rattle.std.proofs.Math.Path.{refl, ap}
use Rattle.std.proofs.lemmas.Bool.{eqb-false}
use Rattle.laws.specs.Tests.{by_test}
use Rattle.files.specs.declared.FileSet.{FileSet}
use Rattle.rules.specs.declared.Board.{Board}
use Rattle.laws.specs.Lists.{names}
use Rattle.rules.specs.Boards.{no_program, is_held, is_waiting, at, set_program, set_item, closing, dropping}
use Rattle.rules.specs.Soundness.{sound}
use Rattle.rules.specs.Settling.{hand_on, settle}
use Rattle.rules.specs.Checks.{enter_check, open_check, close_check, leave_check, cancel_check, return_check}
use Rattle.rules.specs.Calls.{count_leave, withdrawn}
use Rattle.theory.specs.Programs.{Is, Sized}
use Rattle.theory.specs.Loose.{waits_in, held_at, Loose, Counts, Good, test_same, loose_close, loose_drop}
use Rattle.theory.specs.Settling.{settle_settled, hand_settled}
use Rattle.theory.specs.Calls.{crowd, enter_may, open_may, close_may, leave_may}
use Rattle.theory.specs.Calls.{leave_left, return_may, return_settled, item-loose, cancel_may, cancel-withdrawn}
use Rattle.theory.specs.Calls.{still-counts}
use Rattle.theory.specs.Sound.{sound_iff, sound_good}

-- A board that may be settled, with room in the reply for the answer's line and settling's.
pub record Ready (c : Board) : Type 0 where
  pub loose : Loose c
  pub room : suc (length (settle c).lines) ≤ 32
  pub crowded : suc (length (names c.waiting) + length (names c.entry)) ≤ 32
  pub counts : Counts c

ready : (c : Board) (p : ℕ) → Loose c → Counts c → Is p → waits_in c.programs p ≡ false → held_at c.programs p ≡ false → Ready c
ready c p k t i w h = let m = (settle_settled c k t).many in let n = crowd c p k i w h in
    record { loose = k; room = omega arith; crowded = n; counts = t }

module _ (b : Board) (z : Sized b.programs) (s : sound b ≡ true) where
  -- What the proofs of the theory use of a sound board.
  pub good : Good b
  good = sound_good b z ((sound_iff b).0 s)

  -- Enter: a program more fits in the entry line.
  pub entry-room : (p : ℕ) (v q j : FileSet) → enter_check b p v q j ≡ Ok tt → length (names b.entry) < 32
  entry-room p v q j e = let m = enter_may b p v q j e in let n = crowd b p good.loose m.is (ap is_waiting m.absent)
      (ap is_held m.absent) in omega arith

  -- Open: a program more fits in the waiting line.
  pub waiting_room : (p f : ℕ) → open_check b p f ≡ Ok tt → length (names b.waiting) < 32
  waiting_room p f e = let m = open_may b p f e in let n = crowd b p good.loose m.is (ap is_waiting m.runs)
      (ap is_held m.runs) in omega arith

  -- Close, drop and cancel: the board before settling.
  pub close_ready : (p f : ℕ) → close_check b p f ≡ Ok tt → Ready (set_program b p (closing (at b p) f))
  unfolding closing
  close_ready p f e = let m = close_may b p f e in
      ready (set_program b p (closing (at b p) f)) p (loose_close b.programs b.waiting b.entry b.favoured
      b.initial b.leaves p f m.is m.runs good.loose) (still-counts b p (closing (at b p) f) good m m.runs refl refl) m.is
      (test_same is_waiting b.programs p (closing (at b p) f) z m.is ∙ ap is_waiting m.runs)
      (test_same is_held b.programs p (closing (at b p) f) z m.is ∙ ap is_held m.runs)

  pub drop-ready : (p f : ℕ) → open_check b p f ≡ Ok tt → Ready (set_program b p (dropping (at b p) f))
  unfolding dropping
  drop-ready p f e = let m = open_may b p f e in
      ready (set_program b p (dropping (at b p) f)) p (loose_drop b.programs b.waiting b.entry b.favoured
      b.initial b.leaves p f m.is m.runs m.asked.shut good.loose)
      (still-counts b p (dropping (at b p) f) good (record { is = m.is; runs = m.runs; no_item = m.no_item }) m.runs refl refl) m.is
      (test_same is_waiting b.programs p (dropping (at b p) f) z m.is ∙ ap is_waiting m.runs)
      (test_same is_held b.programs p (dropping (at b p) f) z m.is ∙ ap is_held m.runs)

  pub cancel-ready : (p : ℕ) → cancel_check b p ≡ Ok tt → Ready (withdrawn b p (at b p).standing)
  cancel-ready p e = let m = cancel_may b p e in let l = cancel-withdrawn b p good m in
      ready (withdrawn b p (at b p).standing) p l.w-loose l.w-counts m.is
      (ap (λ P. waits_in P p) l.w_programs ∙ test_same is_waiting b.programs p no_program z m.is)
      (ap (λ P. held_at P p) l.w_programs ∙ test_same is_held b.programs p no_program z m.is)

  -- Leave: the count of leaves does not overflow.
  pub leaves-room : b.leaves ≤ 32
  leaves-room = by_test (eqb b.favoured 0)
      (λ t. let n = (good.loose.nobody (eqb-true b.favoured 0 t)).1 in omega arith)
      (λ t. let (c, n) = good.loose.count (eqb-false b.favoured 0 t) in omega arith)

  -- Leave and return: room in the reply for the answer's line, that of the record and settling's.
  pub leave_room : (p : ℕ) → leave_check b p ≡ Ok tt
      → let h = hand_on (count_leave (set_program b p no_program)) (at b p).file (at b p).item in
      suc (length (h.lines ++ (settle h.board).lines)) ≤ 32
  leave_room p e = let m = leave_may b p e in let l = leave_left b p good m in let c = count_leave (set_program b p no_program) in
      let r = (hand_settled c (at b p).file (at b p).item l.l-loose l.l-counted l.l-records).many in
      let n = crowd c p l.l-loose m.is
      (ap (λ P. waits_in P p) l.l_programs ∙ test_same is_waiting b.programs p no_program z m.is)
      (ap (λ P. held_at P p) l.l_programs ∙ test_same is_held b.programs p no_program z m.is) in omega arith

  pub return_room : (p : ℕ) → return_check b p ≡ Ok tt
      → let h = hand_on (set_program b p (set_item (at b p) 0 0)) (at b p).file (at b p).item in
      suc (length (h.lines ++ (settle h.board).lines)) ≤ 32
  return_room p e = let m = return_may b p e in let x = set_item (at b p) 0 0 in
      let r = (return_settled b p good m).many in
      let n = crowd (set_program b p x) p (item-loose b p 0 0 good m.is m.runs) m.is
      (test_same is_waiting b.programs p x z m.is ∙ ap is_waiting m.runs)
      (test_same is_held b.programs p x z m.is ∙ ap is_held m.runs) in omega arith
