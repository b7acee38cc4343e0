-- How a wait begins: who waits after a call is as it was before it, or the call is the open or the fetch by which it began to wait.
-- Assumes nothing.
use Rattle.std.specs.Prelude.{ℕ, ◌≡◌, ◌⊎◌, false, eqb, Ok}
use Rattle.std.proofs.Math.Path.{refl, subst}
use Rattle.std.proofs.Common.{sym, ◌∙◌, ap, ap₂, inr, eqb-true}
use Rattle.std.proofs.Math.Logic.{inl}
use Rattle.std.proofs.Math.Bool.{true}
use Rattle.laws.specs.Tests.{by_test, by_option, never}
use Rattle.files.specs.declared.FileSet.{FileSet}
use Rattle.std.proofs.lemmas.Bool.{eqb-false}
use Rattle.rules.specs.declared.Standing.{Standing}
use Rattle.rules.specs.declared.Program.{Program}
use Rattle.rules.specs.declared.Board.{Board}
use Rattle.rules.specs.declared.Answer.{Answer}
use Rattle.rules.specs.declared.Reply.{Reply}
use Rattle.rules.specs.Boards.{no_program, is_waiting, at, set_program, set_standing, set_item, opening, closing, dropping}
use Rattle.rules.specs.Orders.{in_use, safe, with_given, taken}
use Rattle.rules.specs.Soundness.{sound}
use Rattle.rules.specs.Settling.{overdue, favour, hand_on, settle}
use Rattle.rules.specs.Replies.{reply, refuse}
use Rattle.rules.specs.Checks.{open_check, close_check, leave_check, cancel_check, return_check}
use Rattle.rules.specs.Calls.{newcomer, admit, hold, hold_for, enter, wait, open_file, wait_item, fetch, finish, done, close_file, drop_file}
use Rattle.rules.specs.Calls.{leave, return_item, count_leave, withdrawn, cancel, Call, Enter, Open, Close, Drop, Leave, Cancel, Fetch, Return}
use Rattle.rules.specs.Calls.{checked, accepted, apply}
use Rattle.theory.specs.Programs.{Is, Progs, Sized, prog, put, put_same, put_other, opening_standing}
use Rattle.theory.specs.Loose.{stands, Good}
use Rattle.theory.specs.Settling.{settle_settled, hand_settled}
use Rattle.theory.specs.Calls.{by_check, OpenMay, FetchMay, enter_may, open_may, close_may, leave_may, cancel_may, fetch_may, return_may}
use Rattle.theory.specs.Calls.{leave_left, cancel-withdrawn, return_settled, apply-accepted, apply-refused}
use Rattle.theory.specs.Sound.{sound_iff, good_sound}
use Rattle.theory.specs.Ready.{close_ready, drop-ready}
use Rattle.theory.specs.Demand3.{Waits, AsksFor}

-- A program that doesn't wait is put.
put_waits : (P : Progs) (p : ℕ) (x : Program) → Sized P → Is p → is_waiting x.standing ≡ false → (y : ℕ) → Is y
    → is_waiting (stands (put P p x) y) ≡ true → prog (put P p x) y ≡ prog P y
put_waits P p x z c n y i u = put_other P p y x c i (λ d. never (sym (ap (λ (q : Program). is_waiting q.standing) (put_same P p x z c))
    ∙ ap (λ h. is_waiting (stands (put P p x) h)) (sym d) ∙ u) n)

-- y is as before, or the call c is the open or the fetch by which it began to wait, with the answer a.
pub record Begins (c : Call) (a : Answer) (q : Program) (y : ℕ) : Type 0 where
  pub file : ℕ
  pub item : ℕ
  pub asks : AsksFor c y file item
  pub waits : Waits a
  pub awaits : q.standing ≡ Standing.Waiting file
  pub awaits_item : q.item ≡ item

abbrev From : Board → Call → Reply → ℕ → Type 0
From b c r y = (prog r.board.programs y ≡ prog b.programs y) ⊎ Begins c r.answer (prog r.board.programs y) y

enter_from : (b : Board) (p : ℕ) (v q j : FileSet) → Sized b.programs → Is p → (y : ℕ) → Is y
    → is_waiting (stands (enter b p v q j).board.programs y) ≡ true → prog (enter b p v q j).board.programs y ≡ prog b.programs y
unfolding enter admit hold hold_for favour reply
enter_from b p v q j z c y i u = by_test (eqb b.favoured 0)
    (λ t. by_option (overdue b)
    (λ k. rw (t, k) (put_waits b.programs p (newcomer v q j Standing.Running) z c refl y i (rw (t, k) at u)))
    (λ w k. rw (t, k) (put_waits b.programs p (newcomer v q j Standing.Held) z c refl y i (rw (t, k) at u))))
    (λ t. rw t (put_waits b.programs p (newcomer v q j Standing.Held) z c refl y i (rw t at u)))

-- p, which is now x, begins to wait.
wait_from : (b : Board) (p f r : ℕ) (x : Program) (c : Call) (a : Answer) → Sized b.programs → Is p → Waits a → AsksFor c p f r
    → x.standing ≡ Standing.Waiting f → x.item ≡ r → (y : ℕ) → Is y
    → (prog (put b.programs p x) y ≡ prog b.programs y) ⊎ Begins c a (prog (put b.programs p x) y) y
wait_from b p f r x c a z i w k e d y j = by_test (eqb y p)
    (λ t. let n = eqb-true y p t in let s = ap (prog (put b.programs p x)) n ∙ put_same b.programs p x z i in inr (record {
      file = f;
      item = r;
      asks = subst (λ h. AsksFor c h f r) (sym n) k;
      waits = w;
      awaits = ap (λ (q : Program). q.standing) s ∙ e;
      awaits_item = ap (λ (q : Program). q.item) s ∙ d;
    }))
    (λ t. inl (put_other b.programs p y x i j (eqb-false y p t)))

open_from : (b : Board) (p f : ℕ) → Sized b.programs → OpenMay b p f → (y : ℕ) → Is y
    → is_waiting (stands (open_file b p f).board.programs y) ≡ true → From b (Open p f) (open_file b p f) y
unfolding open_file with_given wait reply
open_from b p f z m y i u = by_test (in_use b p f)
    (λ t. rw t (wait_from b p f 0 (set_standing (at b p) (Standing.Waiting f)) (Open p f) Answer.Wait z m.is (inl refl) (inl (refl, refl))
    refl m.no_item y i))
    (λ t. by_test (safe b p f)
    (λ k. rw (t, k) (inl (put_waits b.programs p (opening (at b p) f) z m.is (ap is_waiting (opening_standing (at b p) f ∙ m.runs)) y i
    (rw (t, k) at u))))
    (λ k. rw (t, k) (wait_from b p f 0 (set_standing (at b p) (Standing.Waiting f)) (Open p f) Answer.Unsafe z m.is (inr refl)
    (inl (refl, refl)) refl m.no_item y i)))

fetch_from : (b : Board) (p f r : ℕ) → Sized b.programs → FetchMay b p f r → (y : ℕ) → Is y
    → is_waiting (stands (fetch b p f r).board.programs y) ≡ true → From b (Fetch p f r) (fetch b p f r) y
unfolding fetch wait_item reply
fetch_from b p f r z m y i u = by_test (taken b p f r)
    (λ t. rw t (wait_from b p f r (set_item (set_standing (at b p) (Standing.Waiting f)) f r) (Fetch p f r) Answer.Wait z m.is (inl refl)
    (inr (refl, m.some_record)) refl refl y i))
    (λ t. rw t (inl (put_waits b.programs p (set_item (at b p) f r) z m.is (ap is_waiting m.runs) y i (rw t at u))))

-- Settling begins no wait, nor does handing on a record.
then_from : (P P' P'' : Progs) (y : ℕ) → (is_waiting (stands P'' y) ≡ true → prog P'' y ≡ prog P' y)
    → (is_waiting (stands P' y) ≡ true → prog P' y ≡ prog P y) → is_waiting (stands P'' y) ≡ true → prog P'' y ≡ prog P y
then_from P P' P'' y f g u = f u ∙ g (ap (λ (q : Program). is_waiting q.standing) (sym (f u)) ∙ u)

module _ (b : Board) (k : Good b) where
  z : Sized b.programs
  z = k.loose.base.size

  snd : sound b ≡ true
  snd = (sound_iff b).1 (good_sound b k)

  close_from : (p f y : ℕ) → close_check b p f ≡ Ok tt → Is y → is_waiting (stands (close_file b p f).board.programs y) ≡ true
      → prog (close_file b p f).board.programs y ≡ prog b.programs y
  unfolding close_file done finish closing reply
  close_from p f y e i = let m = close_may b p f e in let r = close_ready b z snd p f e in
      let c = set_program b p (closing (at b p) f) in
      then_from b.programs c.programs (settle c).board.programs y ((settle_settled c r.loose r.counts).waited y i)
      (put_waits b.programs p (closing (at b p) f) z m.is (ap is_waiting m.runs) y i)

  drop_from : (p f y : ℕ) → open_check b p f ≡ Ok tt → Is y → is_waiting (stands (drop_file b p f).board.programs y) ≡ true
      → prog (drop_file b p f).board.programs y ≡ prog b.programs y
  unfolding drop_file done finish dropping reply
  drop_from p f y e i = let m = open_may b p f e in let r = drop-ready b z snd p f e in
      let c = set_program b p (dropping (at b p) f) in
      then_from b.programs c.programs (settle c).board.programs y ((settle_settled c r.loose r.counts).waited y i)
      (put_waits b.programs p (dropping (at b p) f) z m.is (ap is_waiting m.runs) y i)

  cancel_from : (p y : ℕ) → cancel_check b p ≡ Ok tt → Is y → is_waiting (stands (cancel b p).board.programs y) ≡ true
      → prog (cancel b p).board.programs y ≡ prog b.programs y
  unfolding cancel done finish reply
  cancel_from p y e i = let m = cancel_may b p e in let l = cancel-withdrawn b p k m in let c = withdrawn b p (at b p).standing in
      then_from b.programs c.programs (settle c).board.programs y ((settle_settled c l.w-loose l.w-counts).waited y i)
      (subst (λ P. is_waiting (stands P y) ≡ true → prog P y ≡ prog b.programs y) (sym l.w_programs)
      (put_waits b.programs p no_program z m.is refl y i))

  leave_from : (p y : ℕ) → leave_check b p ≡ Ok tt → Is y → is_waiting (stands (leave b p).board.programs y) ≡ true
      → prog (leave b p).board.programs y ≡ prog b.programs y
  unfolding leave finish reply
  leave_from p y e i = let m = leave_may b p e in let l = leave_left b p k m in let c = count_leave (set_program b p no_program) in
      let h = hand_on c (at b p).file (at b p).item in
      then_from b.programs c.programs (settle h.board).board.programs y
      ((hand_settled c (at b p).file (at b p).item l.l-loose l.l-counted l.l-records).waited y i)
      (subst (λ P. is_waiting (stands P y) ≡ true → prog P y ≡ prog b.programs y) (sym l.l_programs)
      (put_waits b.programs p no_program z m.is refl y i))

  return_from : (p y : ℕ) → return_check b p ≡ Ok tt → Is y → is_waiting (stands (return_item b p).board.programs y) ≡ true
      → prog (return_item b p).board.programs y ≡ prog b.programs y
  unfolding return_item finish reply
  return_from p y e i = let m = return_may b p e in let c = set_program b p (set_item (at b p) 0 0) in
      let h = hand_on c (at b p).file (at b p).item in
      then_from b.programs c.programs (settle h.board).board.programs y
      ((return_settled b p k m).waited y i)
      (put_waits b.programs p (set_item (at b p) 0 0) z m.is (ap is_waiting m.runs) y i)

  accepted_from : (c : Call) → checked b c ≡ Ok tt → (y : ℕ) → Is y → is_waiting (stands (accepted b c).board.programs y) ≡ true
      → From b c (accepted b c) y
  accepted_from (Enter p v q j) e y i u = inl (enter_from b p v q j z (enter_may b p v q j e).is y i u)
  accepted_from (Open p f) e y i u = open_from b p f z (open_may b p f e) y i u
  accepted_from (Close p f) e y i u = inl (close_from p f y e i u)
  accepted_from (Drop p f) e y i u = inl (drop_from p f y e i u)
  accepted_from (Leave p) e y i u = inl (leave_from p y e i u)
  accepted_from (Cancel p) e y i u = inl (cancel_from p y e i u)
  accepted_from (Fetch p f r) e y i u = fetch_from b p f r z (fetch_may b p f r e) y i u
  accepted_from (Return p) e y i u = inl (return_from p y e i u)

  pub waits_from : (c : Call) (y : ℕ) → Is y → is_waiting (stands (apply b c).board.programs y) ≡ true → From b c (apply b c) y
  unfolding refuse reply
  waits_from c y i u = by_check (checked b c)
      (λ e. let d = apply-accepted b c e in subst (λ r. From b c r y) (sym d)
      (accepted_from c e y i (ap (λ (r : Reply). is_waiting (stands r.board.programs y)) (sym d) ∙ u)))
      (λ r e. inl (ap (λ (q : Reply). prog q.board.programs y) (apply-refused b c r e)))
