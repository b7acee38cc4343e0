-- What a cancel does on a sound board: "The program goes with its files and claims", and "a cancel of a held one counts nowhere".
-- Assumes nothing.
use Rattle.std.specs.Prelude.{ℕ, ◌≡◌, refl, ◌≢◌, true, false, List, [], ◌∷◌, eqb, Ok}
use Rattle.std.proofs.Math.Path.{sym, ap}
use Rattle.std.proofs.Common.{◌∙◌, ap₂, subst}
use mathlib.Core.List.Memᴰ
use borrow.Author.Tests.{eqb-true, eqb-false}
use Rattle.laws.specs.Tests.{by_test, never, no_true}
use Rattle.rules.specs.declared.Standing.{Standing}
use Rattle.rules.specs.declared.Program.{Program}
use Rattle.rules.specs.declared.Board.{Board}
use Rattle.rules.specs.declared.Answer.{Answer}
use Rattle.rules.specs.declared.Word.{Word}
use Rattle.laws.specs.Lists.{without, names}
use Rattle.rules.specs.Boards.{no_program, is_held, is_waiting, is_admitted, is_program, awaited_of, at, awaited, set_program, set_entry, opening}
use Rattle.rules.specs.Orders.{conflict, holds_back, can_give}
use Rattle.rules.specs.Soundness.{sound}
use Rattle.rules.specs.Settling.{line, still, pass, settle}
use Rattle.rules.specs.Replies.{refused, reply}
use Rattle.rules.specs.Checks.{cancel_check}
use Rattle.rules.specs.Calls.{finish, done, withdrawn, cancel, Cancel, checked, direct}
use Rattle.laws.specs.Laws.{◌∈◌, here}
use Rattle.theory.specs.Order.{IsOrder, order_below}
use Rattle.theory.specs.Programs.{Progs, Is, is_of, prog, put, Sized, sized_put, put_same, put_other, put_case, holds, ins, give, can, can_give_is}
use Rattle.theory.specs.Programs.{ins-mem, ins-same, ins-give, idle_conflict, used, used_by_lem, by_used, can-unused, can-order}
use Rattle.theory.specs.Programs.{can_of, Base}
use Rattle.theory.specs.Loose.{stands, waiting_file, Loose, Stuck, Good, Awaits, loose_unhold}
use Rattle.theory.specs.Settling.{can_serve, pass-still, choose-still, settle_settled}
use Rattle.theory.specs.Calls.{cancel_may, Withdrawn, cancel-withdrawn, apply-accepted}
use Rattle.theory.specs.Sound.{sound_iff, sound_good}
use Rattle.theory.specs.Worked.{passed_of}

-- ══ The statements ══

-- "The program goes with its files and claims": after an accepted cancel it is absent, with empty sets.
abbrev pub CancelledGoes : Type 0
CancelledGoes = (b : Board) (p : ℕ) → Sized b.programs → sound b ≡ true → refused (direct b (Cancel p)).answer ≡ false
    → at (direct b (Cancel p)).board p ≡ no_program

-- "a cancel of a held one counts nowhere": the program goes off the entry line, all else on the board is as before, both numbers too, and
-- DONE is the only line.
abbrev pub HeldCancel : Type 0
HeldCancel = (b : Board) (p : ℕ) → Sized b.programs → sound b ≡ true → is_program p ≡ true → (at b p).standing ≡ Standing.Held
    → direct b (Cancel p)
    ≡ reply (set_entry (set_program b p no_program) (without p (names b.entry))) Answer.Done (line Word.Done p 0 ∷ [])

-- ══ The proofs ══

-- ── The program goes ──

cancel-board : (b : Board) (p : ℕ) → sound b ≡ true → checked b (Cancel p) ≡ Ok tt
    → (direct b (Cancel p)).board ≡ (settle (withdrawn b p (at b p).standing)).board
unfolding direct cancel done finish reply
cancel-board b p s e = rw (s, apply-accepted b (Cancel p) e)

pub cancelled-goes : CancelledGoes
unfolding direct
cancelled-goes b p z s a = ap (λ (x : Board). at x p) (cancel-board b p s e)
    ∙ (settle_settled c l.w-loose l.w-counts).others p d (ap is_waiting gone) (ap is_held gone) ∙ is-gone
  where
    e : checked b (Cancel p) ≡ Ok tt
    e = passed_of b (Cancel p) (rw s at a)

    k : Good b
    k = sound_good b z ((sound_iff b).0 s)

    d : Is p
    d = (cancel_may b p e).is

    c : Board
    c = withdrawn b p (at b p).standing

    l : Withdrawn b c p
    l = cancel-withdrawn b p k (cancel_may b p e)

    is-gone : at c p ≡ no_program
    is-gone = ap (λ P. prog P p) l.w_programs ∙ put_same b.programs p no_program z d

    gone : (at c p).standing ≡ Standing.Absent
    gone = ap (λ (x : Program). x.standing) is-gone

-- ── No waiter's file can be given then either ──

module _ (P : Progs) (p y g : ℕ) (b : Base P) (c : Is p) (s : stands P p ≡ Standing.Held) (i : Is y) (n : y ≢ p) where
  -- the programs without p
  abbrev less : Progs
  less = put P p no_program

  size : Sized less
  size = sized_put P p no_program b.size

  same : (j : ℕ) → Is j → j ≢ p → prog less j ≡ prog P j
  same j d m = put_other P p j no_program c d m

  same-given : (j : ℕ) → Is j → j ≢ p → prog (give less y g) j ≡ prog (give P y g) j
  unfolding give
  same-given j d m = by_test (eqb j y)
      (λ t. let e = eqb-true j y t in
      ap (prog (put less y (opening (prog less y) g))) e
      ∙ put_same less y (opening (prog less y) g) size i
      ∙ ap (λ (x : Program). opening x g) (same y i n)
      ∙ sym (put_same P y (opening (prog P y) g) b.size i)
      ∙ ap (prog (put P y (opening (prog P y) g))) (sym e))
      (λ t. let k = eqb-false j y t in
      put_other less y j (opening (prog less y) g) i d k ∙ same j d m ∙ sym (put_other P y j (opening (prog P y) g) i d k))

  -- the same programs are admitted
  same_in : ins (give less y g) ≡ ins (give P y g)
  same_in = ins-give less y g size i ∙ ins-same P p no_program b.size c (sym (ap is_admitted s)) ∙ sym (ins-give P y g b.size i)

  in_other : (j : ℕ) → j ∈ ins (give P y g) → Is j × (j ≢ p)
  in_other j m = let (d, t) = ins-mem P j (subst (λ l. j ∈ l) (ins-give P y g b.size i) m) in
      (d, λ e. never {t = false} (sym (ap is_admitted s) ∙ ap (λ k. is_admitted (stands P k)) (sym e) ∙ t) refl)

  unused_too : used less y g ≡ false → used P y g ≡ false
  unused_too u = no_true _ (λ t. let (j, d, m, k) = used_by_lem P y g t in by_test (eqb j p)
      (λ e. never k (ap (λ h. conflict (prog P h) (opening (prog P y) g)) (eqb-true j p e)
      ∙ idle_conflict (prog P p) (opening (prog P y) g) ((b.own p c).idle (ap is_admitted s))))
      (λ e. never (by_used less y g j d m (ap₂ (λ (x z : Program). conflict x (opening z g)) (same j d (eqb-false j p e)) (same y i n) ∙ k)) u))

  can_too : can less y g ≡ true → can P y g ≡ true
  can_too t = let (o, k) = can-order less y g t in
      can_of P y g (unused_too (can-unused less y g t)) o
      (order_below (holds (give less y g)) (holds (give P y g)) (ins (give P y g)) o
      (λ a e m l _ u. ap₂ holds_back (same-given a (in_other a m).0 (in_other a m).1) (same-given e (in_other e l).0 (in_other e l).1) ∙ u)
      (subst (λ l. IsOrder (holds (give less y g)) l o) same_in k))

stuck_unhold : (P : Progs) (p : ℕ) → Base P → Is p → stands P p ≡ Standing.Held → Stuck P → Stuck (put P p no_program)
stuck_unhold P p b c s k y i g = put_case (λ q. Awaits q g → can (put P p no_program) y g ≡ false) P p no_program b.size c y i
    (λ _ u. never {t = false} (ap is_waiting u.0) refl) (λ n u. no_true _ (λ t. never (can_too P p y g b c s i n t) (k y i g u)))

-- ── Settling does nothing ──

pass-none : (ps : List ℕ) (b : Board) → ((y : ℕ) → y ∈ ps → can_serve b y ≡ false) → pass ps b ≡ still b
unfolding pass
pass-none [] b f = refl
pass-none (y ∷ ys) b f = pass-still y ys b (f y here) ∙ pass-none ys b (λ z m. f z (Memᴰ.tail m))

settle-none : (b : Board) → Loose b → Stuck b.programs → b.favoured ≢ 0 → settle b ≡ still b
unfolding settle
settle-none b k u n =
    let e : pass (names b.waiting) b ≡ still b = pass-none (names b.waiting) b
    (λ y m. let (i, w) = k.waits.of y m in let (g, d) = waiting_file (stands b.programs y) w in by_test (eqb (at b y).item 0)
    (λ t. rw t (ap (can_give b y) (ap awaited_of d) ∙ can_give_is b y g ∙ u y i g (d, eqb-true (at b y).item 0 t))) (λ t. rw t)) in
    rw (e, choose-still b n)

pub held-cancel : HeldCancel
unfolding direct cancel_check cancel done finish
held-cancel b p z s i h = rw s (apply-accepted b (Cancel p) (rw (i, h)) ∙ rw h (rw (settle-none c l still-stuck fav)))
  where
    k : Good b
    k = sound_good b z ((sound_iff b).0 s)

    d : Is p
    d = is_of p i

    c : Board
    c = set_entry (set_program b p no_program) (without p (names b.entry))

    l : Loose c
    l = loose_unhold b.programs b.waiting b.entry b.favoured b.initial b.leaves p d h k.loose

    still-stuck : Stuck c.programs
    still-stuck = stuck_unhold b.programs p k.loose.base d h k.stuck

    fav : b.favoured ≢ 0
    fav e = never {t = false} (sym (k.free e p d) ∙ ap is_held h) refl
