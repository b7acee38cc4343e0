-- 02, CR 6: what specs/Digraph states, proved; and that on a sound board no file that is waited for can be given. Assumes nothing.
use Rattle.std.specs.Prelude.{ℕ, ◌≡◌, refl, ◌↔◌, ◌≢◌, Bool, true, false, not, cond, ◌&&◌, List, [], ◌∷◌, eqb, get_or, Ok, Err}
use Rattle.std.proofs.Common.{arith, sym, ◌∙◌, ap, ap₂, subst}
use Rattle.std.proofs.Math.Option.{none}
use mathlib.Core.List.Memᴰ
use Rattle.std.proofs.lemmas.Bool.{eqb-false}
use Rattle.laws.specs.Tests.{by_test, never, and_left, and_right, and_both, no_true, not_true, true_not, not_of, by_option}
use Rattle.files.specs.declared.FileSet.{FileSet}
use Rattle.rules.specs.declared.Board.{Board}
use Rattle.rules.specs.Checks.{Check}
use Rattle.rules.specs.declared.Word.{Word}
use Rattle.rules.specs.declared.Reply.{Reply}
use Rattle.laws.specs.Lists.{found, padded, listed}
use Rattle.rules.specs.Boards.{is_admitted, is_waiting, is_program, everyone, at, admitted, claims, awaited, awaited_of, opening}
use Rattle.rules.specs.Orders.{conflict, holds_back, carried, with_given, in_use, safe, can_give, taken}
use Rattle.rules.specs.Soundness.{sound}
use Rattle.rules.specs.Settling.{line, overdue}
use Rattle.rules.specs.Replies.{blank, reply, refuse, refuse_unsound}
use Rattle.rules.specs.Calls.{hold_for, enter, open_file, done, close_file, drop_file, leave, cancel, checked, accepted, unless, apply, direct}
use Rattle.rules.specs.Calls.{fetch, finish, return_item, Call, Enter, Open, Close, Drop, Leave, Cancel, Fetch, Return}
use Rattle.rules.specs.Digraph.{is_in, step, is_loop_of, is_loop_with, loop_for, is_unsafe}
use Rattle.laws.specs.Laws.{◌∈◌, Pairs, by_mem, any_some, listed-mem, mem-listed}
use Rattle.theory.specs.Programs.{Is, is_of, of_is, everyone_is, Own, opening_own, conflict-holds, conflict_sym, idle_conflict}
use Rattle.theory.specs.Carried.{holds_on, order_of_lem}
use Rattle.theory.specs.Loose.{waiting_in, waiting_file}
use Rattle.theory.specs.Reach.{mem-admitted, admitted-mem, given-same, given-other, given-admitted, given_grown}
use Rattle.theory.specs.Loops.{LeadsTo, Closes, is_loop_iff, loop_test, loop_on, unordered_loop}
use Rattle.theory.proofs.Loops.{loop_no_order}
use Rattle.theory.specs.Matrix.{step_iff, in_mem, mem_in, admitted_once, carried_in}
use Rattle.theory.specs.Calls.{open_may}
use Rattle.theory.specs.Sound.{Sound, sound_iff, own_of}
use Rattle.theory.specs.Digraph.{LoopOn, CheckerIff, LoopHasProgram, WaiterLoop, UnsafeOpen, CarriesSome}

-- ── The checker ──

pub loop_iff : (b : Board) (L : List ℕ) → (is_loop_of (step b) L ≡ true) ↔ LoopOn b L
loop_iff b L = (
  λ e. loop_on (step b) (holds_on b) (admitted b) L (λ x y m k n u. ((step_iff b x y).0 u).3)
      ((is_loop_iff (step b) (admitted b) L (λ x y u. ((step_iff b x y).0 u).1)).0 e),
  λ c. loop_test (step b) (admitted b) L (loop_on (holds_on b) (step b) (admitted b) L (λ x y m k n u. (step_iff b x y).1 (n, m, k, u)) c),
)

pub checker_iff : CheckerIff
unfolding is_loop_with
checker_iff b p f L = (
  λ e. let u = and_left (is_in b p && claims (at b p) f) given e in (
    in_mem b p (and_left (is_in b p) (claims (at b p) f) u),
    and_right (is_in b p) (claims (at b p) f) u,
    (loop_iff (with_given b p f) L).0 (and_right (is_in b p && claims (at b p) f) given e),
  ),
  λ (m, k, c). and_both (is_in b p && claims (at b p) f) given (and_both (is_in b p) (claims (at b p) f) (mem_in b p m) k)
      ((loop_iff (with_given b p f) L).1 c),
)
  where
    given : Bool
    given = is_loop_of (step (with_given b p f)) L

-- ── Where there is a loop ──

-- Of any board: a loop exists exactly where no completion order does.
pub loop_exists : (b : Board) → ((L : List ℕ) × (is_loop_of (step b) L ≡ true)) ↔ (found (carried b) ≡ false)
loop_exists b = (
  λ (L, e). no_true (found (carried b)) (λ t. let (o, c) = order_of_lem b t in
      loop_no_order (holds_on b) (admitted b) L o ((loop_iff b L).0 e) c),
  λ t. let (L, c) = unordered_loop (holds_on b) (admitted b) (admitted_once b) (sym (carried_in b) ∙ none_of t) in (L, (loop_iff b L).1 c),
)
  where
    none_of : found (carried b) ≡ false → carried b ≡ none
    none_of t = by_option (carried b) (λ u. u) (λ o u. never (ap found u) t)

-- With f given to p: exactly where no order comes back. Only an admitted program can be given a file, and only one that it claims.
pub given_loop : (b : Board) (p f : ℕ) → is_in b p ≡ true → claims (at b p) f ≡ true
    → ((L : List ℕ) × (is_loop_with b p f L ≡ true)) ↔ (safe b p f ≡ false)
unfolding safe is_loop_with
given_loop b p f i k = (
  λ (L, e). (loop_exists (with_given b p f)).0 (L, and_right (is_in b p && claims (at b p) f) _ e),
  λ t. let (L, e) = (loop_exists (with_given b p f)).1 t in (L, and_both (is_in b p && claims (at b p) f) _ (and_both (is_in b p) (claims (at b p) f) i k) e),
)

pub loop_has_program : LoopHasProgram
loop_has_program b p f L e t = by_test (listed p L) (listed-mem p L) (λ u. let (m, k, c) = (checker_iff b p f L).0 t in
    let (i, a) = admitted-mem b p m in let d = of_is p i in
    let inside : (y : ℕ) → y ∈ L → y ∈ admitted b = λ y q. subst (λ l. y ∈ l) (given-admitted b p f d a) (c.within y q) in
    let before = loop_on (holds_on (with_given b p f)) (holds_on b) L L
    (λ x y q r n w. sym ((given_grown b p f d a).same x y (inside x q) (inside y r) n (λ z. never (mem-listed p L (Memᴰ.cast (sym z) q)) u)) ∙ w)
    (record { two = c.two; different = c.different; within = λ y q. q; closed = c.closed }) in
    let (o, r) = order_of_lem b e in
    absurd (loop_no_order (holds_on b) (admitted b) L o
    (record { two = before.two; different = before.different; within = inside; closed = before.closed }) r))

-- ── Waiters ──

-- one in conflicting use and p, with the file given, hold back each other
used_unsafe : (b : Board) (p f i : ℕ) → Sound b → (c : is_program p ≡ true) (a : is_admitted (at b p).standing ≡ true) → claims (at b p) f ≡ true
    → Is i → i ≢ p → conflict (at b i) (opening (at b p) f) ≡ true → safe b p f ≡ false
unfolding safe Closes LeadsTo Pairs
used_unsafe b p f i s c a k j n e = (loop_exists (with_given b p f)).0 (
  p ∷ i ∷ [],
  (loop_iff (with_given b p f) (p ∷ i ∷ [])).1 (record {
    two = omega arith;
    different = (λ y m d. by_mem m (λ u. n (sym (d ∙ u))) (λ q. Memᴰ.not-nil q), (λ y m d. Memᴰ.not-nil m, tt));
    within = λ y m. by_mem m (λ d. inside y (Memᴰ.cast d (mem-admitted b p c a))) (λ q. by_mem q (λ d. inside y (Memᴰ.cast d in_i))
        (λ r. absurd (Memᴰ.not-nil r)));
    closed = (
      ap₂ holds_back (given-same b p f c a) (given-other b p f c a i j n)
          ∙ conflict-holds (opening (at b p) f) (at b i) (own_of b i s j).inside
          (conflict_sym (at b i) (opening (at b p) f) e),
      ap₂ holds_back (given-other b p f c a i j n) (given-same b p f c a)
          ∙ conflict-holds (at b i) (opening (at b p) f) own.inside e,
    );
  }),
)
  where
    inside : (y : ℕ) → y ∈ admitted b → y ∈ admitted (with_given b p f)
    inside y m = subst (λ l. y ∈ l) (sym (given-admitted b p f c a)) m

    own : Own (opening (at b p) f)
    own = opening_own (at b p) f k a (own_of b p s (is_of p c))

    in_i : i ∈ admitted b
    in_i = mem-admitted b i (of_is i j) (not_of _ (no_true (not (is_admitted (at b i).standing)) (λ t. never e
        (idle_conflict (at b i) (opening (at b p) f) ((own_of b i s j).idle (not_true _ t))))))

-- Who waits for a file on a sound board can't be given it without closing a loop: the file is in conflicting use, or no order comes back.
pub waiter_unsafe : (b : Board) (p : ℕ) → sound b ≡ true → Is p → is_waiting (at b p).standing ≡ true → (at b p).item ≡ 0
    → safe b p (awaited b p) ≡ false
unfolding can_give in_use
waiter_unsafe b p e c w z =
    let s = (sound_iff b).0 e in let (f, d) = waiting_file (at b p).standing w in let a = waiting_in (at b p).standing w in
    let g : awaited b p ≡ f = ap awaited_of d in
    ap (safe b p) g ∙ no_true (safe b p f) (λ t. by_test (in_use b p f)
    (λ u. let (i, m, v) = any_some (λ i. not (eqb i p) && conflict (at b i) (opening (at b p) f)) everyone u in
    let n = eqb-false i p (not_true (eqb i p) (and_left (not (eqb i p)) _ v)) in
    never t (used_unsafe b p f i s (of_is p c) a (s.waiter-asked p c f (d, z)).claimed (everyone_is i m) n (and_right (not (eqb i p)) _ v)))
    (λ u. never (and_both (not (in_use b p f)) (safe b p f) (true_not (in_use b p f) u) t) (s.waiter-stuck p c f (d, z))))

pub waiter_claims : (b : Board) (p : ℕ) → sound b ≡ true → Is p → is_waiting (at b p).standing ≡ true → (at b p).item ≡ 0
    → claims (at b p) (awaited b p) ≡ true
waiter_claims b p e c w z = let s = (sound_iff b).0 e in let (f, d) = waiting_file (at b p).standing w in
    ap (λ g. claims (at b p) (awaited_of g)) d ∙ (s.waiter-asked p c f (d, z)).claimed

pub waiter_loop : WaiterLoop
waiter_loop b p e c w z =
    (given_loop b p (awaited b p) (and_both (is_program p) (is_admitted (at b p).standing) (of_is p c) (waiting_in (at b p).standing w))
    (waiter_claims b p e c w z)).1 (waiter_unsafe b p e c w z)

-- ── What UNSAFE answers ──

abbrev unsafe_in : Reply → Bool
unsafe_in r = is_unsafe r.answer

accepted_unsafe : (b : Board) (k : Check) (r : Reply) → unsafe_in (unless b k r) ≡ true → (k ≡ Ok tt) × (unsafe_in r ≡ true)
unfolding refuse reply
accepted_unsafe b (Ok tt) r e = (refl, e)
accepted_unsafe b (Err n) r e = never {t = false} e refl

direct_unsafe : (b : Board) (c : Call) → unsafe_in (direct b c) ≡ true
    → (direct b c ≡ accepted b c) × (checked b c ≡ Ok tt) × (unsafe_in (accepted b c) ≡ true)
unfolding direct apply refuse_unsound
direct_unsafe b c e = by_test (sound b)
    (λ t. let (k, u) = accepted_unsafe b (checked b c) (accepted b c) (rw t at e) in
    (ap (λ (s : Bool). cond s (unless b (checked b c) (accepted b c)) (refuse_unsound b)) t ∙ ap (λ (x : Check). unless b x (accepted b c)) k, k, u))
    (λ t. never {t = false} (rw t at e) refl)

enter_not : (b : Board) (p : ℕ) (v q j : FileSet) → unsafe_in (enter b p v q j) ≡ false
unfolding enter hold_for reply
enter_not b p v q j = by_test (eqb b.favoured 0) (λ t. by_option (overdue b) (λ u. rw (t, u)) (λ w u. rw (t, u))) (λ t. rw t)

fetch_not : (b : Board) (p f r : ℕ) → unsafe_in (fetch b p f r) ≡ false
unfolding fetch reply
fetch_not b p f r = by_test (taken b p f r) (λ t. rw t) (λ t. rw t)

open_unsafe : (b : Board) (p f : ℕ) → unsafe_in (open_file b p f) ≡ true
    → (get_or (open_file b p f).lines 0 blank ≡ line Word.Unsafe p f) × (safe b p f ≡ false)
unfolding open_file reply padded
open_unsafe b p f e = by_test (in_use b p f)
    (λ t. never {t = false} (rw t at e) refl)
    (λ t. by_test (safe b p f) (λ u. never {t = false} (rw (t, u) at e) refl) (λ u. (rw (t, u), u)))

-- Only an open is answered UNSAFE.
pub unsafe_open : (b : Board) (c : Call) → is_unsafe (direct b c).answer ≡ true → UnsafeOpen b c (direct b c)
unfolding close_file drop_file leave cancel done finish return_item reply
unsafe_open b (Enter p v q j) e = never (direct_unsafe b (Enter p v q j) e).2 (enter_not b p v q j)
unsafe_open b (Open p f) e =
    let (d, k, w) = direct_unsafe b (Open p f) e in let (x, n) = open_unsafe b p f w in let m = open_may b p f k in record {
      program = p;
      file = f;
      call = refl;
      told = ap (λ (r : Reply). get_or r.lines 0 blank) d ∙ x;
      is_in_lem = and_both (is_program p) (is_admitted (at b p).standing) (of_is p m.is) (ap is_admitted m.runs);
      claimed = m.asked.claimed;
      unsafe = n;
    }
unsafe_open b (Close p f) e = never {t = false} (direct_unsafe b (Close p f) e).2 refl
unsafe_open b (Drop p f) e = never {t = false} (direct_unsafe b (Drop p f) e).2 refl
unsafe_open b (Leave p) e = never {t = false} (direct_unsafe b (Leave p) e).2 refl
unsafe_open b (Cancel p) e = never {t = false} (direct_unsafe b (Cancel p) e).2 refl
unsafe_open b (Fetch p f r) e = never (direct_unsafe b (Fetch p f r) e).2 (fetch_not b p f r)
unsafe_open b (Return p) e = never {t = false} (direct_unsafe b (Return p) e).2 refl

pub carries_some : CarriesSome
carries_some b c = by_test (is_unsafe (direct b c).answer)
    (λ t. let o = unsafe_open b c t in let (L, e) = (given_loop b o.program o.file o.is_in_lem o.claimed).1 o.unsafe in
    (L, rw t (ap (λ (x : Call). loop_for b x L) o.call ∙ e)))
    (λ t. ([], rw t))
