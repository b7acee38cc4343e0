-- The proofs of what is said of waiting programs: `few_pass`, `few_leave` and `record_by_count`.
-- Assumes nothing.
use Rattle.std.specs.Prelude.{ℕ, ◌≤◌, ◌+◌, ◌-◌, ◌≡◌, refl, ◌≢◌, ◌⊎◌, true, false, List, [], ◌∷◌, ◌++◌, eqb}
use Rattle.std.proofs.Common.{arith, sym, ◌∙◌, ap, subst, ⊎_elim, append-nil, append_assoc}
use lib.ListN.{length}
use Rattle.laws.specs.Tests.{by_test, never}
use Rattle.rules.specs.declared.Standing.{Standing}
use Rattle.rules.specs.declared.Program.{Program}
use Rattle.rules.specs.declared.Board.{Board}
use Rattle.rules.specs.declared.Answer.{Answer}
use Rattle.rules.specs.declared.Word.{Word}
use Rattle.rules.specs.declared.Line.{Line}
use Rattle.rules.specs.declared.Reply.{Reply}
use Rattle.laws.specs.Lists.{padded}
use Rattle.rules.specs.Boards.{no_program, is_waiting, is_admitted, empty_board, at, passed_by, admitted}
use Rattle.rules.specs.Orders.{in_use, safe, taken}
use Rattle.rules.specs.Settling.{line_of}
use Rattle.rules.specs.Replies.{refused, reply, lines_of, admits}
use Rattle.rules.specs.Calls.{open_file, fetch, Call, Enter, Open, Close, Drop, Leave, Cancel, Fetch, Return}
use Rattle.rules.specs.Worked.{worked_from, worked}
use Rattle.laws.specs.Laws.{◌∈◌, NoRepeat, length_without}
use Rattle.theory.specs.Programs.{Is, admitted_is, mem-ins, ins_once}
use Rattle.theory.specs.Loose.{stands, waiting_in}
use Rattle.theory.specs.Settling.{waiter_line, Newly}
use Rattle.theory.specs.Calls.{gone_count, count_if, gone_by, apply-accepted, RunsMay, open_may, fetch_may}
use Rattle.theory.specs.Waits.{Begins, waits_from}
use Rattle.theory.specs.Worked.{worked_good, worked_snoc, passed_of}
use Rattle.theory.proofs.Worked.{waiter_bound}
use Rattle.theory.specs.Demand3.{reply_after, Waits, AsksFor, admitted_after, accepted_leave, leaves_in}
use Rattle.theory.proofs.Demand3Proof.{step, by_end, snoc_split, leaves_in_snoc}
use Rattle.theory.specs.Passing.{admissions_in, WaitsThrough, WaitingSince, FewPass, FewLeave, RecordByCount}

-- ── One wait ──

waits_accepted : (a : Answer) → Waits a → refused a ≡ false
waits_accepted a w = ⊎_elim (λ e. ap refused e) (λ e. ap refused e) w

-- The open or the fetch by which p began to wait.
asked : (xs : List Call) (c : Call) (p f r : ℕ) → AsksFor c p f r → Waits (reply_after xs c).answer → RunsMay (worked xs) p
asked xs c p f r a w = ⊎_elim
    (λ u. let m = open_may (worked xs) p f (passed_of (worked xs) (Open p f) (waits_accepted _ (subst (λ d. Waits (reply_after xs d).answer)
    u.0 w))) in record { is = m.is; runs = m.runs })
    (λ u. let m = fetch_may (worked xs) p f r (passed_of (worked xs) (Fetch p f r) (waits_accepted _ (subst
    (λ d. Waits (reply_after xs d).answer) u.0 w))) in record { is = m.is; runs = m.runs }) a

wait_may : (xs : List Call) (c : Call) (p : ℕ) (ys : List Call) → WaitsThrough xs c p ys → RunsMay (worked xs) p
wait_may xs c p ys w = asked xs c p w.file w.item w.asks w.began

-- p waits after the calls xs, and after each of the calls ys.
abbrev Lasts : List Call → ℕ → List Call → Type 0
Lasts xs p ys = (us vs : List Call) → ys ≡ us ++ vs → is_waiting (at (worked (xs ++ us)) p).standing ≡ true

lasts : (xs : List Call) (c : Call) (p : ℕ) (ys : List Call) → WaitsThrough xs c p ys → Lasts (xs ++ (c ∷ [])) p ys
lasts xs c p ys w us vs e = subst (λ l. is_waiting (at (worked l) p).standing ≡ true) (sym (append_assoc xs (c ∷ []) us))
    (w.lasted us vs e)

-- While p waits, its count goes up by the admissions.
count_through : (xs ys : List Call) (p : ℕ) → Is p → Lasts xs p ys → passed_by (worked (xs ++ ys)) p ≡ passed_by (worked xs) p
    + admissions_in xs ys
unfolding admissions_in
count_through xs [] p i w = let e = ap (λ l. passed_by (worked l) p) (append-nil xs) in omega arith
count_through xs (c ∷ ys) p i w =
    let s = worked_snoc xs c in
    let now : is_waiting (at (reply_after xs c).board p).standing ≡ true = ap (λ b. is_waiting (at b p).standing) (sym s) ∙ w (c ∷
    []) ys refl in
    let x = (step xs c).count p i now in
    let y = ap (λ b. passed_by b p) s in
    let r = count_through (xs ++ (c ∷ [])) ys p i (λ us vs e. subst (λ l. is_waiting (at (worked l) p).standing ≡ true)
    (sym (append_assoc xs (c ∷ []) us)) (w (c ∷ us) vs (ap (c ∷◌) e))) in
    let z = ap (λ l. passed_by (worked l) p) (append_assoc xs (c ∷ []) ys) in
    omega arith

-- What the list counts as a leave during a wait of p takes an admitted program away.
leave_gone : (p : ℕ) (xs : List Call) (c : Call) → accepted_leave p xs c ≤ gone_by (worked xs) c
leave_gone p xs (Enter q v r j) = omega arith
leave_gone p xs (Open q f) = omega arith
leave_gone p xs (Close q f) = omega arith
leave_gone p xs (Drop q f) = omega arith
leave_gone p xs (Fetch q f r) = omega arith
leave_gone p xs (Return q) = omega arith
leave_gone p xs (Leave q) = by_test (refused (reply_after xs (Leave q)).answer) (λ t. rw t (omega arith))
    (λ t. let e = ap (λ k. count_if k 1) (passed_of (worked xs) (Leave q) t) in rw t (omega arith))
leave_gone p xs (Cancel q) = by_test (refused (reply_after xs (Cancel q)).answer) (λ t. rw t (omega arith))
    (λ t. let e = ap (λ k. count_if k (gone_count (worked xs) q)) (passed_of (worked xs) (Cancel q) t) in
    by_test (eqb p q) (λ u. rw (t, u) (omega arith)) (λ u. rw (t, u) (omega arith)))

leave-most : (p : ℕ) (xs : List Call) (c : Call) → accepted_leave p xs c ≤ 1
leave-most p xs (Enter q v r j) = omega arith
leave-most p xs (Open q f) = omega arith
leave-most p xs (Close q f) = omega arith
leave-most p xs (Drop q f) = omega arith
leave-most p xs (Fetch q f r) = omega arith
leave-most p xs (Return q) = omega arith
leave-most p xs (Leave q) = by_test (refused (reply_after xs (Leave q)).answer) (λ t. rw t (omega arith)) (λ t. rw t (omega arith))
leave-most p xs (Cancel q) = by_test (refused (reply_after xs (Cancel q)).answer) (λ t. rw t (omega arith))
    (λ t. by_test (eqb p q) (λ v. rw (t, v) (omega arith)) (λ v. by_test (is_admitted (at (worked xs) q).standing)
    (λ u. rw (t, v, u) (omega arith)) (λ u. rw (t, v, u) (omega arith))))

-- Leaves, admissions and the number admitted.
sum_through : (p : ℕ) (xs ys : List Call) → leaves_in p xs ys + admitted_after (xs ++ ys) ≤ admitted_after xs + admissions_in xs ys
unfolding leaves_in admissions_in
sum_through p xs [] = let e = ap admitted_after (append-nil xs) in omega arith
sum_through p xs (c ∷ ys) =
    let s = ap (λ b. length (admitted b)) (worked_snoc xs c) in
    let x = (step xs c).sum in
    let y = leave_gone p xs c in
    let a = ap length (admitted_is (worked xs)) in
    let b = ap length (admitted_is (reply_after xs c).board) in
    let r = sum_through p (xs ++ (c ∷ [])) ys in
    let z = ap admitted_after (append_assoc xs (c ∷ []) ys) in
    omega arith

-- No waiter has been passed by more than 8 admissions.
passed_few : (xs : List Call) (c : Call) (p : ℕ) (ys : List Call) → WaitsThrough xs c p ys → admissions_in (xs ++ (c ∷ [])) ys ≤ 8
passed_few xs c p ys w =
    let i = (wait_may xs c p ys w).is in
    let t = count_through (xs ++ (c ∷ [])) ys p i (lasts xs c p ys w) in
    let m = (worked_good ((xs ++ (c ∷ [])) ++ ys)).counts.counted.most p i in
    omega arith

open_admits : (b : Board) (p f : ℕ) → admits (lines_of (open_file b p f)) ≡ 0
unfolding open_file admits reply padded
open_admits b p f = by_test (in_use b p f) (λ t. rw t) (λ t. by_test (safe b p f) (λ u. rw (t, u)) (λ u. rw (t, u)))

fetch-admits : (b : Board) (p f r : ℕ) → admits (lines_of (fetch b p f r)) ≡ 0
unfolding fetch admits reply padded
fetch-admits b p f r = by_test (taken b p f r) (λ t. rw t) (λ t. rw t)

-- An open or a fetch that waits admits nobody.
ask_admits : (xs : List Call) (c : Call) (p f r : ℕ) → AsksFor c p f r → Waits (reply_after xs c).answer
    → admits (lines_of (reply_after xs c)) ≡ 0
ask_admits xs c p f r a w = ⊎_elim
    (λ u. ap (λ d. admits (lines_of (reply_after xs d))) u.0 ∙ ap (λ (q : Reply). admits (lines_of q)) (apply-accepted (worked xs) (Open p f)
    (passed_of (worked xs) (Open p f) (waits_accepted _ (subst (λ d. Waits (reply_after xs d).answer) u.0 w)))) ∙ open_admits (worked xs) p f)
    (λ u. ap (λ d. admits (lines_of (reply_after xs d))) u.0 ∙ ap (λ (q : Reply). admits (lines_of q)) (apply-accepted (worked xs)
    (Fetch p f r) (passed_of (worked xs) (Fetch p f r) (waits_accepted _ (subst (λ d. Waits (reply_after xs d).answer) u.0 w))))
    ∙ fetch-admits (worked xs) p f r) a

-- Who begins to wait has count 0.
count_starts : (xs : List Call) (c : Call) (p : ℕ) (ys : List Call) → WaitsThrough xs c p ys → passed_by (worked (xs ++ (c ∷ []))) p ≡ 0
count_starts xs c p ys w =
    let m = wait_may xs c p ys w in
    let s = worked_snoc xs c in
    let x = (step xs c).count p m.is (ap (λ b. is_waiting (at b p).standing) (sym s) ∙ w.lasted [] ys refl) in
    let y = ap (λ b. passed_by b p) s in
    let z = (worked_good xs).counts.counted.rest p m.is (ap is_waiting m.runs) in
    let a = ask_admits xs c p w.file w.item w.asks w.began in
    omega arith

-- The call by which a waiter began to wait.
record Began (xs : List Call) (p : ℕ) : Type 0 where
  before : List Call
  call : Call
  after : List Call
  split : xs ≡ before ++ (call ∷ after)
  wait : WaitsThrough before call p after
  awaits : (at (worked xs) p).standing ≡ Standing.Waiting wait.file
  awaits_item : (at (worked xs) p).item ≡ wait.item

empty_waits : (p : ℕ) → Is p → is_waiting (at empty_board p).standing ≡ false
empty_waits p i = ap (λ (q : Program). is_waiting q.standing) (lib.ListN.get_or-replicate 32 (p - 1) no_program no_program
    (let m = i.most in let n = i.least in omega arith))

began_now : (l : List Call) (c : Call) (p : ℕ) → Begins c (reply_after l c).answer (at (reply_after l c).board p) p → Began (l ++ (c ∷ [])) p
began_now l c p w = record {
  before = l;
  call = c;
  after = [];
  split = refl;
  wait = record { file = w.file; item = w.item; asks = w.asks; began = w.waits; lasted = nothing };
  awaits = ap (λ b. (at b p).standing) (worked_snoc l c) ∙ w.awaits;
  awaits_item = ap (λ b. (at b p).item) (worked_snoc l c) ∙ w.awaits_item;
}
  where
    nothing : (us vs : List Call) → [] ≡ us ++ vs → is_waiting (at (worked (l ++ (c ∷ us))) p).standing ≡ true
    nothing [] vs k = ap is_waiting (ap (λ b. (at b p).standing) (worked_snoc l c) ∙ w.awaits)
    nothing (x ∷ us) vs k = absurd (let j = ap length k in omega arith)

began_still : (l : List Call) (c : Call) (p : ℕ) → is_waiting (at (worked (l ++ (c ∷ []))) p).standing ≡ true
    → at (worked (l ++ (c ∷ []))) p ≡ at (worked l) p → Began l p → Began (l ++ (c ∷ [])) p
began_still l c p u v r = record {
  before = r.before;
  call = r.call;
  after = r.after ++ (c ∷ []);
  split = now;
  wait = record { file = r.wait.file; item = r.wait.item; asks = r.wait.asks; began = r.wait.began; lasted = more };
  awaits = ap (λ (q : Program). q.standing) v ∙ r.awaits;
  awaits_item = ap (λ (q : Program). q.item) v ∙ r.awaits_item;
}
  where
    now : l ++ (c ∷ []) ≡ r.before ++ (r.call ∷ (r.after ++ (c ∷ [])))
    now = ap (◌++ (c ∷ [])) r.split ∙ append_assoc r.before (r.call ∷ r.after) (c ∷ [])

    more : (us vs : List Call) → r.after ++ (c ∷ []) ≡ us ++ vs → is_waiting (at (worked (r.before ++ (r.call ∷ us))) p).standing ≡ true
    more us [] k = subst (λ h. is_waiting (at (worked (r.before ++ (r.call ∷ h))) p).standing ≡ true) (k ∙ append-nil us)
        (subst (λ h. is_waiting (at (worked h) p).standing ≡ true) now u)
    more us (d ∷ vs) k = ⊎_elim
        (λ q. subst (λ h. is_waiting (at (worked (r.before ++ (r.call ∷ h))) p).standing ≡ true) (sym q.0)
        (r.wait.lasted r.after [] (sym (append-nil r.after))))
        (λ q. r.wait.lasted us (d ∷ q.0) q.1)
        (snoc_split r.after us vs c d k)

waiter_began : (xs : List Call) (p : ℕ) → Is p → is_waiting (at (worked xs) p).standing ≡ true → Began xs p
unfolding worked worked_from
waiter_began xs = by_end (λ l. (p : ℕ) → Is p → is_waiting (at (worked l) p).standing ≡ true → Began l p)
    (λ p i w. never w (empty_waits p i)) next xs
  where
    next : (l : List Call) (c : Call) → ((p : ℕ) → Is p → is_waiting (at (worked l) p).standing ≡ true → Began l p) → (p : ℕ) → Is p
        → is_waiting (at (worked (l ++ (c ∷ []))) p).standing ≡ true → Began (l ++ (c ∷ [])) p
    next l c ih p i w = let s = worked_snoc l c in
        ⊎_elim (λ v. let e = ap (λ b. at b p) s ∙ v in
        began_still l c p w e (ih p i (ap (λ (q : Program). is_waiting q.standing) (sym e) ∙ w))) (began_now l c p)
        (waits_from (worked l) (worked_good l) c p i (ap (λ b. is_waiting (at b p).standing) (sym s) ∙ w))

waiting_since : (xs : List Call) (p : ℕ) → Is p → is_waiting (at (worked xs) p).standing ≡ true → WaitingSince xs p
waiting_since xs p i w =
    let r = waiter_began xs p i w in
    let start = r.before ++ (r.call ∷ []) in
    let l = lasts r.before r.call p r.after r.wait in
    let c = count_through start r.after p i l in
    let z = count_starts r.before r.call p r.after r.wait in
    let e = ap (λ h. passed_by (worked h) p) (append_assoc r.before (r.call ∷ []) r.after ∙ sym r.split) in
    record {
      before = r.before;
      call = r.call;
      after = r.after;
      split = r.split;
      wait = r.wait;
      awaits = r.awaits;
      awaits_item = r.awaits_item;
      few = passed_few r.before r.call p r.after r.wait;
      count = omega arith;
    }

-- ══ The theorems ══

pub few_pass : (cs : List Call) → FewPass cs
few_pass cs p i w = waiting_since cs p i w

pub few_leave : (cs : List Call) → FewLeave cs
few_leave cs xs ys zs c d p _ w =
    let start = xs ++ (c ∷ []) in
    let i = (wait_may xs c p ys w).is in
    let l = lasts xs c p ys w in
    let s = sum_through p start ys in
    let m = passed_few xs c p ys w in
    let t = waiter_bound (worked (start ++ ys)) p (worked_good (start ++ ys)) i (l ys [] (sym (append-nil ys))) in
    let a = ap length (admitted_is (worked (start ++ ys))) in
    let q = leaves_in_snoc p start ys d in
    let k = leave-most p (start ++ ys) d in
    let o = length_without p (admitted (worked start)) (subst NoRepeat (sym (admitted_is (worked start))) (ins_once
    (worked start).programs))
    (subst (λ h. p ∈ h) (sym (admitted_is (worked start))) (mem-ins (worked start).programs p i
    (waiting_in (stands (worked start).programs p) (w.lasted [] ys refl)))) in
    omega arith

pub record_by_count : (cs : List Call) → RecordByCount cs
record_by_count cs xs ys c p f r _ h n = ⊎_elim
    (λ w. let q = w.1 in
    let d : line_of Word.Favour p f r ≡ waiter_line Word.Favour w.0 (at (reply_after xs c).board w.0) =
    q.no_other (line_of Word.Favour p f r) h refl in
    let dp : p ≡ w.0 = ap (λ (l : Line). l.program) d in
    let dr : r ≡ (at (reply_after xs c).board w.0).item = ap (λ (l : Line). l.item) d in
    ⊎_elim (λ z. absurd (n (dr ∙ z)))
    (λ z. ap (λ b. passed_by b p) (worked_snoc xs c) ∙ ap (passed_by (reply_after xs c).board) dp ∙ z) q.why)
    (λ w. absurd (w.1 (line_of Word.Favour p f r) h refl))
    (step xs c).fav
