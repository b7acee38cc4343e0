-- The proof of demand 3: `demand3`.
-- Assumes nothing.
use Rattle.std.specs.Prelude.{ℕ, suc, ◌≤◌, ◌+◌, ◌≡◌, refl, ◌↔◌, ◌≢◌, ◌⊎◌, true, false, List, [], ◌∷◌, ◌++◌, Ok}
use Rattle.std.proofs.Common.{arith, sym, ◌∙◌, ap, ap₂, subst, inl, inr, ⊎_elim, append-nil, append_assoc}
use lib.ListN.{length}
use Rattle.laws.specs.Tests.{by_test, never}
use Rattle.rules.specs.declared.Program.{Program}
use Rattle.rules.specs.declared.Board.{Board}
use Rattle.rules.specs.declared.Answer.{Answer}
use Rattle.rules.specs.declared.Word.{Word}
use Rattle.rules.specs.declared.Line.{Line}
use Rattle.rules.specs.declared.Reply.{Reply}
use Rattle.rules.specs.Boards.{is_waiting, empty_board, at, awaited, awaited_of, admitted}
use Rattle.rules.specs.Orders.{holds_back, with_given, in_use, safe, taken}
use Rattle.rules.specs.Settling.{line_of}
use Rattle.rules.specs.Replies.{settling_lines, refused, reply, order_of}
use Rattle.rules.specs.Calls.{open_file, fetch, finish, done, leave, cancel, Call, Enter, Open, Close, Drop, Leave, Cancel, Fetch, Return}
use Rattle.rules.specs.Calls.{checked, apply}
use Rattle.rules.specs.Worked.{worked_from, worked, replies_from, direct_from}
use Rattle.laws.specs.Laws.{◌∈◌, Pairs, Pairs_split}
use Rattle.theory.specs.Order.{Names, IsOrder}
use Rattle.theory.specs.Programs.{admitted_is, in_use_is, used_by_lem, by_used}
use Rattle.theory.specs.Loose.{stands}
use Rattle.theory.specs.Settling.{waiter_line, Newly}
use Rattle.theory.specs.Calls.{step_of, by_check, FavourMore, EndedIn, Withdrew, Stepped, cancel_count, count_if, none_counted, leaves_by}
use Rattle.theory.specs.Calls.{gone_by, cancelled_by, apply-accepted, apply_stepped, taken_by, by_taken}
use Rattle.theory.specs.Carried.{holds_on, EveryOrderHeld, unsafe_iff}
use Rattle.theory.specs.Worked.{worked_good, worked_snoc, direct-worked, replies_split, passed_of}
use Rattle.theory.specs.Worked.{AwaitsInUse, order_of_reply, first_runs}
use Rattle.theory.proofs.Worked.{favoured_bound}
use Rattle.theory.specs.Demand3.{reply_after, Accepted, Waits, ConflictingUse, admitted_after, accepted_leave, leaves_in, Favours}
use Rattle.theory.specs.Demand3.{FavouredThrough, RecordTaken, StandsAt, LastOrder, FavouredBy, GetsIt, CancelledIn, Demand3}

pub step : (xs : List Call) (c : Call) → Stepped (worked xs) (leaves_by (worked xs) c) (gone_by (worked xs) c) (cancelled_by (worked xs) c)
    (step_of (reply_after xs c))
step xs c = apply_stepped (worked xs) c (worked_good xs)

-- ── Lists from their end ──

pub by_end : (D : List Call → Type 0) → D [] → ((xs : List Call) (c : Call) → D xs → D (xs ++ (c ∷ []))) → (xs : List Call) → D xs
by_end D z s xs = go [] xs z
  where
    go : (done left : List Call) → D done → D (done ++ left)
    go done [] h = subst D (sym (append-nil done)) h
    go done (c ∷ left) h = subst D (append_assoc done (c ∷ []) left) (go (done ++ (c ∷ [])) left (s done c h))

-- Where a list with one more at its end is split, the split is at the end, or before it.
pub snoc_split : (xs us vs : List Call) (c d : Call) → xs ++ (c ∷ []) ≡ us ++ (d ∷ vs) → ((us ≡ xs) × (d ≡ c)) ⊎
    ((ws : List Call) × (xs ≡ us ++ (d ∷ ws)))
snoc_split [] [] vs c d e = inl (refl, let k : d ≡ c = cc in k)
snoc_split [] (u ∷ us) vs c d e = absurd (let k = ap length e in let j = lib.ListN.length-append us (d ∷ vs) in omega arith)
snoc_split (x ∷ xs) [] vs c d e = inr (xs, let k : x ≡ d = cc in ap (◌∷ xs) k)
snoc_split (x ∷ xs) (u ∷ us) vs c d e =
    let k : x ≡ u = cc in
    let r : xs ++ (c ∷ []) ≡ us ++ (d ∷ vs) = cc in
    ⊎_elim (λ z. inl (ap₂ ◌∷◌ (sym k) z.0, z.1)) (λ z. inr (z.0, ap₂ ◌∷◌ k z.1)) (snoc_split xs us vs c d r)

-- ── Leaves ──

leave_answer : (b : Board) (p : ℕ) → refused (leave b p).answer ≡ false
unfolding leave finish reply
leave_answer b p = refl

cancel_answer : (b : Board) (p : ℕ) → refused (cancel b p).answer ≡ false
unfolding cancel done finish reply
cancel_answer b p = refl

-- What the rules count is what the list counts for the favoured program.
leaves-same : (xs : List Call) (c : Call) → leaves_by (worked xs) c ≡ accepted_leave (worked xs).favoured xs c
leaves-same xs (Enter p v q j) = none_counted (checked (worked xs) (Enter p v q j))
leaves-same xs (Open p f) = none_counted (checked (worked xs) (Open p f))
leaves-same xs (Close p f) = none_counted (checked (worked xs) (Close p f))
leaves-same xs (Drop p f) = none_counted (checked (worked xs) (Drop p f))
leaves-same xs (Fetch p f r) = none_counted (checked (worked xs) (Fetch p f r))
leaves-same xs (Return p) = none_counted (checked (worked xs) (Return p))
leaves-same xs (Leave p) = by_test (refused (reply_after xs (Leave p)).answer)
    (λ t. rw t (by_check (checked (worked xs) (Leave p))
    (λ e. never t (ap (λ (r : Reply). refused r.answer) (apply-accepted (worked xs) (Leave p) e) ∙ leave_answer (worked xs) p))
    (λ r e. ap (λ k. count_if k 1) e)))
    (λ t. rw t (ap (λ k. count_if k 1) (passed_of (worked xs) (Leave p) t)))
leaves-same xs (Cancel p) = by_test (refused (reply_after xs (Cancel p)).answer)
    (λ t. rw t (by_check (checked (worked xs) (Cancel p))
    (λ e. never t (ap (λ (r : Reply). refused r.answer) (apply-accepted (worked xs) (Cancel p) e) ∙ cancel_answer (worked xs) p))
    (λ r e. ap (λ k. count_if k (cancel_count (worked xs) p)) e)))
    (λ t. rw t (ap (λ k. count_if k (cancel_count (worked xs) p)) (passed_of (worked xs) (Cancel p) t)))

-- ── Favoured through some calls ──

through-none : (xs us vs : List Call) (p : ℕ) → (worked xs).favoured ≡ p → [] ≡ us ++ vs → (worked (xs ++ us)).favoured ≡ p
through-none xs [] vs p e k = ap (λ l. (worked l).favoured) (append-nil xs) ∙ e
through-none xs (u ∷ us) vs p e k = absurd (let j = ap length k in omega arith)

through-one : (xs us vs ys : List Call) (c : Call) (p : ℕ) → (worked xs).favoured ≡ p → FavouredThrough (xs ++ (c ∷ [])) ys p
    → c ∷ ys ≡ us ++ vs → (worked (xs ++ us)).favoured ≡ p
through-one xs [] vs ys c p e t k = ap (λ l. (worked l).favoured) (append-nil xs) ∙ e
through-one xs (u ∷ us) vs ys c p e t k =
    let d : c ≡ u = cc in
    let j : ys ≡ us ++ vs = cc in
    ap (λ l. (worked l).favoured) (ap (λ h. xs ++ (h ∷ us)) (sym d) ∙ sym (append_assoc xs (c ∷ []) us)) ∙ t us vs j

-- ── Cancels ──

-- The call that cancels p.
cancelled_is : (b : Board) (c : Call) (p : ℕ) → p ≢ 0 → p ≡ cancelled_by b c → (c ≡ Cancel p) × (checked b c ≡ Ok tt)
cancelled_is b (Enter q v w j) p z d = absurd (z (d ∙ none_counted (checked b (Enter q v w j))))
cancelled_is b (Fetch q f r) p z d = absurd (z (d ∙ none_counted (checked b (Fetch q f r))))
cancelled_is b (Return q) p z d = absurd (z (d ∙ none_counted (checked b (Return q))))
cancelled_is b (Open q f) p z d = absurd (z (d ∙ none_counted (checked b (Open q f))))
cancelled_is b (Close q f) p z d = absurd (z (d ∙ none_counted (checked b (Close q f))))
cancelled_is b (Drop q f) p z d = absurd (z (d ∙ none_counted (checked b (Drop q f))))
cancelled_is b (Leave q) p z d = absurd (z (d ∙ none_counted (checked b (Leave q))))
cancelled_is b (Cancel q) p z d = by_check (checked b (Cancel q))
    (λ e. (ap Cancel (sym (d ∙ ap (λ k. count_if k q) e)), e)) (λ r e. absurd (z (d ∙ ap (λ k. count_if k q) e)))

own_cancel : (xs es : List Call) (c : Call) (p : ℕ) → p ≢ 0 → (worked xs).favoured ≡ p → p ≡ cancelled_by (worked xs) c
    → is_waiting (at (reply_after xs c).board p).standing ≡ false → CancelledIn xs (c ∷ es) p
own_cancel xs es c p z v d w = let (e, k) = cancelled_is (worked xs) c p z d in record {
  before = [];
  after = es;
  split = ap (◌∷ es) e;
  that_wait = λ us vs k. through-none xs us vs p v k;
  accepted = subst (λ l. Accepted l (Cancel p)) (sym (append-nil xs)) (ap (λ (r : Reply). refused r.answer)
      (apply-accepted (worked xs) (Cancel p) (subst (λ h. checked (worked xs) h ≡ Ok tt) e k)) ∙ cancel_answer (worked xs) p);
  wait-over = ap (λ h. is_waiting (at (worked (xs ++ (h ∷ []))) p).standing) (sym e)
      ∙ ap (λ b. is_waiting (at b p).standing) (worked_snoc xs c) ∙ w;
}

pub leaves_in_snoc : (p : ℕ) (xs ys : List Call) (c : Call) → leaves_in p xs (ys ++ (c ∷ [])) ≡ leaves_in p xs ys + accepted_leave p (xs ++ ys) c
unfolding leaves_in
leaves_in_snoc p xs [] c = rw (append-nil xs) (omega arith)
leaves_in_snoc p xs (y ∷ ys) c =
    let i = leaves_in_snoc p (xs ++ (y ∷ [])) ys c in
    let j : accepted_leave p ((xs ++ (y ∷ [])) ++ ys) c ≡ accepted_leave p (xs ++ (y ∷ ys)) c =
    ap (λ l. accepted_leave p l c) (append_assoc xs (y ∷ []) ys) in
    omega arith

-- ── Each answer ──

replies_length : (b : Board) (xs : List Call) → length (replies_from b xs) ≡ length xs
unfolding replies_from
replies_length b [] = refl
replies_length b (x ∷ xs) = ap suc (replies_length (apply b x).board xs)

stands_at_lem : (cs xs ys : List Call) (c : Call) → cs ≡ xs ++ (c ∷ ys) → StandsAt (length xs) (reply_after xs c) (direct_from empty_board cs)
stands_at_lem cs xs ys c e = record {
  earlier = replies_from empty_board xs;
  later = replies_from (reply_after xs c).board ys;
  split = ap (direct_from empty_board) e ∙ direct-worked (xs ++ (c ∷ ys)) ∙ replies_split xs ys c;
  place = replies_length empty_board xs;
}

-- ── The last answer ──

at_end : (xs : List Call) (c : Call) → LastOrder (xs ++ (c ∷ []))
unfolding replies_from
at_end xs c = record {
  earlier = replies_from empty_board xs;
  last = reply_after xs c;
  last-answer = direct-worked (xs ++ (c ∷ [])) ∙ replies_split xs [] c;
  names-each-once = subst (λ b. Names (admitted b) o) (sym e) (record { all = i.all; only = i.only; once = i.once });
  none-held-back = λ before after k j d m. subst (λ b. holds_back (at b j) (at b k) ≡ false) (sym e) (Pairs_split
      (λ x y. holds_on (reply_after xs c).board y x ≡ false) before after k j
      (subst (λ l. Pairs (λ x y. holds_on (reply_after xs c).board y x ≡ false) l) d i.clear) m);
  first-free = λ p rest d. subst (λ b. (is_waiting (at b p).standing ≡ false) ⊎ AwaitsInUse b p) (sym e)
      (first_runs (reply_after xs c).board p rest (step xs c).good (subst (IsOrder (holds_on (reply_after xs c).board)
      (admitted (reply_after xs c).board)) d i));
}
  where
    o : List ℕ
    o = order_of (reply_after xs c)

    e : worked (xs ++ (c ∷ [])) ≡ (reply_after xs c).board
    e = worked_snoc xs c

    i : IsOrder (holds_on (reply_after xs c).board) (admitted (reply_after xs c).board) o
    i = order_of_reply (worked xs) c (worked_good xs)

last_order : (cs : List Call) → cs ≢ [] → LastOrder cs
last_order cs n = by_end (λ l. l ≢ [] → LastOrder l) (λ z. absurd (z refl)) (λ xs c _ _. at_end xs c) cs n

-- ── Opens ──

used_iff : (b : Board) (p f : ℕ) → (in_use b p f ≡ true) ↔ ConflictingUse b p f
used_iff b p f = (
  λ e. used_by_lem b.programs p f (sym (in_use_is b p f) ∙ e),
  λ u. in_use_is b p f
      ∙ by_used b.programs p f u.0 u.1 u.2 u.3,
)

open_answer : (b : Board) (p f : ℕ) → Waits (open_file b p f).answer ↔ (ConflictingUse b p f ⊎ EveryOrderHeld (with_given b p f))
unfolding open_file reply
open_answer b p f = by_test (in_use b p f)
    (λ t. (λ _. inl ((used_iff b p f).0 t), λ _. inl (rw t)))
    (λ t. by_test (safe b p f)
    (λ u. (
      λ w. absurd (given-waits (rw (t, u) at w)),
      λ s. ⊎_elim (λ k. never ((used_iff b p f).1 k) t) (λ k. never u ((unsafe_iff b p f).1 k)) s,
    ))
    (λ u. (λ _. inr ((unsafe_iff b p f).0 u), λ _. inr (rw (t, u)))))
  where
    given-waits : Waits Answer.Given → ⊥
    given-waits (inl e) = let z : ◌≡◌ {A = ℕ} 0 1 = cc in omega arith
    given-waits (inr e) = let z : ◌≡◌ {A = ℕ} 0 1 = cc in omega arith

open_waits : (xs : List Call) (p f : ℕ) → Accepted xs (Open p f) → Waits (reply_after xs (Open p f)).answer ↔
    (ConflictingUse (worked xs) p f ⊎ EveryOrderHeld (with_given (worked xs) p f))
open_waits xs p f a = subst (λ (r : Reply). Waits r.answer ↔ (ConflictingUse (worked xs) p f ⊎ EveryOrderHeld
    (with_given (worked xs) p f))) (sym (apply-accepted (worked xs) (Open p f) (passed_of (worked xs) (Open p f) a)))
    (open_answer (worked xs) p f)

-- ── Fetches ──

-- what a fetch answers: WAIT exactly if the record is taken, GIVEN exactly if it is not
abbrev FetchAnswers : Board → ℕ → ℕ → ℕ → Answer → Type 0
FetchAnswers b p f r a = ((a ≡ Answer.Wait) ↔ RecordTaken b p f r) × ((a ≡ Answer.Given) ↔ (RecordTaken b p f r → ⊥))

fetch_answer : (b : Board) (p f r : ℕ) → FetchAnswers b p f r (fetch b p f r).answer
unfolding fetch reply
fetch_answer b p f r = by_test (taken b p f r)
    (λ t. (
      (λ _. taken_by b p f r t, λ _. rw t),
      (λ e. absurd (wait-given (rw t at e)), λ u. absurd (u (taken_by b p f r t))),
    ))
    (λ t. let free : RecordTaken b p f r → ⊥ = λ u. never (by_taken b p f r u.0 u.1 u.2 u.3) t in (
      (λ e. absurd (given-wait (rw t at e)), λ u. absurd (free u)),
      (λ _. free, λ _. rw t),
    ))
  where
    wait-given : Answer.Wait ≡ Answer.Given → ⊥
    wait-given e = let z : ◌≡◌ {A = ℕ} 0 1 = cc in omega arith

    given-wait : Answer.Given ≡ Answer.Wait → ⊥
    given-wait e = let z : ◌≡◌ {A = ℕ} 0 1 = cc in omega arith

fetch-answers : (xs : List Call) (p f r : ℕ) → Accepted xs (Fetch p f r) → FetchAnswers (worked xs) p f r (reply_after xs (Fetch p f r)).answer
fetch-answers xs p f r a = subst (λ (q : Reply). FetchAnswers (worked xs) p f r q.answer)
    (sym (apply-accepted (worked xs) (Fetch p f r) (passed_of (worked xs) (Fetch p f r) a))) (fetch_answer (worked xs) p f r)

-- ── The favoured program ──

-- The two numbers of the board give the sum.
sum_of : (xs : List Call) (p n l : ℕ) → p ≢ 0 → (worked xs).favoured ≡ p → (worked xs).initial ≡ n → (worked xs).leaves ≡ l
    → l + admitted_after xs ≡ n
sum_of xs p n l z e i j = let k = ((worked_good xs).loose.count (λ d. z (sym e ∙ d))).0 in let q =
    ap length (admitted_is (worked xs)) in omega arith

-- The leave that brings the leaves to that number less one is still to come.
coming : (xs : List Call) (p n l : ℕ) → p ≢ 0 → (worked xs).favoured ≡ p → (worked xs).initial ≡ n → (worked xs).leaves ≡ l → l + 2 ≤ n
coming xs p n l z e i j = let k = favoured_bound (worked xs) (worked_good xs) (λ d. z (sym e ∙ d)) in omega arith

-- The call that favours.
favoured_now : (xs : List Call) (c : Call) (p : ℕ) → p ≢ 0 → (worked (xs ++ (c ∷ []))).favoured ≡ p
    → Newly (step_of (reply_after xs c)) p → FavouredBy (xs ++ (c ∷ [])) p
unfolding leaves_in
favoured_now xs c p z e w = record {
  before = xs;
  call = c;
  after = [];
  split = refl;
  file = awaited (reply_after xs c).board p;
  item = (at (reply_after xs c).board p).item;
  favours = w.line-there;
  latest = λ us vs d f r k _. let j = ap length k in let i = lib.ListN.length-append us (d ∷ vs) in omega arith;
  adds_up = omega arith;
  number = number;
  count = count;
  to_come = coming (xs ++ (c ∷ [])) p _ _ z e number count;
}
  where
    count : (worked (xs ++ (c ∷ []))).leaves ≡ 0
    count = ap (λ (b : Board). b.leaves) (worked_snoc xs c) ∙ w.none_left

    number : (worked (xs ++ (c ∷ []))).initial ≡ admitted_after (xs ++ (c ∷ []))
    number = ap (λ (b : Board). b.initial) (worked_snoc xs c) ∙ w.counted
        ∙ sym (ap length (admitted_is (reply_after xs c).board)) ∙ ap (λ b. length (admitted b)) (sym (worked_snoc xs c))

-- A later call that leaves the program favoured.
favoured_still : (xs : List Call) (c : Call) (p : ℕ) → p ≢ 0 → (worked (xs ++ (c ∷ []))).favoured ≡ p
    → FavourMore (worked xs) (reply_after xs c).board (leaves_by (worked xs) c) → ((f r : ℕ) → Favours xs c p f r → ⊥)
    → FavouredBy xs p → FavouredBy (xs ++ (c ∷ [])) p
favoured_still xs c p z e m quiet r = record {
  before = r.before;
  call = r.call;
  after = r.after ++ (c ∷ []);
  split = ap (◌++ (c ∷ [])) r.split ∙ append_assoc r.before (r.call ∷ r.after) (c ∷ []);
  file = r.file;
  item = r.item;
  favours = r.favours;
  latest = λ us vs d f n k w. ⊎_elim
      (λ q. quiet f n (subst (λ l. Favours l c p f n) (sym r.split)
      (subst (λ l. Favours (r.before ++ (r.call ∷ l)) c p f n) q.0
      (subst (λ h. Favours (r.before ++ (r.call ∷ us)) h p f n) q.1 w))))
      (λ q. r.latest us q.0 d f n q.1 w)
      (snoc_split r.after us vs c d k);
  adds_up = sum_of (xs ++ (c ∷ [])) p _ _ z e number count;
  number = number;
  count = count;
  to_come = coming (xs ++ (c ∷ [])) p _ _ z e number count;
}
  where
    start : List Call
    start = r.before ++ (r.call ∷ [])

    same-one : (worked xs).favoured ≡ p
    same-one = sym (ap (λ (b : Board). b.favoured) (worked_snoc xs c) ∙ m.who) ∙ e

    fav : (worked xs).favoured ≢ 0
    fav d = z (sym same-one ∙ d)

    number : (worked (xs ++ (c ∷ []))).initial ≡ admitted_after start
    number = ap (λ (b : Board). b.initial) (worked_snoc xs c) ∙ m.number ∙ r.number

    here-now : start ++ r.after ≡ xs
    here-now = append_assoc r.before (r.call ∷ []) r.after ∙ sym r.split

    count : (worked (xs ++ (c ∷ []))).leaves ≡ leaves_in p start (r.after ++ (c ∷ []))
    count = let a = ap (λ (b : Board). b.leaves) (worked_snoc xs c) ∙ m.left fav in
        let b = leaves-same xs c ∙ ap (λ n. accepted_leave n xs c) same-one in
        let d = r.count in let g = leaves_in_snoc p start r.after c in
        let h : accepted_leave p (start ++ r.after) c ≡ accepted_leave p xs c = ap (λ l. accepted_leave p l c) here-now in omega arith

favoured_by : (xs : List Call) (p : ℕ) → p ≢ 0 → (worked xs).favoured ≡ p → FavouredBy xs p
unfolding worked worked_from
favoured_by xs = by_end (λ l. (p : ℕ) → p ≢ 0 → (worked l).favoured ≡ p → FavouredBy l p) start next xs
  where
    start : (p : ℕ) → p ≢ 0 → (worked []).favoured ≡ p → FavouredBy [] p
    start p z e = absurd (z (sym e))

    next : (l : List Call) (c : Call) → ((p : ℕ) → p ≢ 0 → (worked l).favoured ≡ p → FavouredBy l p) → (p : ℕ) → p ≢ 0
        → (worked (l ++ (c ∷ []))).favoured ≡ p → FavouredBy (l ++ (c ∷ [])) p
    next l c ih p z e =
        let now : (reply_after l c).board.favoured ≡ p = ap (λ (b : Board). b.favoured) (sym (worked_snoc l c)) ∙ e in
        ⊎_elim
        (λ w. favoured_now l c p z e (subst (Newly (step_of (reply_after l c))) (sym w.1.now ∙ now) w.1))
        (λ w. ⊎_elim (λ k. absurd (z (sym now ∙ k)))
        (λ (k : FavourMore (worked l) (reply_after l c).board (leaves_by (worked l) c)). favoured_still l c p z e k
        (λ f n m. w.1 (line_of Word.Favour p f n) m refl) (ih p z (sym k.who ∙ now))) w.0)
        (step l c).fav

-- ── The favoured program gets its file or its record ──

-- Who doesn't wait isn't favoured.
not_favoured : (xs : List Call) (p : ℕ) → p ≢ 0 → is_waiting (at (worked xs) p).standing ≡ false → (worked xs).favoured ≢ p
not_favoured xs p z w d =
    let (_, v) = (worked_good xs).loose.fav-waits (λ q. z (sym d ∙ q)) in
    never (ap (λ q. is_waiting (at (worked xs) q).standing) (sym d) ∙ v) w

gets_it : (xs es : List Call) (p f n : ℕ) → p ≢ 0 → (worked xs).favoured ≡ p → awaited (worked xs) p ≡ f → (at (worked xs) p).item ≡ n
    → (worked xs).initial ≤ (worked xs).leaves + leaves_in p xs es + 1 → GetsIt xs es p f n ⊎ CancelledIn xs es p
unfolding leaves_in
gets_it xs [] p f n z e a a' k = absurd (let b = favoured_bound (worked xs) (worked_good xs) (λ d. z (sym e ∙ d)) in omega arith)
gets_it xs (c ∷ es) p f n z e a a' k = ⊎_elim
    (λ (m : FavourMore (worked xs) (reply_after xs c).board (leaves_by (worked xs) c)).
    let s = worked_snoc xs c in
    let now : (reply_after xs c).board.favoured ≡ (worked xs).favoured = m.who in
    let same : at (reply_after xs c).board p ≡ at (worked xs) p = ap (at (reply_after xs c).board) (sym e)
    ∙ (step xs c).file_stays fav now ∙ ap (at (worked xs)) e in
    let i = ap (λ (b : Board). b.initial) s ∙ m.number in
    let l = ap (λ (b : Board). b.leaves) s ∙ m.left fav in
    let q = leaves-same xs c ∙ ap (λ n. accepted_leave n xs c) e in
    let r = gets_it (xs ++ (c ∷ [])) es p f n z (ap (λ (b : Board). b.favoured) s ∙ now ∙ e)
    (ap (λ b. awaited b p) s ∙ ap (λ (x : Program). awaited_of x.standing) same ∙ a)
    (ap (λ b. (at b p).item) s ∙ ap (λ (x : Program). x.item) same ∙ a') (omega arith) in
    ⊎_elim (λ (r : GetsIt (xs ++ (c ∷ [])) es p f n). inl (record {
      before = c ∷ r.before;
      call = r.call;
      after = r.after;
      split = ap (c ∷◌) r.split;
      that_wait = λ us vs k. through-one xs us vs r.before c p e r.that_wait k;
      no_longer = subst (λ h. (worked h).favoured ≢ p) (append_assoc xs (c ∷ []) (r.before ++ (r.call ∷ []))) r.no_longer;
      given = subst (λ h. line_of Word.Given p f n ∈ settling_lines (reply_after h r.call)) (append_assoc xs (c ∷ []) r.before) r.given;
      wait-over = subst (λ h. is_waiting (at (worked h) p).standing ≡ false) (append_assoc xs (c ∷ [])
          (r.before ++ (r.call ∷ []))) r.wait-over;
    }))
    (λ (r : CancelledIn (xs ++ (c ∷ [])) es p). inr (record {
      before = c ∷ r.before;
      after = r.after;
      split = ap (c ∷◌) r.split;
      that_wait = λ us vs k. through-one xs us vs r.before c p e r.that_wait k;
      accepted = subst (λ h. Accepted h (Cancel p)) (append_assoc xs (c ∷ []) r.before) r.accepted;
      wait-over = subst (λ h. is_waiting (at (worked h) p).standing ≡ false) (append_assoc xs (c ∷ [])
          (r.before ++ (Cancel p ∷ []))) r.wait-over;
    })) r)
    (⊎_elim (λ (m : EndedIn (worked xs) (step_of (reply_after xs c))). inl (record {
      before = [];
      call = c;
      after = es;
      split = refl;
      that_wait = λ us vs k. through-none xs us vs p e k;
      no_longer = not_favoured (xs ++ (c ∷ [])) p z (ap (λ b. is_waiting (at b p).standing) (worked_snoc xs c)
          ∙ ap is_waiting (ap (stands (reply_after xs c).board.programs) (sym e) ∙ m.runs));
      given = subst (λ h. line_of Word.Given p f n ∈ settling_lines (reply_after h c)) (sym (append-nil xs))
          (subst (λ h. h ∈ settling_lines (reply_after xs c)) (ap (λ q. waiter_line Word.Given q (at (worked xs) q)) e
          ∙ ap₂ (line_of Word.Given p) a a') m.line-there);
      wait-over = ap (λ b. is_waiting (at b p).standing) (worked_snoc xs c)
          ∙ ap is_waiting (ap (stands (reply_after xs c).board.programs) (sym e) ∙ m.runs);
    }))
    (λ (m : Withdrew (worked xs) (cancelled_by (worked xs) c) (step_of (reply_after xs c))). inr (own_cancel xs es c p z e (sym e ∙ m.own)
    (ap (λ q. is_waiting (at (reply_after xs c).board q).standing) (sym e) ∙ m.over))))
    ((step xs c).ended fav)
  where
    fav : (worked xs).favoured ≢ 0
    fav d = z (sym e ∙ d)

favoured_gets : (xs es : List Call) (c : Call) (p f r : ℕ) → Favours xs c p f r
    → leaves_in p (xs ++ (c ∷ [])) es + 1 ≡ admitted_after (xs ++ (c ∷ []))
    → GetsIt (xs ++ (c ∷ [])) es p f r ⊎ CancelledIn (xs ++ (c ∷ [])) es p
favoured_gets xs es c p f r h k = ⊎_elim
    (λ w. let n = w.1 in
    let d : line_of Word.Favour p f r ≡ waiter_line Word.Favour w.0 (at (reply_after xs c).board w.0) =
    n.no_other (line_of Word.Favour p f r) h refl in
    let dp : p ≡ w.0 = ap (λ (l : Line). l.program) d in
    let df : f ≡ awaited (reply_after xs c).board w.0 = ap (λ (l : Line). l.file) d in
    let dr : r ≡ (at (reply_after xs c).board w.0).item = ap (λ (l : Line). l.item) d in
    let s = worked_snoc xs c in
    let i = ap (λ (b : Board). b.initial) s ∙ n.counted in
    let j = ap length (admitted_is (reply_after xs c).board) in
    let q = ap (λ b. length (admitted b)) s in
    let l = ap (λ (b : Board). b.leaves) s ∙ n.none_left in
    gets_it (xs ++ (c ∷ [])) es p f r (λ o. let v = n.is.least in omega arith) (ap (λ (b : Board). b.favoured) s ∙ n.now ∙ sym dp)
    (ap (λ b. awaited b p) s ∙ ap (awaited (reply_after xs c).board) dp ∙ sym df)
    (ap (λ b. (at b p).item) s ∙ ap (λ q. (at (reply_after xs c).board q).item) dp ∙ sym dr) (omega arith))
    (λ w. absurd (w.1 (line_of Word.Favour p f r) h refl))
    (step xs c).fav

-- ══ Demand 3 ══

pub demand3 : (cs : List Call) → cs ≢ [] → Demand3 cs
demand3 cs n = record {
  answers = direct-worked cs;
  each = stands_at_lem cs;
  order = last_order cs n;
  waits = λ xs ys p f _ a. open_waits xs p f a;
  fetch_waits = λ xs ys p f r _ a. (fetch-answers xs p f r a).0;
  fetch-given = λ xs ys p f r _ a. (fetch-answers xs p f r a).1;
  favoured = λ xs ys p _ z e. favoured_by xs p z e;
  gets = λ xs ys zs c d p f r _ h _ k. favoured_gets xs (ys ++ (d ∷ [])) c p f r h k;
}
