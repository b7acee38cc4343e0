-- Every list of calls from the empty board: every board is sound, and every direct call does what the rules say.
-- Assumes nothing.
use Rattle.std.specs.Prelude.{ℕ, ◌≤◌, ◌≡◌, refl, ◌≢◌, ◌⊎◌, Bool, true, false, not, ◌&&◌, List, [], ◌∷◌, ◌++◌, eqb, length, Ok, Err}
use Rattle.std.proofs.Common.{arith, sym, ◌∙◌, ap, ap₂, subst, inl, inr, eqb-true}
use Rattle.std.proofs.Math.Option.{some, get_or}
use mathlib.Core.List.Memᴰ
use Rattle.std.proofs.lemmas.Bool.{eqb-false}
use Rattle.laws.specs.Tests.{by_test, by_option, never}
use Rattle.files.specs.Sets.{is_file, member}
use Rattle.rules.specs.Modes.{touching, claims_meet}
use Rattle.rules.specs.declared.Standing.{Standing}
use Rattle.rules.specs.declared.Board.{Board}
use Rattle.rules.specs.declared.Refusal.{Refusal}
use Rattle.rules.specs.declared.Answer.{Answer}
use Rattle.rules.specs.declared.Line.{Line}
use Rattle.rules.specs.declared.Reply.{Reply}
use Rattle.laws.specs.Lists.{any, all, keep, first, padded, rising, listed, distinct, without, same, names}
use Rattle.rules.specs.Boards.{is_absent, is_waiting, is_program, empty_board, everyone, at, admitted, claims, has_open}
use Rattle.rules.specs.Orders.{held_back, carried_from, carried, with_given, in_use, safe, can_give, taken}
use Rattle.rules.specs.Soundness.{sets_sound, standing_sound, program_sound, no_conflict, line_sound, waiter_sound, none_favoured, some_favoured}
use Rattle.rules.specs.Soundness.{may_have, item_sound, uses_differ, awaited_in_use, count_sound, sound}
use Rattle.rules.specs.Replies.{refused, blank, reply, refuse, lines_of, order_of, number}
use Rattle.rules.specs.Checks.{Check, refuse_if, unless_running, unless_stopped, enter_check, open_check}
use Rattle.rules.specs.Checks.{close_check, leave_check, cancel_check, is_record, fetch_check, return_check}
use Rattle.rules.specs.Calls.{enter, open_file, done, close_file, drop_file, leave, Call, Enter, Open, Close, Drop, Leave, checked, accepted}
use Rattle.rules.specs.Calls.{hold_for, Cancel, cancel, Fetch, fetch, Return, return_item, finish, apply, direct}
use Rattle.rules.specs.Settling.{overdue}
use Rattle.rules.specs.Worked.{worked_from, worked, replies_from, direct_from}
use Rattle.laws.specs.Laws.{◌∈◌, by_mem, here, no_longer, length-rising}
use Rattle.theory.specs.Order.{IsOrder}
use Rattle.theory.specs.Programs.{Is, mem-everyone, holds, ins, ins-mem, admitted_is, first_can}
use Rattle.theory.specs.Records.{Uses, Wants, in_use_lem}
use Rattle.theory.specs.Loose.{waiting_file, Good}
use Rattle.theory.specs.Calls.{take_padded, by_check, apply-accepted, apply-refused, apply_stepped}
use Rattle.theory.specs.Carried.{holds_on, CompletionOrder, carried-sound, carried_complete}
use Rattle.theory.specs.Sound.{sound_iff, good_sound, sound_good}

-- ── The empty board is sound, and every call keeps a board sound ──

empty_sound : sound empty_board ≡ true
unfolding any all keep first padded rising listed distinct without same names
    everyone admitted touching
    held_back carried_from carried with_given in_use safe can_give
    sets_sound standing_sound may_have item_sound program_sound no_conflict line_sound waiter_sound uses_differ awaited_in_use none_favoured some_favoured
    count_sound sound
empty_sound = refl

pub empty_good : Good empty_board
empty_good = sound_good empty_board refl ((sound_iff empty_board).0 empty_sound)

pub worked_from_good : (b : Board) (cs : List Call) → Good b → Good (worked_from b cs)
unfolding worked_from
worked_from_good b [] g = g
worked_from_good b (c ∷ cs) g = worked_from_good (apply b c).board cs (apply_stepped b c g).good

pub worked_good : (cs : List Call) → Good (worked cs)
unfolding worked
worked_good cs = worked_from_good empty_board cs empty_good

-- Every worked board is sound.
pub worked-sound : (cs : List Call) → sound (worked cs) ≡ true
worked-sound cs = (sound_iff (worked cs)).1 (good_sound (worked cs) (worked_good cs))

pub worked_from-append : (b : Board) (xs ys : List Call) → worked_from b (xs ++ ys) ≡ worked_from (worked_from b xs) ys
unfolding worked_from
worked_from-append b [] ys = refl
worked_from-append b (x ∷ xs) ys = worked_from-append (apply b x).board xs ys

-- One more call.
pub worked_snoc : (xs : List Call) (c : Call) → worked (xs ++ (c ∷ [])) ≡ (apply (worked xs) c).board
unfolding worked worked_from
worked_snoc xs c = worked_from-append empty_board xs (c ∷ [])

-- ── A direct call does what the rules say ──

-- On a sound board check 1 does not apply.
pub direct_is_apply : (b : Board) (c : Call) → sound b ≡ true → direct b c ≡ apply b c
unfolding direct
direct_is_apply b c s = rw s

direct_from_is : (b : Board) (cs : List Call) → Good b → direct_from b cs ≡ replies_from b cs
unfolding direct_from replies_from
direct_from_is b [] g = refl
direct_from_is b (c ∷ cs) g =
    let e = direct_is_apply b c ((sound_iff b).1 (good_sound b g)) in
    ap₂ ◌∷◌ e (ap (λ (r : Reply). direct_from r.board cs) e ∙ direct_from_is (apply b c).board cs (apply_stepped b c g).good)

pub direct-worked : (cs : List Call) → direct_from empty_board cs ≡ replies_from empty_board cs
direct-worked cs = direct_from_is empty_board cs empty_good

replies_from-append : (b : Board) (xs ys : List Call) → replies_from b (xs ++ ys) ≡ replies_from b xs ++ replies_from (worked_from b xs) ys
unfolding replies_from worked_from
replies_from-append b [] ys = refl
replies_from-append b (x ∷ xs) ys = ap (apply b x ∷◌) (replies_from-append (apply b x).board xs ys)

-- The replies before a call, its own, and those after it.
pub replies_split : (xs ys : List Call) (c : Call) → replies_from empty_board (xs ++ (c ∷ ys)) ≡ replies_from empty_board xs ++
    (apply (worked xs) c ∷ replies_from (apply (worked xs) c).board ys)
unfolding worked replies_from
replies_split xs ys c = replies_from-append empty_board xs (c ∷ ys)

-- ── Refusals ──

-- A call that isn't refused has passed its checks.
pub passed_of : (b : Board) (c : Call) → refused (apply b c).answer ≡ false → checked b c ≡ Ok tt
unfolding refuse reply
passed_of b c e = by_check (checked b c) (λ u. u)
    (λ r u. never {t = true} refl (sym (ap (λ (q : Reply). refused q.answer) (apply-refused b c r u)) ∙ e))

-- Whatever a call is refused for by its own checks, it is one of the refusals 8 to 16 and 18 to 21.
if_number : (t : Bool) (r : Refusal) (k : Check) → 8 ≤ number r → ((q : Refusal) → k ≡ Err q → 8 ≤ number q)
    → (q : Refusal) → refuse_if t r k ≡ Err q → 8 ≤ number q
if_number true r k n f q e = subst (λ z. 8 ≤ number z) (let d : r ≡ q = cc in d) n
if_number false r k n f q e = f q e

running_number : (s : Standing) (k : Check) → ((q : Refusal) → k ≡ Err q → 8 ≤ number q) → (q : Refusal)
    → unless_running s k ≡ Err q → 8 ≤ number q
running_number Standing.Absent k f q e = subst (λ z. 8 ≤ number z) (let d : Refusal.IsAbsent ≡ q = cc in d) (omega arith)
running_number Standing.Held k f q e = subst (λ z. 8 ≤ number z) (let d : Refusal.IsHeld ≡ q = cc in d) (omega arith)
running_number (Standing.Waiting g) k f q e = subst (λ z. 8 ≤ number z) (let d : Refusal.IsWaiting ≡ q = cc in d) (omega arith)
running_number Standing.Running k f q e = f q e

stopped-number : (s : Standing) (k : Check) → ((q : Refusal) → k ≡ Err q → 8 ≤ number q) → (q : Refusal)
    → unless_stopped s k ≡ Err q → 8 ≤ number q
stopped-number Standing.Absent k f q e = subst (λ z. 8 ≤ number z) (let d : Refusal.IsAbsent ≡ q = cc in d) (omega arith)
stopped-number Standing.Held k f q e = f q e
stopped-number (Standing.Waiting g) k f q e = f q e
stopped-number Standing.Running k f q e = subst (λ z. 8 ≤ number z) (let d : Refusal.IsRunning ≡ q = cc in d) (omega arith)

passed-number : (q : Refusal) → Ok (tt {0}) ≡ Err q → 8 ≤ number q
passed-number q e = absurd (let z : ◌≡◌ {A = ℕ} 0 1 = cc in omega arith)

open_number : (b : Board) (p f : ℕ) (q : Refusal) → open_check b p f ≡ Err q → 8 ≤ number q
unfolding open_check
open_number b p f =
    if_number (not (is_program p && is_file f)) Refusal.OutOfRange _ (omega arith)
    (running_number (at b p).standing _
    (if_number (not (eqb (at b p).item 0)) Refusal.HasRecord _ (omega arith)
    (if_number (not (claims (at b p) f)) Refusal.NotClaimed _ (omega arith)
    (if_number (has_open (at b p) f) Refusal.IsOpen (Ok tt) (omega arith) passed-number))))

pub checked-number : (b : Board) (c : Call) (q : Refusal) → checked b c ≡ Err q → 8 ≤ number q
unfolding enter_check close_check leave_check cancel_check fetch_check return_check
checked-number b (Enter p v r j) =
    if_number (not (is_program p)) Refusal.OutOfRange _ (omega arith)
    (if_number (not (is_absent (at b p).standing)) Refusal.NotAbsent _ (omega arith)
    (if_number (claims_meet v r j) Refusal.ClaimsMeet (Ok tt) (omega arith) passed-number))
checked-number b (Open p f) = open_number b p f
checked-number b (Close p f) =
    if_number (not (is_program p && is_file f)) Refusal.OutOfRange _ (omega arith)
    (running_number (at b p).standing _
    (if_number (not (eqb (at b p).item 0)) Refusal.HasRecord _ (omega arith)
    (if_number (not (has_open (at b p) f)) Refusal.NotOpen (Ok tt) (omega arith) passed-number)))
checked-number b (Drop p f) = open_number b p f
checked-number b (Leave p) =
    if_number (not (is_program p)) Refusal.OutOfRange _ (omega arith)
    (running_number (at b p).standing (Ok tt) passed-number)
checked-number b (Cancel p) =
    if_number (not (is_program p)) Refusal.OutOfRange _ (omega arith)
    (stopped-number (at b p).standing (Ok tt) passed-number)
checked-number b (Fetch p f r) =
    if_number (not (is_program p && is_file f)) Refusal.OutOfRange _ (omega arith)
    (if_number (not (is_record r)) Refusal.BadRecord _ (omega arith)
    (running_number (at b p).standing _
    (if_number (not (eqb (at b p).item 0)) Refusal.HasRecord _ (omega arith)
    (if_number (not (member (at b p).inquiring f)) Refusal.NoRecord (Ok tt) (omega arith) passed-number))))
checked-number b (Return p) =
    if_number (not (is_program p)) Refusal.OutOfRange _ (omega arith)
    (running_number (at b p).standing _
    (if_number (eqb (at b p).item 0) Refusal.NoRecord (Ok tt) (omega arith) passed-number))

-- What an accepted call answers is no refusal.
pub accepted_answer : (b : Board) (c : Call) → refused (accepted b c).answer ≡ false
unfolding enter hold_for open_file close_file drop_file leave cancel done finish fetch return_item reply
accepted_answer b (Enter p v q j) = by_test (eqb b.favoured 0) (λ t. by_option (overdue b) (λ u. rw (t, u)) (λ w u. rw (t, u))) (λ t. rw t)
accepted_answer b (Open p f) = by_test (in_use b p f) (λ t. rw t) (λ t. by_test (safe b p f) (λ u. rw (t, u)) (λ u. rw (t, u)))
accepted_answer b (Close p f) = refl
accepted_answer b (Drop p f) = refl
accepted_answer b (Leave p) = refl
accepted_answer b (Cancel p) = refl
accepted_answer b (Fetch p f r) = by_test (taken b p f r) (λ t. rw t) (λ t. rw t)
accepted_answer b (Return p) = refl

-- Applied by the rules, a call is refused with 8 to 16 or 18 to 21 only.
pub apply-number : (b : Board) (c : Call) (q : Refusal) → (apply b c).answer ≡ Answer.Refuse q → 8 ≤ number q
unfolding refuse reply
apply-number b c q e = by_check (checked b c)
    (λ u. never {t = true} refl (sym (ap refused e) ∙ ap (λ (r : Reply). refused r.answer) (apply-accepted b c u) ∙ accepted_answer b c))
    (λ r u. let d : Answer.Refuse r ≡ Answer.Refuse q = ap (λ (z : Reply). z.answer) (sym (apply-refused b c r u))
    ∙ e in subst (λ z. 8 ≤ number z) (let k : r ≡ q = cc in k) (checked-number b c r u))

replies_number : (b : Board) (cs : List Call) (r : Reply) (q : Refusal) → r ∈ replies_from b cs → r.answer ≡ Answer.Refuse q → 8 ≤ number q
unfolding replies_from
replies_number b [] r q m e = absurd (Memᴰ.not-nil m)
replies_number b (c ∷ cs) r q m e = by_mem m (λ d. apply-number b c q (ap (λ (z : Reply). z.answer) (sym d) ∙ e))
    (λ k. replies_number (apply b c).board cs r q k e)

-- "1 never after calls from the empty board."
pub never_not_sound : (cs : List Call) (r : Reply) → r ∈ direct_from empty_board cs → r.answer ≢ Answer.Refuse Refusal.NotSound
never_not_sound cs r m e = let k = replies_number empty_board cs r Refusal.NotSound
    (subst (λ l. r ∈ l) (direct-worked cs) m) e in omega arith

-- ── Every reply carries the order of its board, its lines in 32 places and its order in 32 places ──

pub record IsReply (r : Reply) : Type 0 where
  pub its_lines : List Line
  pub is : r ≡ reply r.board r.answer its_lines

made : (b : Board) (a : Answer) (ls : List Line) → IsReply (reply b a ls)
unfolding reply
made b a ls = record { its_lines = ls; is = refl }

accepted-reply : (b : Board) (c : Call) → IsReply (accepted b c)
unfolding enter hold_for open_file close_file drop_file leave cancel done finish fetch return_item
accepted-reply b (Enter p v q j) = by_test (eqb b.favoured 0) (λ t. by_option (overdue b) (λ u. rw (t, u) (made _ _ _))
    (λ w u. rw (t, u) (made _ _ _))) (λ t. rw t (made _ _ _))
accepted-reply b (Open p f) = by_test (in_use b p f) (λ t. rw t (made _ _ _)) (λ t. by_test (safe b p f)
    (λ u. rw (t, u) (made _ _ _)) (λ u. rw (t, u) (made _ _ _)))
accepted-reply b (Close p f) = made _ _ _
accepted-reply b (Drop p f) = made _ _ _
accepted-reply b (Leave p) = made _ _ _
accepted-reply b (Cancel p) = made _ _ _
accepted-reply b (Fetch p f r) = by_test (taken b p f r) (λ t. rw t (made _ _ _)) (λ t. rw t (made _ _ _))
accepted-reply b (Return p) = made _ _ _

pub apply-reply : (b : Board) (c : Call) → IsReply (apply b c)
unfolding refuse
apply-reply b c = by_check (checked b c) (λ e. subst IsReply (sym (apply-accepted b c e)) (accepted-reply b c))
    (λ r e. subst IsReply (sym (apply-refused b c r e)) (made b (Answer.Refuse r) []))

pub reply-order : (b : Board) (a : Answer) (ls : List Line) → order_of (reply b a ls) ≡ get_or (carried b) []
unfolding reply
reply-order b a ls = take_padded 0 (get_or (carried b) [])

-- "Every answer carries the order of the board after the call, a refusal that of the unchanged board".
pub order-carried : (b : Board) (c : Call) → order_of (apply b c) ≡ get_or (carried (apply b c).board) []
order-carried b c =
    let k = apply-reply b c in
    ap order_of k.is ∙ reply-order (apply b c).board (apply b c).answer k.its_lines

-- The carried order of a sound board is a completion order.
pub carried-order : (b : Board) → Good b → (o : List ℕ) × (carried b ≡ some o) × CompletionOrder b o
carried-order b g = let (o, e) = carried_complete b g.loose.base.order.0
    (subst (λ l. IsOrder (holds_on b) l g.loose.base.order.0) (sym (admitted_is b)) g.loose.base.order.1) in
    (o, e, carried-sound b o e)

-- The order of every reply is a completion order of its board.
pub order_of_reply : (b : Board) (c : Call) → Good b → CompletionOrder (apply b c).board (order_of (apply b c))
order_of_reply b c g =
    let r = apply b c in
    let (o, e, i) = carried-order r.board (apply_stepped b c g).good in
    subst (IsOrder (holds_on r.board) (admitted r.board)) (sym (order-carried b c ∙ ap (λ z. get_or z []) e)) i

-- At most 32 lines follow a call, and at most 32 programs are in its order.
pub record Fits (r : Reply) : Type 0 where
  pub lines_fit : r.count ≤ 32
  pub order-fits : r.placed ≤ 32

reply_count : (b : Board) (a : Answer) (ls : List Line) → (reply b a ls).count ≡ length (lines_of (reply b a ls))
unfolding reply
reply_count b a ls = ap length (sym (take_padded blank ls))

reply-placed : (b : Board) (a : Answer) (ls : List Line) → (reply b a ls).placed ≡ length (order_of (reply b a ls))
unfolding reply
reply-placed b a ls = ap length (sym (take_padded 0 (get_or (carried b) [])))

pub apply_fits : (b : Board) (c : Call) → Good b → Fits (apply b c)
unfolding everyone
apply_fits b c g =
    let r = apply b c in
    let k = apply-reply b c in
    let m = (apply_stepped b c g).many in
    let n = ap (λ (q : Reply). q.count) k.is ∙ reply_count r.board r.answer k.its_lines
    ∙ ap (λ q. length (lines_of q)) (sym k.is) in
    let p = ap (λ (q : Reply). q.placed) k.is ∙ reply-placed r.board r.answer k.its_lines
    ∙ ap (λ q. length (order_of q)) (sym k.is) in
    let o = order_of_reply b c g in
    let l = no_longer (order_of r) everyone o.once
    (λ a i. mem-everyone a (ins-mem r.board.programs a (subst (λ z. a ∈ z) (admitted_is r.board) (o.only a i))).0) in
    let z = length-rising 32 1 in
    record { lines_fit = omega arith; order-fits = omega arith }

-- ── The favoured program ──

-- p awaits a record whose user is running.
pub record AwaitsInUse (b : Board) (p : ℕ) : Type 0 where
  pub file : ℕ
  pub item : ℕ
  pub user : ℕ
  pub is : Is user
  pub wanted : Wants (at b p) file item
  pub used : Uses (at b user) file item

-- The first of an order is not waiting, or it awaits a record whose user is running.
pub first_runs : (b : Board) (p : ℕ) (o : List ℕ) → Good b → IsOrder (holds_on b) (admitted b) (p ∷ o)
    → (is_waiting (at b p).standing ≡ false) ⊎ AwaitsInUse b p
first_runs b p o g r = by_test (is_waiting (at b p).standing) (λ t. let (f, e) = waiting_file (at b p).standing t in
    by_test (eqb (at b p).item 0)
    (λ z. let d = eqb-true (at b p).item 0 z in
    never (first_can b.programs p f o g.loose.base i r' (g.loose.asked p i f (e, d)).claimed) (g.stuck p i f (e, d)))
    (λ z. let w : Wants (at b p) (at b p).file (at b p).item = (t, eqb-false (at b p).item 0 z, refl, refl) in
    let (j, c, u) = in_use_lem b.programs p (at b p).file (at b p).item g.counts.records i w in
    inr (record { file = (at b p).file; item = (at b p).item; user = j; is = c; wanted = w; used = u }))) inl
  where
    r' : IsOrder (holds b.programs) (ins b.programs) (p ∷ o)
    r' = subst (λ l. IsOrder (holds_on b) l (p ∷ o)) (admitted_is b) r

    i : Is p
    i = (ins-mem b.programs p (r'.only p here)).0
