-- Laws of the calls. Assumes nothing.
use mathlib.Core.Path.{◌≡◌, refl, sym, ap, ap₂, ◌∙◌, subst}
use mathlib.Core.Logic.{◌≢◌}
use mathlib.Core.Bool.{Bool, true, false, not, ◌&&◌}
use mathlib.Core.List.{List, [], ◌∷◌}
use mathlib.Core.Option.{none, some}
use Prim.Native.Nat.{ℕ, suc, ◌+◌, ◌-◌, ◌≤◌, ◌<◌}
use native.Mathlib.Omega.{arith}
use lib.Dec.{eqb}
use lib.ListN.{length, set, replicate, length-replicate}
use lib.Seq.{sets, sets-eq}
use borrow.Author.Tests.{eq-eqb, ne_eqb}
use Rattle.std.specs.Prelude.{Ok, Err}
use Rattle.std.specs.Result.{result_and}
use Rattle.laws.specs.Tests.{by_test, never}
use Rattle.files.specs.declared.FileSet.{FileSet}
use Rattle.files.specs.Sets.{is_file, member}
use Rattle.files.proofs.Bits.{least, most, is_number_lem}
use Rattle.rules.specs.declared.Standing.{Standing}
use Rattle.rules.specs.declared.Program.{Program}
use Rattle.rules.specs.declared.Board.{Board}
use Rattle.rules.specs.declared.Refusal.{Refusal}
use Rattle.rules.specs.declared.Answer.{Answer}
use Rattle.rules.specs.declared.Word.{Word}
use Rattle.rules.specs.declared.Line.{Line}
use Rattle.rules.specs.declared.Reply.{Reply}
use Rattle.rules.specs.declared.Verb.{Verb}
use Rattle.rules.specs.declared.Claims.{Claims}
use Rattle.rules.specs.declared.Asked.{Asked}
use Rattle.laws.specs.Lists.{found, padded, names}
use Rattle.rules.specs.declared.Mode.TheVariants.{Write, Inquiry}
use Rattle.rules.specs.Boards.{is_program, is_waiting, is_held, at, claims, has_open, set_program, set_item, set_waiting, uncount, closing, dropping}
use Rattle.rules.specs.Orders.{carried, with_given, in_use, safe, taken}
use Rattle.rules.specs.Soundness.{sound}
use Rattle.rules.specs.Settling.{Step, line, line_of, overdue, favour, settle}
use Rattle.rules.specs.Replies.{blank, refused, reply, refuse}
use Rattle.rules.specs.Checks.{Check, unless_using, refuse_if, is_record, unless_running, enter_check, open_check, close_check, leave_check, cancel_check, fetch_check, return_check}
use Rattle.rules.specs.Calls.{admit, hold, hold_for, enter, wait, wait_item, open_file, fetch, finish, done, count_leave, count_cancel, withdrawn}
use Rattle.rules.specs.Calls.{Call, call_of, call_with, checked, accepted, unless, apply}
use Rattle.theory.specs.Modes.{same_mode}
use Rattle.theory.specs.Loose.{Good}
use Rattle.theory.specs.Sound.{sound_iff, sound_good, good_sound}
use Rattle.theory.specs.Calls.{apply-accepted, apply-refused, failed_passed, open_may, fetch_may, crowd}
use Rattle.theory.specs.Worked.{accepted_answer}
use Rattle.theory.specs.Ready.{Ready, entry-room, waiting_room, close_ready, drop-ready, cancel-ready, leaves-room}
use Rattle.parts.specs.Entries.{Entries, IsEntries, no_entries, lines_in, entry_of}
use Rattle.parts.proofs.Lined.{lines-set, fresh_entries, no_lines_padded}
use Rattle.store.specs.declared.Seat.{Seat}
use Rattle.store.specs.declared.Rest.{Rest}
use Rattle.store.specs.Sets.{Sets, IsStore, open_at, claims_at, opens_at}
use Rattle.store.specs.Store.{seat_at, seat_of, with_waiting, with_favour, with_passed, board_of}
use Rattle.store.proofs.Laws.{open_is, claims-is}
use Rattle.store.proofs.Boards.{board-size, board-sets}
use Rattle.store.proofs.Changing.{seat_is, file-is, item-is}
use Rattle.search.specs.declared.Search.{Search}
use Rattle.search.specs.declared.Order.{Order}
use Rattle.search.specs.Rows.{as_order}
use Rattle.search.proofs.Laws.{drop-replicate}
use Rattle.search.proofs.Ordered.{order-none, order-found}
use Rattle.settling.specs.Writing.{Written, after}
use Rattle.apply.specs.Replies.{wrote, replied, entering, file_check, record_check, running_check, stopped_check, using_check, busy_check, entry_check, claim_check_at, returned_check, near_open, near_close, near_fetch, near_return, near_check, waiting_for, Carries}

-- ---- a call on a good board

pub good_of : (sets : Sets) (r : Rest) → sound (board_of sets r) ≡ true → Good (board_of sets r)
good_of sets r e = sound_good (board_of sets r) (board-size sets r) ((sound_iff (board_of sets r)).0 e)

module _ (b : Board) (c : Call) where
  pub apply-passed : checked b c ≡ Ok tt → accepted b c ≡ apply b c
  apply-passed e = sym (apply-accepted b c e)

  pub apply_failed : (r : Refusal) → checked b c ≡ Err r → refuse b r ≡ apply b c
  apply_failed r e = sym (apply-refused b c r e)

unless-same : (b : Board) (k : Check) (r : Reply) → refused r.answer ≡ false → refused (unless b k r).answer ≡ true → (unless b k r).board ≡ b
unfolding refuse reply
unless-same b (Ok tt) r h n = never n h
unless-same b (Err m) r h n = refl

-- a refused call leaves the board as it was
pub apply-same : (b : Board) (c : Call) → refused (apply b c).answer ≡ true → (apply b c).board ≡ b
unfolding apply
apply-same b c n = unless-same b (checked b c) (accepted b c) (accepted_answer b c) n

-- ---- the checks

-- check 8 of any call: its program
far_program : (p f : ℕ) → is_program p ≡ false → (is_program p && is_file f) ≡ false
far_program p f e = rw e

far_checked : (b : Board) (v : Verb) (p f n : ℕ) (c : Claims) → is_program p ≡ false → checked b (call_with v p f n c) ≡ Err Refusal.OutOfRange
unfolding enter_check open_check close_check leave_check cancel_check fetch_check return_check
far_checked b Verb.Enter p f n c e = rw e
far_checked b Verb.Open p f n c e = rw (far_program p f e)
far_checked b Verb.Close p f n c e = rw (far_program p f e)
far_checked b Verb.Drop p f n c e = rw (far_program p f e)
far_checked b Verb.Leave p f n c e = rw e
far_checked b Verb.Cancel p f n c e = rw e
far_checked b Verb.Fetch p f n c e = rw (far_program p f e)
far_checked b Verb.Return p f n c e = rw e

pub checked_far : (b : Board) (a : Asked) → is_program a.program ≡ false → checked b (call_of a) ≡ Err Refusal.OutOfRange
checked_far b a e = far_checked b a.verb a.program a.file a.item a.claims e

-- a check by itself, and then the next
refuse-then : (t : Bool) (r : Refusal) (next : Check) → result_and (refuse_if t r (Ok tt)) next ≡ refuse_if t r next
refuse-then true r next = refl
refuse-then false r next = refl

running-then : (s : Standing) (next : Check) → result_and (running_check s) next ≡ unless_running s next
running-then Standing.Absent next = refl
running-then Standing.Running next = refl
running-then (Standing.Waiting f) next = refl
running-then Standing.Held next = refl

and-then : (a b c : Check) → result_and (result_and a b) c ≡ result_and a (result_and b c)
and-then (Ok tt) b c = refl
and-then (Err r) b c = refl

-- 11 to 13, then 21; then the next
abbrev busy : Program → Check → Check
busy q next = unless_running q.standing (unless_using q.item next)

busy-then : (s : Seat) (next : Check) → result_and (busy_check s) next ≡ unless_running s.standing (unless_using s.item next)
busy-then s next =
    and-then (running_check s.standing) (using_check s.item) next
    ∙ running-then s.standing (result_and (using_check s.item) next)
    ∙ ap (unless_running s.standing) (refuse-then (not (eqb s.item 0)) Refusal.HasRecord next)

-- 8, of the file
file-then : (t : Bool) (f : ℕ) (next : Check) → t ≡ true → result_and (file_check f) next ≡ refuse_if (not (t && is_file f)) Refusal.OutOfRange next
file-then t f next e = rw e (refuse-then (not (is_file f)) Refusal.OutOfRange next)

-- what the sets and the seat say of the program
module _ (sets : Sets) (q : Rest) (p : ℕ) (h : 1 ≤ p) (k : p ≤ 32) (st : IsStore sets) where
  abbrev b : Board
  b = board_of sets q

  claims_are : (f : ℕ) → claims_at sets f Write p ≡ claims (at b p) f
  claims_are f = claims-is b sets (board-sets sets q st) f p Write h k

  opens_are : (f : ℕ) → opens_at sets f p ≡ has_open (at b p) f
  opens_are f = same_mode _ _ (λ m. ap (λ (x : FileSet). member x f) (open_is b sets (board-sets sets q st) p h k m))

  inquires : (f : ℕ) → member (open_at sets p Inquiry) f ≡ member (at b p).inquiring f
  inquires f = ap (λ (x : FileSet). member x f) (open_is b sets (board-sets sets q st) p h k Inquiry)

  seated : seat_at q p ≡ seat_of (at b p)
  seated = sym (seat_is sets q p h k st)

  ranged : is_program p ≡ true
  ranged = is_number_lem 32 p h k

  seat_busy : (next : Check) → result_and (busy_check (seat_at q p)) next ≡ busy (at b p) next
  seat_busy next = ap (λ (s : Seat). result_and (busy_check s) next) seated ∙ busy-then (seat_of (at b p)) next

  abbrev claim_check : ℕ → Check
  claim_check f = refuse_if (not (claims (at b p) f)) Refusal.NotClaimed (refuse_if (has_open (at b p) f) Refusal.IsOpen (Ok tt))

  claims-checked : (f : ℕ) → claim_check_at sets p f ≡ claim_check f
  claims-checked f = ap₂ (λ (c o : Bool). refuse_if (not c) Refusal.NotClaimed (refuse_if o Refusal.IsOpen (Ok tt))) (claims_are f) (opens_are f)

  opened : (f : ℕ) → near_open sets p (seat_at q p) f ≡ open_check b p f
  unfolding open_check
  opened f = ap (λ (c : Check). result_and (file_check f) (result_and (busy_check (seat_at q p)) c)) (claims-checked f)
      ∙ ap (result_and (file_check f)) (seat_busy (claim_check f))
      ∙ file-then (is_program p) f (busy (at b p) (claim_check f)) ranged

  abbrev use_check : ℕ → Check
  use_check f = refuse_if (not (has_open (at b p) f)) Refusal.NotOpen (Ok tt)

  closed : (f : ℕ) → near_close sets p (seat_at q p) f ≡ close_check b p f
  unfolding close_check
  closed f = ap (λ (o : Bool). result_and (file_check f) (result_and (busy_check (seat_at q p)) (refuse_if (not o) Refusal.NotOpen (Ok tt)))) (opens_are f)
      ∙ ap (result_and (file_check f)) (seat_busy (use_check f))
      ∙ file-then (is_program p) f (busy (at b p) (use_check f)) ranged

  abbrev inquiry_check : ℕ → Check
  inquiry_check f = refuse_if (not (member (at b p).inquiring f)) Refusal.NoRecord (Ok tt)

  fetched : (f n : ℕ) → near_fetch sets p (seat_at q p) f n ≡ fetch_check b p f n
  unfolding fetch_check
  fetched f n = ap (λ (o : Bool). result_and (file_check f) (result_and (record_check n) (result_and (busy_check (seat_at q p)) (refuse_if (not o) Refusal.NoRecord (Ok tt))))) (inquires f)
      ∙ ap (λ (c : Check). result_and (file_check f) (result_and (record_check n) c)) (seat_busy (inquiry_check f))
      ∙ ap (result_and (file_check f)) (refuse-then (not (is_record n)) Refusal.BadRecord (busy (at b p) (inquiry_check f)))
      ∙ file-then (is_program p) f (refuse_if (not (is_record n)) Refusal.BadRecord (busy (at b p) (inquiry_check f))) ranged

  entered : (c : Claims) → entry_check (at b p).standing c ≡ checked b (entering p c)
  unfolding enter_check
  entered c = rw ranged

  left : running_check (at b p).standing ≡ leave_check b p
  unfolding leave_check
  left = rw ranged

  cancelled : stopped_check (at b p).standing ≡ cancel_check b p
  unfolding cancel_check
  cancelled = rw ranged

  returned : near_return (seat_of (at b p)) ≡ return_check b p
  unfolding return_check
  returned = rw ranged (running-then (at b p).standing (returned_check (at b p).item))

  -- the checks of a call, by its sets and its seat, are those of the rules
  pub checked_near : (v : Verb) (f n : ℕ) (c : Claims) → near_check sets p (seat_at q p) v f n c ≡ checked b (call_with v p f n c)
  checked_near Verb.Enter f n c = ap (λ (s : Seat). entry_check s.standing c) seated ∙ entered c
  checked_near Verb.Open f n c = opened f
  checked_near Verb.Close f n c = closed f
  checked_near Verb.Drop f n c = opened f
  checked_near Verb.Leave f n c = ap (λ (s : Seat). running_check s.standing) seated ∙ left
  checked_near Verb.Cancel f n c = ap (λ (s : Seat). stopped_check s.standing) seated ∙ cancelled
  checked_near Verb.Fetch f n c = fetched f n
  checked_near Verb.Return f n c = ap near_return seated ∙ returned

-- what the checks of the program p say, which is the program asked for
pub checked-number : (sets : Sets) (q : Rest) (a : Asked) (p : ℕ) (s : Seat) (k : Check) → IsStore sets
    → (is_program a.program ≡ true) × (p ≡ a.program) → s ≡ seat_at q p → k ≡ near_check sets p s a.verb a.file a.item a.claims
    → result_and k (Ok p) ≡ result_and (checked (board_of sets q) (call_of a)) (Ok a.program)
checked-number sets q a p s k st n e d =
    let l : 1 ≤ p = omega (arith, least 32 a.program n.0, n.1) in
    let m : p ≤ 32 = omega (arith, most 32 a.program n.0, n.1) in
    let t = checked_near sets q p l m st a.verb a.file a.item a.claims in
    ap₂ result_and (d ∙ ap (λ (x : Seat). near_check sets p x a.verb a.file a.item a.claims) e ∙ t
    ∙ ap (λ (x : ℕ). checked (board_of sets q) (call_with a.verb x a.file a.item a.claims)) n.1) (ap Ok n.1)

-- ---- a call that its checks let pass

passed-number : (k : Check) (n p : ℕ) → Ok p ≡ result_and k (Ok n) → (k ≡ Ok tt) × (p ≡ n)
passed-number (Ok tt) n p e = (refl, cc)
passed-number (Err r) n p e = absurd (let z : ◌≡◌ {A = ℕ} 0 1 = cc in omega arith)

failed-number : (k : Check) (n : ℕ) (r : Refusal) → Err r ≡ result_and k (Ok n) → k ≡ Err r
failed-number (Ok tt) n r e = absurd (let z : ◌≡◌ {A = ℕ} 0 1 = cc in omega arith)
failed-number (Err d) n r e = cc

-- its program is in range
program-passed : (b : Board) (a : Asked) → checked b (call_of a) ≡ Ok tt → (1 ≤ a.program) × (a.program ≤ 32)
program-passed b a e =
    by_test (is_program a.program)
    (λ k. (least 32 a.program k, most 32 a.program k))
    (λ k. failed_passed Refusal.OutOfRange (sym (checked_far b a k) ∙ e))

module _ (b : Board) (a : Asked) where
  pub passes : (p : ℕ) → Ok p ≡ result_and (checked b (call_of a)) (Ok a.program)
      → ((1 ≤ p) × (p ≤ 32)) × (checked b (call_with a.verb p a.file a.item a.claims) ≡ Ok tt)
      × (accepted b (call_with a.verb p a.file a.item a.claims) ≡ apply b (call_of a))
  passes p e = let m = passed-number (checked b (call_of a)) a.program p e in
      let same : call_with a.verb p a.file a.item a.claims ≡ call_of a = ap (λ (x : ℕ). call_with a.verb x a.file a.item a.claims) m.1 in (
        subst (λ (x : ℕ). (1 ≤ x) × (x ≤ 32)) (sym m.1) (program-passed b a m.0),
        ap (checked b) same ∙ m.0,
        ap (accepted b) same ∙ apply-passed b (call_of a) m.0,
      )

  pub fails : (r : Refusal) → Err r ≡ result_and (checked b (call_of a)) (Ok a.program) → refuse b r ≡ apply b (call_of a)
  fails r e = apply_failed b (call_of a) r (failed-number (checked b (call_of a)) a.program r e)

-- and its file, if it has one, and its record
no-file : (t : Bool) (f : ℕ) → is_file f ≡ false → (t && is_file f) ≡ false
no-file true f e = e
no-file false f e = refl

file-passed : (t : Bool) (f : ℕ) (next : Check) → refuse_if (not (t && is_file f)) Refusal.OutOfRange next ≡ Ok tt → f ≤ 64
file-passed t f next e = by_test (is_file f) (most 64 f) (λ k. failed_passed Refusal.OutOfRange (rw (no-file t f k) at e))

next-passed : (t : Bool) (r : Refusal) (next : Check) → refuse_if t r next ≡ Ok tt → next ≡ Ok tt
next-passed true r next e = failed_passed r e
next-passed false r next e = e

record-passed : (n : ℕ) (next : Check) → refuse_if (not (is_record n)) Refusal.BadRecord next ≡ Ok tt → n ≤ 65535
record-passed n next e = by_test (is_record n) (most 65535 n) (λ k. failed_passed Refusal.BadRecord (rw k at e))

module _ (b : Board) (p f : ℕ) where
  pub open-fits : open_check b p f ≡ Ok tt → f ≤ 64
  unfolding open_check
  open-fits e = file-passed (is_program p) f _ e

  pub close-fits : close_check b p f ≡ Ok tt → f ≤ 64
  unfolding close_check
  close-fits e = file-passed (is_program p) f _ e

  pub fetch-fits : (n : ℕ) → fetch_check b p f n ≡ Ok tt → (f ≤ 64) × (n ≤ 65535)
  unfolding fetch_check
  fetch-fits n e = (file-passed (is_program p) f _ e, record-passed n _ (next-passed (not (is_program p && is_file f)) Refusal.OutOfRange _ e))

-- ---- replies

pub wrote-reply : (b : Board) (a : Answer) (l : Line) → replied (wrote b (l ∷ [])) a ≡ reply b a (l ∷ [])
unfolding reply
wrote-reply b a l = refl

pub wrote_none : (b : Board) (r : Refusal) → replied (wrote b []) (Answer.Refuse r) ≡ refuse b r
unfolding refuse reply
wrote_none b r = refl

-- the one that was found with f given is that of the board with f given
pub found_carries : (b c : Board) (r : Order) (n : ℕ) → r ≡ as_order (carried b) → r.kind ≡ Search.Found n → c ≡ b
    → Carries c (record { kind = Search.Found n; at = r.at })
found_carries b c r n e k d _ = ap (λ (x : Search). record { kind = x; at = r.at }) (sym k) ∙ e ∙ ap (λ (x : Board). as_order (carried x)) (sym d)

-- ---- lines in their array

pub none_entries : (e : Entries) → e ≡ no_entries → IsEntries e
none_entries e k = subst IsEntries (sym k) fresh_entries

-- the first line is written
pub wrote_first : (b : Board) (e : Entries) (x : List ℕ) (l : Line) → x ≡ entry_of l → e ≡ no_entries
    → ◌≡◌ {A = Written} (record { board = b; lines = lines_in (set e 0 x); count = 1 }) (wrote b (l ∷ []))
unfolding padded
wrote_first b e x l k z = ap (λ (y : List Line). record { board = b; lines = y; count = 1 })
    (ap (λ (y : List ℕ). lines_in (set e 0 y)) k ∙ lines-set e 0 l ∙ ap (λ (y : Entries). set (lines_in y) 0 l) z)

-- none is written
pub none-lines : (b : Board) (e : Entries) → e ≡ no_entries → ◌≡◌ {A = Written} (record { board = b; lines = lines_in e; count = 0 }) (wrote b [])
none-lines b e k = ap (λ (y : List Line). record { board = b; lines = y; count = 0 }) (ap lines_in k ∙ no_lines_padded)

-- ---- lines after a line

sets-one : (z l : Line) (ls : List Line) → suc (length ls) ≤ 32 → sets (padded z (l ∷ [])) 1 ls ≡ padded z (l ∷ ls)
unfolding padded
sets-one z l ls h =
    let e : 1 + length ls ≡ suc (length ls) = omega arith in
    let d : 31 - length ls ≡ 32 - suc (length ls) = omega arith in
    sets-eq ls (l ∷ replicate 31 z) 1 (omega (arith, h, length-replicate 31 z))
    ∙ rw (e, drop-replicate z (length ls) 31, d) refl

-- one line is written, then those of a step
pub after_one : (w : Written) (s : Step) (b : Board) (l : Line) (a : Answer) → w ≡ wrote b (l ∷ []) → suc (length s.lines) ≤ 32
    → replied (after w s) a ≡ reply s.board a (l ∷ s.lines)
unfolding reply
after_one w s b l a e h =
    let n : 1 + length s.lines ≡ suc (length s.lines) = omega arith in
    ap (λ (x : Written). replied (after x s) a) e ∙ rw (sets-one blank l s.lines h, n) refl

pub done_is : (w s : Written) (b : Board) (p f : ℕ) → w ≡ wrote b (line Word.Done p f ∷ [])
    → s ≡ after w (settle w.board) → Ready b → replied s Answer.Done ≡ done b p f
unfolding done finish
done_is w s b p f e k r =
    ap (λ (x : Written). replied x Answer.Done) (k ∙ ap (λ (x : Written). after w (settle x.board)) e)
    ∙ after_one w (settle b) b (line Word.Done p f) Answer.Done e r.room

-- HELD is written, then FAVOUR
pub held_for_is : (w s : Written) (b c : Board) (p : ℕ) (v q j : FileSet) (n : ℕ) → c ≡ hold b p v q j → w ≡ wrote c (line Word.Held p 0 ∷ [])
    → s ≡ after w (favour w.board n) → replied s Answer.Held ≡ hold_for b p v q j n
unfolding hold_for favour
held_for_is w s b c p v q j n d e k =
    ap (λ (x : Written). replied x Answer.Held) (k ∙ ap (λ (x : Written). after w (favour x.board n)) e)
    ∙ after_one w (favour c n) c (line Word.Held p 0) Answer.Held e (omega arith)
    ∙ ap (λ (x : Board). reply (favour x n).board Answer.Held (line Word.Held p 0 ∷ (favour x n).lines)) d

-- ---- what a good board has room for, from the theory

pub sound_of : (b : Board) → Good b → sound b ≡ true
sound_of b g = (sound_iff b).1 (good_sound b g)

module _ (sets : Sets) (r : Rest) where
  pub entry_free : (p : ℕ) (c : Claims) → Good (board_of sets r) → checked (board_of sets r) (entering p c) ≡ Ok tt
      → (r.entry ≡ padded 0 (names r.entry)) × (length (names r.entry) < 32)
  unfolding board_of
  entry_free p c g e = (
    g.loose.helds.form,
    entry-room (board_of sets r) (board-size sets r) (sound_of (board_of sets r) g) p c.writable c.readable c.inquirable e,
  )

  pub waiting_free : (p f : ℕ) → Good (board_of sets r) → open_check (board_of sets r) p f ≡ Ok tt
      → (r.waiting ≡ padded 0 (names r.waiting)) × (length (names r.waiting) < 32)
  unfolding board_of
  waiting_free p f g e = (g.loose.waits.form, waiting_room (board_of sets r) (board-size sets r) (sound_of (board_of sets r) g) p f e)

  pub fetching-free : (p f n : ℕ) → Good (board_of sets r) → fetch_check (board_of sets r) p f n ≡ Ok tt
      → (r.waiting ≡ padded 0 (names r.waiting)) × (length (names r.waiting) < 32)
  unfolding board_of
  fetching-free p f n g e = let m = fetch_may (board_of sets r) p f n e in
      let c = crowd (board_of sets r) p g.loose m.is (ap is_waiting m.runs) (ap is_held m.runs) in (g.loose.waits.form, omega arith)

  pub leaves-few : Good (board_of sets r) → r.leaves ≤ 32
  unfolding board_of
  leaves-few g = leaves-room (board_of sets r) (board-size sets r) (sound_of (board_of sets r) g)

pub close_settles : (b c : Board) (p f : ℕ) → c ≡ set_program b p (closing (at b p) f) → Good b → close_check b p f ≡ Ok tt → Ready c
close_settles b c p f k g e = subst Ready (sym k) (close_ready b g.loose.base.size (sound_of b g) p f e)

pub drop_settles : (b c : Board) (p f : ℕ) → c ≡ set_program b p (dropping (at b p) f) → Good b → open_check b p f ≡ Ok tt → Ready c
drop_settles b c p f k g e = subst Ready (sym k) (drop-ready b g.loose.base.size (sound_of b g) p f e)

pub cancel_settles : (b c : Board) (p : ℕ) → c ≡ withdrawn b p (at b p).standing → Good b → cancel_check b p ≡ Ok tt → Ready c
cancel_settles b c p k g e = subst Ready (sym k) (cancel-ready b g.loose.base.size (sound_of b g) p e)

-- ---- a board whose rest changes

module _ (sets : Sets) (r : Rest) (b : Board) (e : board_of sets r ≡ b) where
  -- out of the waiting line, and the count of p is 0
  pub with_cancelled : (p : ℕ) (l n : List ℕ) → l ≡ padded 0 n
      → board_of sets (with_passed (with_waiting r l) (set r.passed (p - 1) 0)) ≡ uncount (set_waiting b n) p
  unfolding board_of
  with_cancelled p l n k = ap (λ (y : List ℕ). board_of sets (with_passed (with_waiting r y) (set r.passed (p - 1) 0))) k
      ∙ ap (λ (x : Board). uncount (set_waiting x n) p) e

module _ (sets : Sets) (r : Rest) where
  pub leave-free : r.favoured ≡ 0 → board_of sets r ≡ count_leave (board_of sets r)
  unfolding board_of count_leave
  leave-free e = rw (eq-eqb r.favoured 0 e)

  pub leave-counted : r.favoured ≢ 0 → board_of sets (with_favour r r.favoured r.initial (r.leaves + 1)) ≡ count_leave (board_of sets r)
  unfolding board_of count_leave
  leave-counted e = rw (ne_eqb r.favoured 0 e)

  pub cancel-free : (p : ℕ) → r.favoured ≡ p → board_of sets (with_favour r 0 0 0) ≡ count_cancel (board_of sets r) p
  unfolding board_of count_cancel
  cancel-free p e = rw (eq-eqb r.favoured p e)

  pub cancel-other : (p : ℕ) → r.favoured ≢ p → count_leave (board_of sets r) ≡ count_cancel (board_of sets r) p
  unfolding board_of count_cancel
  cancel-other p e = rw (ne_eqb r.favoured p e)

-- ---- what a call comes to, by its tests

pub favoured_is : (sets : Sets) (r : Rest) → (board_of sets r).favoured ≡ r.favoured
unfolding board_of
favoured_is sets r = refl

module _ (b : Board) (p : ℕ) (v q j : FileSet) where
  pub enter-held : b.favoured ≢ 0 → reply (hold b p v q j) Answer.Held (line Word.Held p 0 ∷ []) ≡ enter b p v q j
  unfolding enter
  enter-held e = rw (ne_eqb b.favoured 0 e)

  pub enter_for : (w : ℕ) → b.favoured ≡ 0 → overdue b ≡ some w → hold_for b p v q j w ≡ enter b p v q j
  unfolding enter
  enter_for w e o = rw (eq-eqb b.favoured 0 e, o)

  pub enter-runs : b.favoured ≡ 0 → overdue b ≡ none → reply (admit b p v q j) Answer.Admit (line Word.Admit p 0 ∷ []) ≡ enter b p v q j
  unfolding enter
  enter-runs e o = rw (eq-eqb b.favoured 0 e, o)

-- ---- the record in use, and its file

module _ (sets : Sets) (r : Rest) (p : ℕ) (i : (1 ≤ p) × (p ≤ 32)) (st : IsStore sets) {s : Seat} (e : s ≡ seat_at r p) where
  pub seat-file : s.file ≡ (at (board_of sets r) p).file
  seat-file = ap (λ (t : Seat). t.file) e ∙ sym (file-is sets r p i.0 i.1 st)

  pub seat-item : s.item ≡ (at (board_of sets r) p).item
  seat-item = ap (λ (t : Seat). t.item) e ∙ sym (item-is sets r p i.0 i.1 st)

-- ---- fetch

module _ (b : Board) (p f r : ℕ) where
  pub fetch_waits : taken b p f r ≡ true → reply (waiting_for b p f f r) Answer.Wait (line_of Word.Wait p f r ∷ []) ≡ fetch b p f r
  unfolding fetch wait_item
  fetch_waits t = rw t

  pub fetch-gets : taken b p f r ≡ false
      → reply (set_program b p (set_item (at b p) f r)) Answer.Given (line_of Word.Given p f r ∷ []) ≡ fetch b p f r
  unfolding fetch
  fetch-gets t = rw t

-- ---- open

-- who opens a file has no record, so that it waits with none
pub open_wait : (b : Board) (p f : ℕ) → Good b → open_check b p f ≡ Ok tt → waiting_for b p f 0 0 ≡ wait b p f
unfolding wait
open_wait b p f g e = let m = open_may b p f e in
    ap₂ (waiting_for b p f) (sym ((g.counts.records.own p m.is).no_item m.no_item)) (sym m.no_item)

module _ (b : Board) (p f : ℕ) where
  pub open_waits : in_use b p f ≡ true → reply (wait b p f) Answer.Wait (line Word.Wait p f ∷ []) ≡ open_file b p f
  unfolding open_file
  open_waits u = rw u

  pub open_unsafe : in_use b p f ≡ false → safe b p f ≡ false → reply (wait b p f) Answer.Unsafe (line Word.Unsafe p f ∷ []) ≡ open_file b p f
  unfolding open_file
  open_unsafe u s = rw (u, s)

  pub open_given : in_use b p f ≡ false → safe b p f ≡ true → reply (with_given b p f) Answer.Given (line Word.Given p f ∷ []) ≡ open_file b p f
  unfolding open_file
  open_given u s = rw (u, s)

  -- no order comes back with f given
  pub not_safe : (r : Order) → r ≡ as_order (carried (with_given b p f)) → r.kind ≡ Search.Stuck → safe b p f ≡ false
  unfolding safe
  not_safe r o k = ap found (order-none (carried (with_given b p f)) r o k)

  -- an order does
  pub is-safe : (r : Order) (n : ℕ) → r ≡ as_order (carried (with_given b p f)) → r.kind ≡ Search.Found n → safe b p f ≡ true
  unfolding safe
  is-safe r n o k = order-found (carried (with_given b p f)) r n o k
