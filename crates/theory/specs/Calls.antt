-- One call keeps a board sound, and what its lines say.
-- Assumes nothing.
use Rattle.std.specs.Prelude.{ℕ, suc, ◌≤◌, ◌+◌, ◌-◌, ◌≡◌, refl, ◌≢◌, ◌⊎◌, Bool, true, false, not, cond, ◌&&◌, List, [], ◌∷◌, ◌++◌, eqb, leb, length, Ok, Err}
use Rattle.std.specs.Prelude.{take, drop, replicate}
use Rattle.std.proofs.Common.{arith, sym, ◌∙◌, ap, ap₂, subst, inl, inr, ⊎_elim, length-append, eqb-true, eq-eqb, ne_eqb, leb-true}
use Rattle.std.proofs.Math.Option.{none, some}
use mathlib.Core.List.Memᴰ
use Rattle.std.proofs.lemmas.Bool.{eqb-false}
use Rattle.laws.specs.Tests.{by_test, by_option, never, and_left, and_right, and_both, no_true, not_true, true_not, not_of}
use Rattle.files.proofs.Laws.{member_file}
use Rattle.files.specs.declared.FileSet.{FileSet}
use Rattle.files.specs.Sets.{is_file, member}
use Rattle.rules.specs.declared.Standing.{Standing}
use Rattle.rules.specs.declared.Program.{Program}
use Rattle.rules.specs.declared.Board.{Board}
use Rattle.rules.specs.declared.Refusal.{Refusal}
use Rattle.rules.specs.declared.Answer.{Answer}
use Rattle.rules.specs.declared.Word.{Word}
use Rattle.rules.specs.declared.Line.{Line}
use Rattle.rules.specs.declared.Reply.{Reply}
use Rattle.laws.specs.Lists.{without, names, padded}
use Rattle.rules.specs.Modes.{claim_of, claims_meet}
use Rattle.rules.specs.Boards.{no_program, is_absent, is_held, is_waiting, is_admitted, is_program, awaited_of, everyone, at, awaited, claims}
use Rattle.rules.specs.Boards.{has_open, opening, uses, set_item}
use Rattle.rules.specs.Boards.{passed_by, set_program, set_waiting, set_favour, set_standing, uncount, tally, closing, dropping}
use Rattle.rules.specs.Orders.{with_given, in_use, safe, can_give, taken}
use Rattle.rules.specs.Settling.{line, line_of, hand_on, Step, and_then, favour, overdue, settle}
use Rattle.rules.specs.Replies.{blank, lines_of, is_admit, admits, reply, refuse}
use Rattle.rules.specs.Checks.{Check, refuse_if, unless_running, unless_using, unless_stopped, enter_check, open_check, close_check, leave_check}
use Rattle.rules.specs.Checks.{cancel_check}
use Rattle.rules.specs.Checks.{is_record, fetch_check, return_check}
use Rattle.rules.specs.Calls.{newcomer, admit, hold, hold_for}
use Rattle.rules.specs.Calls.{enter, wait, open_file, done, close_file, drop_file, count_leave, leave, Call, Enter, Open, Close, Drop}
use Rattle.rules.specs.Calls.{wait_as, wait_item, fetch, finish, return_item, Fetch, Return}
use Rattle.rules.specs.Calls.{Leave, Cancel, count_cancel, withdrawn, cancel, checked, accepted, unless, apply}
use Rattle.laws.specs.Laws.{◌∈◌, Pairs, NoRepeat, by_mem, here, first_some, Pairs-append, no_longer, length-rising, length_without}
use Rattle.laws.specs.Laws.{any_some, some-any}
use Rattle.theory.specs.Modes.{by_mode_lem}
use Rattle.theory.specs.Programs.{Is, is_of, of_is, mem-everyone, Progs, Sized, prog, put, put_same, put_other, put_case, give, can}
use Rattle.theory.specs.Programs.{can_give_is, everyone_is, SameSets, standing_same, item_same, same_then, same_turn, within_same, own_same}
use Rattle.theory.specs.Programs.{opening_standing, opening_item, is_in, ins, mem-ins, ins_once, ins-same, ins_out, ins-give}
use Rattle.theory.specs.Records.{Uses, uses-of, of-uses, ItemOwn, none_item, out_item, Records, records-quiet, records_release}
use Rattle.theory.specs.Records.{records-fetched, records-waited}
use Rattle.theory.specs.Loose.{stands, waits_in, held_at, absent_is, held_is, waiting_file, Asked, LooseIn, Loose, Stuck, Free}
use Rattle.theory.specs.Loose.{count_in, Counted, Counts, Good, test_put, test_other, test_same}
use Rattle.theory.specs.Loose.{loose_close, loose_drop, loose_leave, loose_withdraw, loose_unhold, loose_open, stuck_open, loose_wait}
use Rattle.theory.specs.Loose.{Awaits, Asks, same_file, waiting_in, loose_shrink, stuck-same, loose_enter}
use Rattle.theory.specs.Loose.{stuck-enter, loose_hold, stuck-hold}
use Rattle.theory.specs.Counts.{counted_keep, uncount-other, counted_stop, tallied_waits, counted_tally, length_in_lem}
use Rattle.theory.specs.Settling.{Favour, NoFavour, Newly, newly_more, quiet_more, Chosen, chosen_some, Ended, Settled}
use Rattle.theory.specs.Settling.{waiter_line, settle_settled, hand_settled}

-- ── The lines of a reply ──

take_front : {A : Type 0} (l m : List A) → take (length l) (l ++ m) ≡ l
take_front [] m = refl
take_front (x ∷ l) m = ap (x ∷◌) (take_front l m)

pub take_padded : {A : Type 0} (z : A) (l : List A) → take (length l) (padded z l) ≡ l
unfolding padded
take_padded z l = take_front l (replicate (32 - length l) z)

-- The board after the call, and the lines.
abbrev pub step_of : Reply → Step
step_of r = record { board = r.board; lines = lines_of r }

pub reply-step : (b : Board) (a : Answer) (ls : List Line) → step_of (reply b a ls) ≡ record { board = b; lines = ls }
unfolding reply
reply-step b a ls = ap {B = Step} (λ k. record { board = b; lines = k }) (take_padded blank ls)

-- ── What a call brings about ──

-- The favoured program and its number are those of b, and k more leaves are counted.
pub record FavourMore (b c : Board) (k : ℕ) : Type 0 where
  pub who : c.favoured ≡ b.favoured
  pub number : c.initial ≡ b.initial
  pub left : b.favoured ≢ 0 → c.leaves ≡ k + b.leaves

-- The favoured program was given its file or its record by a line after the first, and runs.
pub record EndedIn (b : Board) (s : Step) : Type 0 where
  pub line-there : waiter_line Word.Given b.favoured (at b b.favoured) ∈ drop 1 s.lines
  pub runs : stands s.board.programs b.favoured ≡ Standing.Running

-- The favoured program was cancelled, and no longer waits.
pub record Withdrew (b : Board) (x : ℕ) (s : Step) : Type 0 where
  pub own : b.favoured ≡ x
  pub over : waits_in s.board.programs b.favoured ≡ false

-- What a call makes of b, if it counts k leaves, takes o admitted programs away and cancels program x (0 for none).
pub record Stepped (b : Board) (k o x : ℕ) (s : Step) : Type 0 where
  pub good : Good s.board
  pub many : length s.lines ≤ 32
  pub fav : ((p : ℕ) × Newly s p) ⊎ (((s.board.favoured ≡ 0) ⊎ FavourMore b s.board k) × NoFavour s.lines)
  pub ended : b.favoured ≢ 0 → FavourMore b s.board k ⊎ (EndedIn b s ⊎ Withdrew b x s)
  pub file_stays : b.favoured ≢ 0 → s.board.favoured ≡ b.favoured → at s.board b.favoured ≡ at b b.favoured
  -- the count of who waits now goes up by the ADMIT lines
  pub count : (y : ℕ) → Is y → waits_in s.board.programs y ≡ true
      → count_in s.board.passed y ≡ count_in b.passed y + admits s.lines
  -- the number admitted goes up by the ADMIT lines, and down by o
  pub sum : o + length (ins s.board.programs) ≡ length (ins b.programs) + admits s.lines

-- ── Calls without settling ──

-- One line that is no FAVOUR, and the favouring as before.
plain : (b c : Board) (ls : List Line) → Good c → length ls ≤ 32 → NoFavour ls → c.favoured ≡ b.favoured
    → c.initial ≡ b.initial → c.leaves ≡ b.leaves
    → (b.favoured ≢ 0 → at c b.favoured ≡ at b b.favoured)
    → ((i : ℕ) → Is i → waits_in c.programs i ≡ true → count_in c.passed i ≡ count_in b.passed i + admits ls)
    → length (ins c.programs) ≡ length (ins b.programs) + admits ls → Stepped b 0 0 0 (record { board = c; lines = ls })
plain b c ls g m n x y z a t u = record {
  good = g;
  many = m;
  fav = inr (inr f, n);
  ended = λ _. inl f;
  file_stays = λ d _. a d;
  count = t;
  sum = omega (arith, u);
}
  where
    f : FavourMore b c 0
    f = record { who = x; number = y; left = λ _. omega arith }

-- ── Checks ──

pub failed_passed : {C : Type 0} (r : Refusal) → Err r ≡ Ok (tt {0}) → C
failed_passed r e = absurd (let z : ◌≡◌ {A = ℕ} 0 1 = cc in omega arith)

pub by_check : {C : Type 0} (k : Check) → (k ≡ Ok tt → C) → ((r : Refusal) → k ≡ Err r → C) → C
by_check (Ok tt) f g = f refl
by_check (Err r) f g = g r refl

if_passed : (t : Bool) (r : Refusal) (k : Check) → refuse_if t r k ≡ Ok tt → (t ≡ false) × (k ≡ Ok tt)
if_passed true r k e = failed_passed r e
if_passed false r k e = (refl, e)

running_passed : (s : Standing) (k : Check) → unless_running s k ≡ Ok tt → (s ≡ Standing.Running) × (k ≡ Ok tt)
running_passed Standing.Absent k e = failed_passed Refusal.IsAbsent e
running_passed Standing.Held k e = failed_passed Refusal.IsHeld e
running_passed (Standing.Waiting f) k e = failed_passed Refusal.IsWaiting e
running_passed Standing.Running k e = (refl, e)

-- What the checks of each call leave.
pub record EnterMay (b : Board) (p : ℕ) (v q j : FileSet) : Type 0 where
  pub is : Is p
  pub absent : stands b.programs p ≡ Standing.Absent
  pub claims-apart : claims_meet v q j ≡ false

pub record OpenMay (b : Board) (p f : ℕ) : Type 0 where
  pub is : Is p
  pub runs : stands b.programs p ≡ Standing.Running
  pub no_item : (prog b.programs p).item ≡ 0
  pub asked : Asked (prog b.programs p) f

pub record RunsMay (b : Board) (p : ℕ) : Type 0 where
  pub is : Is p
  pub runs : stands b.programs p ≡ Standing.Running

pub enter_may : (b : Board) (p : ℕ) (v q j : FileSet) → enter_check b p v q j ≡ Ok tt → EnterMay b p v q j
unfolding enter_check
enter_may b p v q j e =
    let (a, e₁) = if_passed (not (is_program p)) Refusal.OutOfRange _ e in
    let (s, e₂) = if_passed (not (is_absent (at b p).standing)) Refusal.NotAbsent _ e₁ in
    let (m, _) = if_passed (claims_meet v q j) Refusal.ClaimsMeet (Ok tt) e₂ in
    record {
      is = is_of p (not_of (is_program p) a);
      absent = absent_is (at b p).standing
          (not_of (is_absent (at b p).standing) s);
      claims-apart = m;
    }

-- A file that is claimed is a file.
pub claims_file : (x : Program) (f : ℕ) → claims x f ≡ true → is_file f ≡ true
claims_file x f e = by_mode_lem (λ m. member (claim_of m x) f) e (λ m. member_file (claim_of m x) f)

pub open_may : (b : Board) (p f : ℕ) → open_check b p f ≡ Ok tt → OpenMay b p f
unfolding open_check
open_may b p f e =
    let (a, e₁) = if_passed (not (is_program p && is_file f)) Refusal.OutOfRange _ e in
    let (s, e₂) = running_passed (at b p).standing _ e₁ in
    let (z, e₂₂) = if_passed (not (eqb (at b p).item 0)) Refusal.HasRecord _ e₂ in
    let (c, e₃) = if_passed (not (claims (at b p) f)) Refusal.NotClaimed _ e₂₂ in
    let (o, _) = if_passed (has_open (at b p) f) Refusal.IsOpen (Ok tt) e₃ in
    record {
      is = is_of p (and_left (is_program p) (is_file f) (not_of (is_program p && is_file f) a));
      runs = s;
      no_item = eqb-true (at b p).item 0 (not_of (eqb (at b p).item 0) z);
      asked = record {
        claimed = not_of (claims (at b p) f) c;
        shut = o;
      };
    }

-- And the other way round: what may be opened passes the checks.
if_not : (t : Bool) (r : Refusal) (k : Check) → t ≡ false → refuse_if t r k ≡ k
if_not t r k e = rw e

if_so : (t : Bool) (r : Refusal) (k : Check) → t ≡ true → refuse_if (not t) r k ≡ k
if_so t r k e = rw e

if_runs : (s : Standing) (k : Check) → s ≡ Standing.Running → unless_running s k ≡ k
if_runs s k e = ap (λ t. unless_running t k) e

if_no_item : (r : ℕ) (k : Check) → r ≡ 0 → unless_using r k ≡ k
if_no_item r k e = if_so (eqb r 0) Refusal.HasRecord k (eq-eqb r 0 e)

pub may_open : (b : Board) (p f : ℕ) → OpenMay b p f → open_check b p f ≡ Ok tt
unfolding open_check
may_open b p f m =
    let x = at b p in
    let c = m.asked.claimed in
    if_so (is_program p && is_file f) Refusal.OutOfRange _ (and_both (is_program p) (is_file f) (of_is p m.is) (claims_file x f c))
    ∙ if_runs x.standing _ m.runs
    ∙ if_no_item x.item _ m.no_item
    ∙ if_so (claims x f) Refusal.NotClaimed _ c
    ∙ if_not (has_open x f) Refusal.IsOpen (Ok tt) m.asked.shut

-- A running program without a record.
pub record CloseMay (b : Board) (p : ℕ) : Type 0 where
  pub is : Is p
  pub runs : stands b.programs p ≡ Standing.Running
  pub no_item : (prog b.programs p).item ≡ 0

pub close_may : (b : Board) (p f : ℕ) → close_check b p f ≡ Ok tt → CloseMay b p
unfolding close_check
close_may b p f e =
    let (a, e₁) = if_passed (not (is_program p && is_file f)) Refusal.OutOfRange _ e in
    let (s, e₂) = running_passed (at b p).standing _ e₁ in
    let (z, _) = if_passed (not (eqb (at b p).item 0)) Refusal.HasRecord _ e₂ in
    record {
      is = is_of p (and_left (is_program p) (is_file f) (not_of (is_program p && is_file f) a));
      runs = s;
      no_item = eqb-true (at b p).item 0 (not_of (eqb (at b p).item 0) z);
    }

pub record FetchMay (b : Board) (p f r : ℕ) : Type 0 where
  pub is : Is p
  pub runs : stands b.programs p ≡ Standing.Running
  pub no_item : (prog b.programs p).item ≡ 0
  pub some_record : r ≢ 0
  pub open_so : member (prog b.programs p).inquiring f ≡ true

pub fetch_may : (b : Board) (p f r : ℕ) → fetch_check b p f r ≡ Ok tt → FetchMay b p f r
unfolding fetch_check
fetch_may b p f r e =
    let (a, e₁) = if_passed (not (is_program p && is_file f)) Refusal.OutOfRange _ e in
    let (n, e₂) = if_passed (not (is_record r)) Refusal.BadRecord _ e₁ in
    let (s, e₃) = running_passed (at b p).standing _ e₂ in
    let (z, e₄) = if_passed (not (eqb (at b p).item 0)) Refusal.HasRecord _ e₃ in
    let (o, _) = if_passed (not (member (at b p).inquiring f)) Refusal.NoRecord (Ok tt) e₄ in
    let m = leb-true 1 r (and_left (leb 1 r) (leb r 65535) (not_of (is_record r) n)) in
    record {
      is = is_of p (and_left (is_program p) (is_file f) (not_of (is_program p && is_file f) a));
      runs = s;
      no_item = eqb-true (at b p).item 0 (not_of (eqb (at b p).item 0) z);
      some_record = λ d. omega arith;
      open_so = not_of (member (at b p).inquiring f) o;
    }

pub return_may : (b : Board) (p : ℕ) → return_check b p ≡ Ok tt → RunsMay b p
unfolding return_check
return_may b p e =
    let (a, e₁) = if_passed (not (is_program p)) Refusal.OutOfRange _ e in
    let (s, _) = running_passed (at b p).standing _ e₁ in
    record { is = is_of p (not_of (is_program p) a); runs = s }

pub leave_may : (b : Board) (p : ℕ) → leave_check b p ≡ Ok tt → RunsMay b p
unfolding leave_check
leave_may b p e =
    let (a, e₁) = if_passed (not (is_program p)) Refusal.OutOfRange _ e in
    let (s, _) = running_passed (at b p).standing _ e₁ in
    record { is = is_of p (not_of (is_program p) a); runs = s }

pub may_leave : (b : Board) (p : ℕ) → RunsMay b p → leave_check b p ≡ Ok tt
unfolding leave_check
may_leave b p m = if_so (is_program p) Refusal.OutOfRange _ (of_is p m.is) ∙ if_runs (at b p).standing (Ok tt) m.runs

pub stopped-passed : (s : Standing) (k : Check) → unless_stopped s k ≡ Ok tt → (is_waiting s ≡ true) ⊎ (is_held s ≡ true)
stopped-passed Standing.Absent k e = failed_passed Refusal.IsAbsent e
stopped-passed Standing.Held k e = inr refl
stopped-passed (Standing.Waiting f) k e = inl refl
stopped-passed Standing.Running k e = failed_passed Refusal.IsRunning e

pub record CancelMay (b : Board) (p : ℕ) : Type 0 where
  pub is : Is p
  pub stopped : (is_waiting (stands b.programs p) ≡ true) ⊎ (is_held (stands b.programs p) ≡ true)

pub cancel_may : (b : Board) (p : ℕ) → cancel_check b p ≡ Ok tt → CancelMay b p
unfolding cancel_check
cancel_may b p e = let (a, e₁) = if_passed (not (is_program p)) Refusal.OutOfRange _ e in record {
  is = is_of p (not_of (is_program p) a);
  stopped = stopped-passed (at b p).standing _ e₁;
}

-- ── Calls that settle ──

-- The waiting, the held and one more program are at most 32.
pub crowd : (b : Board) (p : ℕ) → Loose b → Is p → waits_in b.programs p ≡ false → held_at b.programs p ≡ false
    → suc (length (names b.waiting) + length (names b.entry)) ≤ 32
unfolding Pairs everyone
crowd b p k c w h =
    let n = no_longer (p ∷ (names b.waiting ++ names b.entry)) everyone (fresh, both)
    (λ a m. by_mem m (λ d. subst (λ q. q ∈ everyone) (sym d) (mem-everyone p c))
    (λ i. ⊎_elim (λ j. mem-everyone a (k.waits.of a j).0) (λ j. mem-everyone a (k.helds.of a j).0)
    (Memᴰ.append_cases (names b.waiting) i))) in
    let x = length-append (names b.waiting) (names b.entry) in
    let y = length-rising 32 1 in omega arith
  where
    fresh : (a : ℕ) → a ∈ names b.waiting ++ names b.entry → p ≢ a
    fresh a m d = ⊎_elim (λ j. never (k.waits.of a j).1 (ap (waits_in b.programs) (sym d) ∙ w))
        (λ j. never (k.helds.of a j).1 (ap (held_at b.programs) (sym d) ∙ h)) (Memᴰ.append_cases (names b.waiting) m)

    apart : (s : Standing) → is_waiting s ≡ true → is_held s ≡ true → ⊥
    apart Standing.Absent u v = never {t = false} u refl
    apart Standing.Running u v = never {t = false} u refl
    apart (Standing.Waiting f) u v = never {t = false} v refl
    apart Standing.Held u v = never {t = false} u refl

    both : NoRepeat (names b.waiting ++ names b.entry)
    both = Pairs-append (λ a b. a ≢ b) (names b.waiting) (names b.entry) k.waits.once k.helds.once
        (λ x y i j d. apart (stands b.programs x) (k.waits.of x i).1 (ap (held_at b.programs) d ∙ (k.helds.of y j).1))

one : (k : Line) → (k.word ≡ Word.Favour → ⊥) → NoFavour (k ∷ [])
one k n j m d = n (ap (λ (q : Line). q.word) (sym (Memᴰ.eq_of_singleton m)) ∙ d)

done_not_favour : Word.Done ≡ Word.Favour → ⊥
done_not_favour e = let z : ◌≡◌ {A = ℕ} 0 1 = cc in omega arith

-- Who waits on c has the count that it has on b.
abbrev pub CountsFrom : Board → Board → Type 0
CountsFrom b c = (y : ℕ) → Is y → waits_in c.programs y ≡ true → count_in c.passed y ≡ count_in b.passed y

done_stepped : (b c : Board) (t : Step) {x : ℕ} (p f k o : ℕ) → Settled c t → Loose c → CountsFrom b c
    → o + length (ins c.programs) ≡ length (ins b.programs) → Is p → waits_in c.programs p ≡ false
    → held_at c.programs p ≡ false → FavourMore b c k
    → (b.favoured ≢ 0 → at c b.favoured ≡ at b b.favoured)
    → Stepped b k o x (record { board = t.board; lines = line Word.Done p f ∷ t.lines })
unfolding admits
done_stepped b c t p f k o r l v su i w h x a = record {
  good = r.good;
  many = let m = r.many in let n = crowd c p l i w h in omega arith;
  fav = ⊎_elim
      (λ q. inl (q.0, newly_more (line Word.Done p f ∷ []) t q.0 (one (line Word.Done p f) done_not_favour) q.1))
      (λ q. inr (
        ⊎_elim inl (λ u. inr (more u)) q.0,
        quiet_more (line Word.Done p f ∷ []) t.lines (one (line Word.Done p f) done_not_favour) q.1,
      ))
      r.fav;
  ended = λ n. ⊎_elim (λ q. inl (more q))
      (λ (q : Ended c t). inr (inl (record {
        line-there = subst (λ j. j ∈ t.lines) (ap (λ h. waiter_line Word.Given h (at c h)) x.who
            ∙ ap (waiter_line Word.Given b.favoured) (a n)) q.line-there;
        runs = ap (stands t.board.programs) (sym x.who) ∙ q.runs;
      })))
      (r.ended (λ d. n (sym x.who ∙ d)));
  file_stays = λ n d. let (j, u) = r.good.loose.fav-waits (λ e. n (sym d ∙ e)) in
      r.waited b.favoured (subst Is d j) (ap (waits_in t.board.programs) (sym d) ∙ u) ∙ a n;
  count = λ y i j. let z = r.count y i j in let q = v y i (ap (λ (u : Program). is_waiting u.standing) (sym (r.waited y i j)) ∙ j) in
      omega arith;
  sum = let z = r.sum in omega arith;
}
  where
    more : Favour c t.board → FavourMore b t.board k
    more q = record { who = q.who ∙ x.who; number = q.number ∙ x.number; left = λ n. q.left ∙ x.left n }

-- ── Each call ──

-- How the favoured program awaits its file where another program is put anew.
file_put : (b : Board) (p : ℕ) (x : Program) → Loose b → Is p → waits_in b.programs p ≡ false → b.favoured ≢ 0
    → at (set_program b p x) b.favoured ≡ at b b.favoured
file_put b p x k c w n = let (i, u) = k.fav-waits n in
    put_other b.programs p b.favoured x c i (λ d. never u (ap (waits_in b.programs) d ∙ w))

-- p has no record in use, and gets none.
put_records : (b : Board) (p : ℕ) (x : Program) → Good b → Is p → ((f r : ℕ) → Uses (prog b.programs p) f r → ⊥) → x.item ≡ 0
    → x.file ≡ 0 → Records (put b.programs p x) 0 0
put_records b p x g c n z e = let s = put_same b.programs p x g.loose.base.size c in
    let i = ap (λ (q : Program). q.item) s ∙ z in
    records-quiet b.programs (put b.programs p x) p c (λ i j m. put_other b.programs p i x c j m)
    (none_item (prog (put b.programs p x) p) i (ap (λ (q : Program). q.file) s ∙ e)) i n g.counts.records

-- A program that isn't admitted has none in use.
out_uses : (b : Board) (p : ℕ) → Good b → Is p → is_in b.programs p ≡ false → (f r : ℕ) → Uses (prog b.programs p) f r → ⊥
out_uses b p g c a f r u = u.1 (out_item (prog b.programs p) a (g.counts.records.own p c))

free-put : (b : Board) (p : ℕ) (x : Program) → Good b → Is p → is_held x.standing ≡ false → Free (put b.programs p x) b.favoured
free-put b p x g c h e i j = put_case (λ q. is_held q.standing ≡ false) b.programs p x g.loose.base.size c i j
    (λ _. h) (λ _. g.free e i j)

enter-run : (b : Board) (p : ℕ) (v q j : FileSet) → b.favoured ≡ 0 → overdue b ≡ none
    → enter b p v q j ≡ reply (admit b p v q j) Answer.Admit (line Word.Admit p 0 ∷ [])
unfolding enter
enter-run b p v q j e u = rw (eq-eqb b.favoured 0 e, u)

enter-favour : (b : Board) (p : ℕ) (v q j : FileSet) (w : ℕ) → b.favoured ≡ 0 → overdue b ≡ some w → enter b p v q j ≡ hold_for b p v q j w
unfolding enter
enter-favour b p v q j w e u = rw (eq-eqb b.favoured 0 e, u)

enter-hold : (b : Board) (p : ℕ) (v q j : FileSet) → b.favoured ≢ 0
    → enter b p v q j ≡ reply (hold b p v q j) Answer.Held (line Word.Held p 0 ∷ [])
unfolding enter
enter-hold b p v q j n = rw (ne_eqb b.favoured 0 n)

-- A step of a reply that is given by its board, its answer and its lines.
stepped_reply : (b c : Board) {o x : ℕ} (k : ℕ) (a : Answer) (ls : List Line) → Stepped b k o x (record { board = c; lines = ls })
    → Stepped b k o x (step_of (reply c a ls))
stepped_reply b c {o} {x} k a ls s = subst (Stepped b k o x) (sym (reply-step c a ls)) s

admit_stepped : (b : Board) (p : ℕ) (v q j : FileSet) → Good b → EnterMay b p v q j → b.favoured ≡ 0 → overdue b ≡ none
    → Stepped b 0 0 0 (record { board = admit b p v q j; lines = line Word.Admit p 0 ∷ [] })
unfolding admit admits
admit_stepped b p v q j g m e u = plain b (tally c) _
    (record {
      loose = subst (λ w. LooseIn (put P p x) b.waiting b.entry w b.initial b.leaves) (sym e)
          (loose_enter P b.waiting b.entry b.initial b.leaves p v q j m.is m.absent m.claims-apart
          (subst (λ w. LooseIn P b.waiting b.entry w b.initial b.leaves) e k));
      counts = record {
        counted = counted_tally b c u k.waits refl (test_put is_waiting P p x z m.is (sym (ap is_waiting m.absent))) g.counts.counted;
        records = put_records b p x g m.is (out_uses b p g m.is (ap is_admitted m.absent)) refl refl;
      };
      stuck = stuck-enter P p x k.base m.is m.absent refl g.stuck;
      free = free-put b p x g m.is refl;
    }) (omega arith) (one (line Word.Admit p 0) (λ d. let z : ◌≡◌ {A = ℕ} 0 1 = cc in omega arith)) refl refl refl
    (file_put b p x k m.is (ap is_waiting m.absent))
    (λ i j w. let y = tallied_waits c i j w in omega arith)
    (let y = length_in_lem P p x z m.is (ap is_admitted m.absent) refl in omega arith)
  where
    P : Progs
    P = b.programs

    x : Program
    x = newcomer v q j Standing.Running

    c : Board
    c = set_program b p x

    k : Loose b
    k = g.loose

    z : Sized P
    z = k.base.size

-- The board with p held.
pub record Holding (b c : Board) (p : ℕ) : Type 0 where
  pub h-loose : Loose c
  pub h-stuck : Stuck c.programs
  pub h-counts : Counts c
  pub h-same : CountsFrom b c
  pub h-ins : length (ins c.programs) ≡ length (ins b.programs)
  pub h-who : c.favoured ≡ b.favoured
  pub h-number : c.initial ≡ b.initial
  pub h-left : c.leaves ≡ b.leaves
  pub h_waiting : c.waiting ≡ b.waiting
  pub h-passed : (y : ℕ) → count_in c.passed y ≡ count_in b.passed y
  pub h-file : b.favoured ≢ 0 → at c b.favoured ≡ at b b.favoured

hold_holding : (b : Board) (p : ℕ) (v q j : FileSet) → Good b → EnterMay b p v q j → Holding b (hold b p v q j) p
unfolding hold
hold_holding b p v q j g m = record {
  h-loose = loose_hold P b.waiting b.entry b.favoured b.initial b.leaves p v q j m.is m.absent m.claims-apart k;
  h-stuck = stuck-hold P p x k.base m.is m.absent refl g.stuck;
  h-counts = record {
    counted = counted_keep b.passed P (put P p x) (λ i h w. same i h ∙ w) g.counts.counted;
    records = put_records b p x g m.is (out_uses b p g m.is (ap is_admitted m.absent)) refl refl;
  };
  h-same = λ y i w. refl;
  h-ins = ap length (ins-same P p x k.base.size m.is (sym (ap is_admitted m.absent)));
  h-who = refl;
  h-number = refl;
  h-left = refl;
  h_waiting = refl;
  h-passed = λ y. refl;
  h-file = file_put b p x k m.is (ap is_waiting m.absent);
}
  where
    P : Progs
    P = b.programs

    x : Program
    x = newcomer v q j Standing.Held

    k : Loose b
    k = g.loose

    same : (i : ℕ) → Is i → waits_in (put P p x) i ≡ waits_in P i
    same = test_put is_waiting P p x k.base.size m.is (sym (ap is_waiting m.absent))

held_not_favour : Word.Held ≡ Word.Favour → ⊥
held_not_favour e = let z : ◌≡◌ {A = ℕ} 0 1 = cc in omega arith

hold_stepped : (b c : Board) (p : ℕ) → b.favoured ≢ 0 → Holding b c p → Stepped b 0 0 0 (record {
  board = c;
  lines = line Word.Held p 0 ∷ [];
})
unfolding admits
hold_stepped b c p n h = plain b c _
    (record { loose = h.h-loose; counts = h.h-counts; stuck = h.h-stuck; free = λ e. absurd (n (sym h.h-who ∙ e)) })
    (omega arith) (one (line Word.Held p 0) held_not_favour) h.h-who h.h-number h.h-left h.h-file
    (λ i j w. let y = h.h-same i j w in omega arith) (let y = h.h-ins in omega arith)

-- p is held, and an overdue waiter is favoured.
favour_stepped : (b c : Board) (p : ℕ) (s : Step) → b.favoured ≡ 0 → Holding b c p → Chosen c s → length s.lines ≤ 31
    → ((w : ℕ) × Newly s w) → Stepped b 0 0 0 (and_then (line Word.Held p 0 ∷ []) s)
unfolding admits
favour_stepped b c p s e h r len w = record {
  good = r.good;
  many = omega arith;
  fav = inl (w.0, newly_more (line Word.Held p 0 ∷ []) s w.0 (one (line Word.Held p 0) held_not_favour) w.1);
  ended = λ n. absurd (n e);
  file_stays = λ n. absurd (n e);
  count = λ y i j. let x = r.count y i j in
      let z = h.h-same y i (ap (λ (q : Program). is_waiting q.standing) (sym (r.waited y i j)) ∙ j) in omega arith;
  sum = let x = r.sum in let z = h.h-ins in omega arith;
}

hold_for_stepped : (b : Board) (p : ℕ) (v q j : FileSet) (w : ℕ) → Good b → EnterMay b p v q j → b.favoured ≡ 0 → overdue b ≡ some w
    → Stepped b 0 0 0 (step_of (hold_for b p v q j w))
unfolding hold_for overdue favour
hold_for_stepped b p v q j w g m e u = stepped_reply b (favour c w).board 0 Answer.Held (line Word.Held p 0 ∷ (favour c w).lines)
    (favour_stepped b c p (favour c w) e h r (omega arith)
    (⊎_elim (λ x. x.1) (λ x. absurd (x.1 (waiter_line Word.Favour w (at c w)) here refl)) r.fav))
  where
    c : Board
    c = hold b p v q j

    h : Holding b c p
    h = hold_holding b p v q j g m

    r : Chosen c (favour c w)
    r = let (f, d) = first_some (λ y. eqb (passed_by b y) 8) (names b.waiting) w u in
        chosen_some c w h.h-loose h.h-stuck h.h-counts (h.h-who ∙ e) (subst (λ l. w ∈ names l) (sym h.h_waiting) f)
        (inr (h.h-passed w ∙ eqb-true (passed_by b w) 8 d))

enter_stepped : (b : Board) (p : ℕ) (v q j : FileSet) → Good b → EnterMay b p v q j → Stepped b 0 0 0 (step_of (enter b p v q j))
enter_stepped b p v q j g m = by_test (eqb b.favoured 0)
    (λ t. let e = eqb-true b.favoured 0 t in by_option (overdue b)
    (λ u. subst (λ r. Stepped b 0 0 0 (step_of r)) (sym (enter-run b p v q j e u)) (stepped_reply b (admit b p v q j) 0 Answer.Admit
    (line Word.Admit p 0 ∷ []) (admit_stepped b p v q j g m e u)))
    (λ w u. subst (λ r. Stepped b 0 0 0 (step_of r)) (sym (enter-favour b p v q j w e u)) (hold_for_stepped b p v q j w g m e u)))
    (λ t. let n = eqb-false b.favoured 0 t in
    subst (λ r. Stepped b 0 0 0 (step_of r)) (sym (enter-hold b p v q j n)) (stepped_reply b (hold b p v q j) 0 Answer.Held
    (line Word.Held p 0 ∷ []) (hold_stepped b (hold b p v q j) p n (hold_holding b p v q j g m))))

-- An open waits with an answer and its word, or is given.
open_wait : (b : Board) (p f : ℕ) → in_use b p f ≡ true → open_file b p f ≡ reply (wait b p f) Answer.Wait (line Word.Wait p f ∷ [])
unfolding open_file
open_wait b p f u = rw u

open_unsafe : (b : Board) (p f : ℕ) → in_use b p f ≡ false → safe b p f ≡ false → open_file b p f ≡ reply
    (wait b p f) Answer.Unsafe (line Word.Unsafe p f ∷ [])
unfolding open_file
open_unsafe b p f u v = rw (u, v)

pub open_given : (b : Board) (p f : ℕ) → in_use b p f ≡ false → safe b p f ≡ true → open_file b p f ≡ reply
    (with_given b p f) Answer.Given (line Word.Given p f ∷ [])
unfolding open_file
open_given b p f u v = rw (u, v)

-- A running program begins to wait, as x.
wait-plain : (b : Board) (p : ℕ) (x : Program) (l : Line) → Good b → Is p → stands b.programs p ≡ Standing.Running
    → is_waiting x.standing ≡ true → SameSets (at b p) x → Asks x → ((g : ℕ) → Awaits x g → can b.programs p g ≡ false)
    → Records (put b.programs p x) 0 0 → (l.word ≡ Word.Favour → ⊥) → is_admit l.word ≡ false
    → Stepped b 0 0 0 (record { board = wait_as b p x; lines = l ∷ [] })
unfolding admits
wait-plain b p x l g c r w d asks u rec n a = plain b (wait_as b p x) _ (record {
  loose = loose_wait b.programs b.waiting b.entry b.favoured b.initial b.leaves p x c r w d asks g.loose;
  counts = record {
    counted = counted_keep b.passed b.programs (put b.programs p x) (λ i j v. put_case (λ q. is_waiting q.standing ≡ true)
        b.programs p x g.loose.base.size c i j (λ _. w) (λ _. v)) g.counts.counted;
    records = rec;
  };
  stuck = stuck-same b.programs p x g.loose.base.size c r adm d u g.stuck;
  free = free-put b p x g c (let (f, e) = waiting_file x.standing w in ap is_held e);
}) (omega arith) (one l n) refl refl refl (file_put b p x g.loose c (ap is_waiting r))
    (λ i j v. omega (arith, none_more)) (let z = ap length (ins-same b.programs p x g.loose.base.size c (adm ∙ sym (ap is_admitted r)))
    in omega (arith, none_more))
  where
    adm : is_admitted x.standing ≡ true
    adm = waiting_in x.standing w

    none_more : ◌≡◌ {A = ℕ} (cond (is_admit l.word) 1 0) 0
    none_more = rw a

open_waits : (b : Board) (p f : ℕ) (w : Word) → Good b → OpenMay b p f → can b.programs p f ≡ false
    → (w ≡ Word.Favour → ⊥) → is_admit w ≡ false → Stepped b 0 0 0 (record { board = wait b p f; lines = line w p f ∷ [] })
unfolding wait
open_waits b p f w g m u = wait-plain b p x (line w p f) g m.is m.runs refl (standing_same (at b p) (Standing.Waiting f))
    (λ h e. subst (Asked x) (same_file f h e.0) (record { claimed = m.asked.claimed; shut = m.asked.shut }))
    (λ h e. ap (can b.programs p) (sym (same_file f h e.0)) ∙ u)
    (put_records b p x g m.is (λ f r v. v.1 m.no_item) m.no_item ((g.counts.records.own p m.is).no_item m.no_item))
  where
    x : Program
    x = set_standing (at b p) (Standing.Waiting f)

open_plain : (b : Board) (p f : ℕ) → Good b → OpenMay b p f → can b.programs p f ≡ true
    → Stepped b 0 0 0 (record { board = with_given b p f; lines = line Word.Given p f ∷ [] })
unfolding with_given give admits
open_plain b p f g m u = plain b (with_given b p f) _
    (record {
      loose = loose_open b.programs b.waiting b.entry b.favoured b.initial b.leaves p f m.is
          m.runs m.asked.claimed u g.loose;
      counts = record {
        counted = counted_keep b.passed b.programs (put b.programs p x) (λ i j w. test_put is_waiting b.programs p x
            g.loose.base.size m.is (ap is_waiting o) i j ∙ w) g.counts.counted;
        records = put_records b p x g m.is (λ f r v. v.1 m.no_item) (q.0 ∙ m.no_item)
            (q.1 ∙ (g.counts.records.own p m.is).no_item m.no_item);
      };
      stuck = stuck_open b.programs p f g.loose.base.size m.is m.runs g.stuck;
      free = free-put b p x g m.is (ap is_held (o ∙ m.runs));
    }) (omega arith) (one (line Word.Given p f) (λ d. let z : ◌≡◌ {A = ℕ} 0 1 = cc in omega arith)) refl refl refl
    (file_put b p x g.loose m.is (ap is_waiting m.runs))
    (λ i j w. omega arith) (let x = ap length (ins-give b.programs p f g.loose.base.size m.is) in omega arith)
  where
    x : Program
    x = opening (at b p) f

    o : x.standing ≡ (at b p).standing
    o = opening_standing (at b p) f

    q : (x.item ≡ (at b p).item) × (x.file ≡ (at b p).file)
    q = opening_item (at b p) f

-- ── Fetch ──

fetch-wait : (b : Board) (p f r : ℕ) → taken b p f r ≡ true
    → fetch b p f r ≡ reply (wait_item b p f r) Answer.Wait (line_of Word.Wait p f r ∷ [])
unfolding fetch
fetch-wait b p f r u = rw u

fetch-given : (b : Board) (p f r : ℕ) → taken b p f r ≡ false
    → fetch b p f r ≡ reply (set_program b p (set_item (at b p) f r)) Answer.Given (line_of Word.Given p f r ∷ [])
unfolding fetch
fetch-given b p f r u = rw u

pub taken_by : (b : Board) (p f r : ℕ) → taken b p f r ≡ true → (i : ℕ) × Is i × (i ≢ p) × Uses (at b i) f r
unfolding taken
taken_by b p f r e = let (i, m, u) = any_some (λ i. not (eqb i p) && uses (at b i) f r) everyone e in (
  i,
  everyone_is i m,
  eqb-false i p (not_true (eqb i p) (and_left (not (eqb i p)) (uses (at b i) f r) u)),
  uses-of (at b i) f r (and_right (not (eqb i p)) (uses (at b i) f r) u),
)

pub by_taken : (b : Board) (p f r i : ℕ) → Is i → i ≢ p → Uses (at b i) f r → taken b p f r ≡ true
unfolding taken
by_taken b p f r i c n u = some-any (λ i. not (eqb i p) && uses (at b i) f r) everyone i (mem-everyone i c)
    (and_both (not (eqb i p)) (uses (at b i) f r) (true_not (eqb i p) (ne_eqb i p n)) (of-uses (at b i) f r u))

fetch_waits : (b : Board) (p f r : ℕ) → Good b → FetchMay b p f r → taken b p f r ≡ true
    → Stepped b 0 0 0 (record { board = wait_item b p f r; lines = line_of Word.Wait p f r ∷ [] })
unfolding wait_item
fetch_waits b p f r g m u = wait-plain b p x (line_of Word.Wait p f r) g m.is m.runs refl
    (same_then _ _ _ (standing_same (at b p) (Standing.Waiting f)) (item_same (set_standing (at b p) (Standing.Waiting f)) f r))
    (λ h e. absurd (m.some_record e.1)) (λ h e. absurd (m.some_record e.1))
    (let (j, i, n, v) = taken_by b p f r u in records-waited b.programs (put b.programs p x) p m.is
    (λ i j m. put_other b.programs p i x c j m) (subst ItemOwn (sym s) (record {
      no_item = λ d. absurd (m.some_record d);
      in_i = λ _. m.open_so;
      stands-so = λ _. inr refl;
    })) f r m.no_item (ap (λ (q : Program). q.file) s) (ap (λ (q : Program). q.item) s) (ap (λ (q : Program). is_waiting q.standing) s)
    j i n v g.counts.records)
    (λ d. let z : ◌≡◌ {A = ℕ} 0 1 = cc in omega arith) refl
  where
    c : Is p
    c = m.is

    x : Program
    x = set_item (set_standing (at b p) (Standing.Waiting f)) f r

    s : prog (put b.programs p x) p ≡ x
    s = put_same b.programs p x g.loose.base.size c

-- A running program is put anew, running, with its sets: its record changes.
module _ (b : Board) (p f r : ℕ) (g : Good b) (c : Is p) (run : stands b.programs p ≡ Standing.Running) where
  item-program : Program
  item-program = set_item (at b p) f r

  item-sets : SameSets (at b p) (set_item (at b p) f r)
  item-sets = item_same (at b p) f r

  pub item-loose : Loose (set_program b p (set_item (at b p) f r))
  item-loose = loose_shrink b.programs b.waiting b.entry b.favoured b.initial b.leaves p (set_item (at b p) f r) c run run
      (within_same _ _ (same_turn _ _ item-sets)) (own_same _ _ item-sets (ap is_admitted run) (g.loose.base.own p c)) g.loose

  item-waits : (i : ℕ) → Is i → waits_in (put b.programs p (set_item (at b p) f r)) i ≡ waits_in b.programs i
  item-waits = test_put is_waiting b.programs p (set_item (at b p) f r) g.loose.base.size c refl

  pub item-counted : Counted b.passed (put b.programs p (set_item (at b p) f r))
  item-counted = counted_keep b.passed b.programs (put b.programs p (set_item (at b p) f r)) (λ i j w. item-waits i j ∙ w)
      g.counts.counted

  item_in : length (ins (put b.programs p (set_item (at b p) f r))) ≡ length (ins b.programs)
  item_in = ap length (ins-same b.programs p (set_item (at b p) f r) g.loose.base.size c refl)

  pub item-put : prog (put b.programs p (set_item (at b p) f r)) p ≡ set_item (at b p) f r
  item-put = put_same b.programs p (set_item (at b p) f r) g.loose.base.size c

fetch-gets : (b : Board) (p f r : ℕ) → Good b → FetchMay b p f r → taken b p f r ≡ false
    → Stepped b 0 0 0 (record { board = set_program b p (set_item (at b p) f r); lines = line_of Word.Given p f r ∷ [] })
unfolding admits
fetch-gets b p f r g m u = plain b (set_program b p x) _ (record {
  loose = item-loose b p f r g c m.runs;
  counts = record {
    counted = item-counted b p f r g c m.runs;
    records = records-fetched b.programs (put b.programs p x) p c (λ i j m. put_other b.programs p i x c j m)
        (subst ItemOwn (sym s) (record {
          no_item = λ d. absurd (m.some_record d);
          in_i = λ _. m.open_so;
          stands-so = λ _. inl m.runs;
        })) f r m.no_item (ap (λ (q : Program). q.file) s) (ap (λ (q : Program). q.item) s)
        (ap (λ (q : Program). q.standing) s ∙ m.runs) (λ i j n v. never (by_taken b p f r i j n v) u) g.counts.records;
  };
  stuck = stuck-same b.programs p x g.loose.base.size c m.runs (ap is_admitted m.runs) (item_same (at b p) f r)
      (λ h e. never {t = false} (sym (ap is_waiting m.runs) ∙ ap is_waiting e.0) refl) g.stuck;
  free = free-put b p x g c (ap is_held m.runs);
}) (omega arith) (one (line_of Word.Given p f r) (λ d. let z : ◌≡◌ {A = ℕ} 0 1 = cc in omega arith)) refl refl refl
    (file_put b p x g.loose c (ap is_waiting m.runs)) (λ i j w. omega arith)
    (let z = item_in b p f r g c m.runs in omega arith)
  where
    c : Is p
    c = m.is

    x : Program
    x = set_item (at b p) f r

    s : prog (put b.programs p x) p ≡ x
    s = item-put b p f r g c m.runs

fetch_stepped : (b : Board) (p f r : ℕ) → Good b → FetchMay b p f r → Stepped b 0 0 0 (step_of (fetch b p f r))
fetch_stepped b p f r g m = by_test (taken b p f r)
    (λ t. subst (λ q. Stepped b 0 0 0 (step_of q)) (sym (fetch-wait b p f r t)) (stepped_reply b (wait_item b p f r) 0 Answer.Wait
    (line_of Word.Wait p f r ∷ []) (fetch_waits b p f r g m t)))
    (λ t. subst (λ q. Stepped b 0 0 0 (step_of q)) (sym (fetch-given b p f r t)) (stepped_reply b (set_program b p (set_item (at b p) f r)) 0
    Answer.Given (line_of Word.Given p f r ∷ []) (fetch-gets b p f r g m t)))

-- Whether the file can be given, by the two tests of an open.
pub can-tests : (b : Board) (p f : ℕ) → can b.programs p f ≡ not (in_use b p f) && safe b p f
unfolding can_give
can-tests b p f = sym (can_give_is b p f)

open_stepped : (b : Board) (p f : ℕ) → Good b → OpenMay b p f → Stepped b 0 0 0 (step_of (open_file b p f))
open_stepped b p f g m = by_test (in_use b p f)
    (λ t. subst (λ r. Stepped b 0 0 0 (step_of r)) (sym (open_wait b p f t)) (stepped_reply b (wait b p f) 0 Answer.Wait
    (line Word.Wait p f ∷ []) (open_waits b p f Word.Wait g m (can-tests b p f ∙ rw t)
    (λ d. let z : ◌≡◌ {A = ℕ} 0 1 = cc in omega arith) refl)))
    (λ t. by_test (safe b p f)
    (λ u. subst (λ r. Stepped b 0 0 0 (step_of r)) (sym (open_given b p f t u))
    (stepped_reply b (with_given b p f) 0 Answer.Given (line Word.Given p f ∷ []) (open_plain b p f g m (can-tests b p f ∙ rw (t, u)))))
    (λ u. subst (λ r. Stepped b 0 0 0 (step_of r)) (sym (open_unsafe b p f t u)) (stepped_reply b (wait b p f) 0 Answer.Unsafe
    (line Word.Unsafe p f ∷ []) (open_waits b p f Word.Unsafe g m (can-tests b p f ∙ rw (t, u))
    (λ d. let z : ◌≡◌ {A = ℕ} 0 1 = cc in omega arith) refl))))

-- A running program is put anew, running.
module _ (b : Board) (p : ℕ) (x : Program) (g : Good b) (m : CloseMay b p) (r : x.standing ≡ Standing.Running) (z : x.item ≡ (at b p).item)
    (e : x.file ≡ (at b p).file) where
  still-waits : (i : ℕ) → Is i → waits_in (put b.programs p x) i ≡ waits_in b.programs i
  still-waits = test_put is_waiting b.programs p x g.loose.base.size m.is (ap is_waiting r ∙ sym (ap is_waiting m.runs))

  pub still-counts : Counts (set_program b p x)
  still-counts = record {
    counted = counted_keep b.passed b.programs (put b.programs p x) (λ i j w. still-waits i j ∙ w) g.counts.counted;
    records = put_records b p x g m.is (λ f r v. v.1 m.no_item) (z ∙ m.no_item)
        (e ∙ (g.counts.records.own p m.is).no_item m.no_item);
  }

  still_in : 0 + length (ins (put b.programs p x)) ≡ length (ins b.programs)
  still_in = let y = ap length (ins-same b.programs p x g.loose.base.size m.is (ap is_admitted r ∙ sym (ap is_admitted
      m.runs))) in
      omega arith

close_stepped : (b : Board) (p f : ℕ) → Good b → CloseMay b p → Stepped b 0 0 0 (step_of (close_file b p f))
unfolding close_file done finish closing
close_stepped b p f g m = stepped_reply b (settle c).board 0 Answer.Done (line Word.Done p f ∷ (settle c).lines)
    (done_stepped b c (settle c) p f 0 0 (settle_settled c l (still-counts b p x g m m.runs refl refl)) l
    (λ y i w. refl) (still_in b p x g m m.runs refl refl) m.is
    (test_same is_waiting b.programs p x g.loose.base.size m.is ∙ ap is_waiting m.runs)
    (test_same is_held b.programs p x g.loose.base.size m.is ∙ ap is_held m.runs)
    (record { who = refl; number = refl; left = λ _. omega arith }) (file_put b p x g.loose m.is (ap is_waiting m.runs)))
  where
    x : Program
    x = closing (at b p) f

    c : Board
    c = set_program b p x

    l : Loose c
    l = loose_close b.programs b.waiting b.entry b.favoured b.initial b.leaves p f m.is m.runs g.loose

drop_stepped : (b : Board) (p f : ℕ) → Good b → OpenMay b p f → Stepped b 0 0 0 (step_of (drop_file b p f))
unfolding drop_file done finish dropping
drop_stepped b p f g m = stepped_reply b (settle c).board 0 Answer.Done (line Word.Done p f ∷ (settle c).lines)
    (done_stepped b c (settle c) p f 0 0 (settle_settled c l (still-counts b p x g r m.runs refl refl)) l
    (λ y i w. refl) (still_in b p x g r m.runs refl refl) m.is
    (test_same is_waiting b.programs p x g.loose.base.size m.is ∙ ap is_waiting m.runs)
    (test_same is_held b.programs p x g.loose.base.size m.is ∙ ap is_held m.runs)
    (record { who = refl; number = refl; left = λ _. omega arith }) (file_put b p x g.loose m.is (ap is_waiting m.runs)))
  where
    x : Program
    x = dropping (at b p) f

    r : CloseMay b p
    r = record { is = m.is; runs = m.runs; no_item = m.no_item }

    c : Board
    c = set_program b p x

    l : Loose c
    l = loose_drop b.programs b.waiting b.entry b.favoured b.initial b.leaves p f m.is m.runs m.asked.shut
        g.loose

count_none : (b : Board) → b.favoured ≡ 0 → count_leave b ≡ b
unfolding count_leave
count_none b e = rw (eq-eqb b.favoured 0 e)

count_one : (b : Board) → b.favoured ≢ 0 → count_leave b ≡ set_favour b b.favoured b.initial (b.leaves + 1)
unfolding count_leave
count_one b n = rw (ne_eqb b.favoured 0 n)

-- An admitted program goes.
gone_one : (b : Board) (p : ℕ) → Good b → Is p → is_in b.programs p ≡ true
    → 1 + length (ins (put b.programs p no_program)) ≡ length (ins b.programs)
gone_one b p g c a = let x = ap length (ins_out b.programs p no_program g.loose.base.size c refl) in
    let y = length_without p (ins b.programs) (ins_once b.programs) (mem-ins b.programs p c a) in omega arith

-- The board of a leave, before settling.
pub record Left (b c : Board) (p : ℕ) : Type 0 where
  pub l-loose : Loose c
  pub l_programs : c.programs ≡ put b.programs p no_program
  pub l-favour : FavourMore b c 1
  pub l-counted : Counted c.passed c.programs
  pub l-records : Records c.programs (at b p).file (at b p).item
  pub l-same : CountsFrom b c
  pub l-sum : 1 + length (ins c.programs) ≡ length (ins b.programs)

pub leave_left : (b : Board) (p : ℕ) → Good b → RunsMay b p → Left b (count_leave (set_program b p no_program)) p
leave_left b p g m = by_test (eqb b.favoured 0)
    (λ t. let e = eqb-true b.favoured 0 t in subst (λ c. Left b c p) (sym (count_none (set_program b p no_program) e))
    (record {
      l-loose = loose_leave b.programs b.waiting b.entry b.favoured b.initial b.leaves
          b.leaves p m.is m.runs (λ n. absurd (n e)) (λ _. refl) g.loose;
      l_programs = refl;
      l-favour =
          record { who = refl; number = refl; left = λ n. absurd (n e) };
      l-counted = counts;
      l-records = records;
      l-same = λ y i w. refl;
      l-sum = fewer;
    }))
    (λ t. let n = eqb-false b.favoured 0 t in subst (λ c. Left b c p) (sym (count_one (set_program b p no_program) n))
    (record {
      l-loose = loose_leave b.programs b.waiting b.entry b.favoured b.initial b.leaves
          (b.leaves + 1) p m.is m.runs (λ _. refl) (λ e. absurd (n e)) g.loose;
      l_programs = refl;
      l-favour =
          record { who = refl; number = refl; left = λ _. omega arith };
      l-counted = counts;
      l-records = records;
      l-same = λ y i w. refl;
      l-sum = fewer;
    }))
  where
    counts : Counted b.passed (put b.programs p no_program)
    counts = counted_keep b.passed b.programs (put b.programs p no_program) (λ i j w. test_put is_waiting b.programs p no_program
        g.loose.base.size m.is (sym (ap is_waiting m.runs)) i j ∙ w) g.counts.counted

    records : Records (put b.programs p no_program) (at b p).file (at b p).item
    records = let s = put_same b.programs p no_program g.loose.base.size m.is in
        records_release b.programs (put b.programs p no_program) p m.is (λ i j n. put_other b.programs p i no_program m.is j n)
        (subst ItemOwn (sym s) (none_item no_program refl refl)) (ap (λ (q : Program). q.item) s) m.runs g.counts.records

    fewer : 1 + length (ins (put b.programs p no_program)) ≡ length (ins b.programs)
    fewer = gone_one b p g m.is (ap is_admitted m.runs)

leave_stepped : (b : Board) (p : ℕ) → Good b → RunsMay b p → Stepped b 1 1 0 (step_of (leave b p))
unfolding leave finish
leave_stepped b p g m = stepped_reply b t.board 1 Answer.Done (line Word.Done p 0 ∷ t.lines)
    (done_stepped b c t p 0 1 1 (hand_settled c (at b p).file (at b p).item l.l-loose l.l-counted l.l-records) l.l-loose
    l.l-same l.l-sum m.is
    (ap (λ P. waits_in P p) l.l_programs ∙ test_same is_waiting b.programs p no_program g.loose.base.size m.is)
    (ap (λ P. held_at P p) l.l_programs ∙ test_same is_held b.programs p no_program g.loose.base.size m.is)
    l.l-favour (λ n. ap (λ P. prog P b.favoured) l.l_programs ∙ file_put b p no_program
    g.loose m.is (ap is_waiting m.runs) n))
  where
    c : Board
    c = count_leave (set_program b p no_program)

    h : Step
    h = hand_on c (at b p).file (at b p).item

    t : Step
    t = and_then h.lines (settle h.board)

    l : Left b c p
    l = leave_left b p g m

-- ── Return ──

-- The board of a return, before the record is handed on.
abbrev returned : Board → ℕ → Board
returned b p = set_program b p (set_item (at b p) 0 0)

abbrev return_step : Board → ℕ → Step
return_step b p = let h = hand_on (returned b p) (at b p).file (at b p).item in and_then h.lines (settle h.board)

pub return_settled : (b : Board) (p : ℕ) → Good b → RunsMay b p → Settled (returned b p) (return_step b p)
return_settled b p g m = hand_settled (returned b p) (at b p).file (at b p).item (item-loose b p 0 0 g m.is m.runs)
    (item-counted b p 0 0 g m.is m.runs) (let s = item-put b p 0 0 g m.is m.runs in
    records_release b.programs (put b.programs p x) p m.is (λ i j n. put_other b.programs p i x m.is j n)
    (subst ItemOwn (sym s) (none_item x refl refl)) (ap (λ (q : Program). q.item) s) m.runs g.counts.records)
  where
    x : Program
    x = set_item (at b p) 0 0

return_stepped : (b : Board) (p : ℕ) → Good b → RunsMay b p → Stepped b 0 0 0 (step_of (return_item b p))
unfolding return_item finish
return_stepped b p g m = stepped_reply b (return_step b p).board 0 Answer.Done (line Word.Done p 0 ∷ (return_step b p).lines)
    (done_stepped b (returned b p) (return_step b p) p 0 0 0 (return_settled b p g m) (item-loose b p 0 0 g m.is m.runs)
    (λ y i w. refl) (let z = item_in b p 0 0 g m.is m.runs in omega arith) m.is
    (test_same is_waiting b.programs p x g.loose.base.size m.is ∙ ap is_waiting m.runs)
    (test_same is_held b.programs p x g.loose.base.size m.is ∙ ap is_held m.runs)
    (record { who = refl; number = refl; left = λ _. omega arith }) (file_put b p x g.loose m.is (ap is_waiting m.runs)))
  where
    x : Program
    x = set_item (at b p) 0 0

-- ── Cancel ──

-- 1 where the cancel of p takes an admitted program away
abbrev pub gone_count : Board → ℕ → ℕ
gone_count b p = cond (is_admitted (at b p).standing) 1 0

-- 1 where the cancel of p counts as a leave: p is admitted, and not favoured
abbrev pub cancel_count : Board → ℕ → ℕ
cancel_count b p = cond (eqb b.favoured p) 0 (gone_count b p)

-- The favoured program p is cancelled.
own_stepped : (b c : Board) (t : Step) (p k o : ℕ) → Settled c t → Loose c → CountsFrom b c
    → o + length (ins c.programs) ≡ length (ins b.programs) → Is p → stands c.programs p ≡ Standing.Absent → b.favoured ≡ p
    → c.favoured ≡ 0 → Stepped b k o p (record { board = t.board; lines = line Word.Done p 0 ∷ t.lines })
unfolding admits
own_stepped b c t p k o r l v su i s e n₀ = record {
  good = r.good;
  many = let m = r.many in let n = crowd c p l i (ap is_waiting s) (ap is_held s) in omega arith;
  fav = ⊎_elim
      (λ q. inl (q.0, newly_more (line Word.Done p 0 ∷ []) t q.0 (one (line Word.Done p 0) done_not_favour) q.1))
      (λ q. inr (
        inl (⊎_elim (λ u. u) (λ (u : Favour c t.board). u.who ∙ n₀) q.0),
        quiet_more (line Word.Done p 0 ∷ []) t.lines (one (line Word.Done p 0) done_not_favour) q.1,
      ))
      r.fav;
  ended = λ n. inr (inr (record { own = e; over = ap (waits_in t.board.programs) e ∙ not_again }));
  file_stays = λ n d. let (_, w) = r.good.loose.fav-waits (λ q. n (sym d ∙ q)) in
      never w (ap (waits_in t.board.programs) (d ∙ e) ∙ not_again);
  count = λ y i j. let z = r.count y i j in let q = v y i (ap (λ (u : Program). is_waiting u.standing) (sym (r.waited y i j)) ∙ j) in
      omega arith;
  sum = let z = r.sum in omega arith;
}
  where
    not_again : waits_in t.board.programs p ≡ false
    not_again = ap (λ (x : Program). is_waiting x.standing) (r.others p i (ap is_waiting s) (ap is_held s)) ∙ ap is_waiting s

-- The three ways of counting.
count_own : (b : Board) (p : ℕ) → b.favoured ≡ p → count_cancel b p ≡ set_favour b 0 0 0
unfolding count_cancel
count_own b p e = rw (eq-eqb b.favoured p e)

count_nobody : (b : Board) (p : ℕ) → b.favoured ≢ p → b.favoured ≡ 0 → count_cancel b p ≡ b
unfolding count_cancel count_leave
count_nobody b p n e = rw (ne_eqb b.favoured p n, eq-eqb b.favoured 0 e)

count_other : (b : Board) (p : ℕ) → b.favoured ≢ p → b.favoured ≢ 0 → count_cancel b p ≡ set_favour b b.favoured b.initial (b.leaves
    + 1)
unfolding count_cancel count_leave
count_other b p n e = rw (ne_eqb b.favoured p n, ne_eqb b.favoured 0 e)

-- The board c of a cancel, before settling: p is gone. If p was favoured nobody is now; otherwise the favouring goes on with what is counted.
pub record Withdrawn (b c : Board) (p : ℕ) : Type 0 where
  pub w-loose : Loose c
  pub w_programs : c.programs ≡ put b.programs p no_program
  pub w-favour : b.favoured ≢ p → FavourMore b c (cancel_count b p)
  pub w-own : b.favoured ≡ p → c.favoured ≡ 0
  pub w-counts : Counts c
  pub w-same : CountsFrom b c
  pub w-sum : gone_count b p + length (ins c.programs) ≡ length (ins b.programs)

waiting_withdrawn : (b : Board) (p f : ℕ) → Good b → Is p → stands b.programs p ≡ Standing.Waiting f
    → Withdrawn b (withdrawn b p (Standing.Waiting f)) p
waiting_withdrawn b p f g c s = by_test (eqb b.favoured p)
    (λ t. let e = eqb-true b.favoured p t in subst (λ d. Withdrawn b d p) (sym (count_own d p e))
    (gone 0 0 0 (λ m. absurd (m refl)) (λ _. (refl, refl)) (λ n. absurd (n e)) (λ _. refl)))
    (λ t. let n = eqb-false b.favoured p t in by_test (eqb b.favoured 0)
    (λ u. let e = eqb-true b.favoured 0 u in subst (λ d. Withdrawn b d p) (sym (count_nobody d p n e))
    (gone b.favoured b.initial b.leaves (λ m. absurd (m e)) g.loose.nobody
    (λ _. record { who = refl; number = refl; left = λ m. absurd (m e) }) (λ q. absurd (n q))))
    (λ u. let m = eqb-false b.favoured 0 u in subst (λ d. Withdrawn b d p) (sym (count_other d p n m))
    (gone b.favoured b.initial (b.leaves + 1) (λ _. (refl, n, refl, refl)) (λ e. absurd (m e))
    (λ _. record { who = refl; number = refl; left = λ _. let q : cancel_count b p ≡ 1 = rw (t, ap is_admitted s) in omega arith })
    (λ q. absurd (n q)))))
  where
    d : Board
    d = uncount (set_waiting (set_program b p no_program) (without p (names b.waiting))) p

    counts : gone_count b p ≡ 1
    counts = rw (ap is_admitted s)

    other : (i : ℕ) → Is i → i ≢ p → waits_in (put b.programs p no_program) i ≡ waits_in b.programs i
    other = test_other is_waiting b.programs p no_program c

    gone : (fav n l : ℕ) → (fav ≢ 0 → (fav ≡ b.favoured) × (b.favoured ≢ p) × (n ≡ b.initial) × (l ≡ b.leaves + 1))
        → (fav ≡ 0 → (n ≡ 0) × (l ≡ 0)) → (b.favoured ≢ p → FavourMore b (set_favour d fav n l) (cancel_count b p))
        → (b.favoured ≡ p → fav ≡ 0) → Withdrawn b (set_favour d fav n l) p
    gone fav n l x y v w = record {
      w-loose = loose_withdraw b.programs b.waiting b.entry b.favoured b.initial b.leaves fav n l p f c s x y g.loose;
      w_programs = refl;
      w-favour = v;
      w-own = w;
      w-counts = record {
        counted = counted_stop b.passed b.programs (put b.programs p no_program) p c (λ i j m u. other i j m ∙ u) g.counts.counted;
        records = put_records b p no_program g c (λ f r u. never {t = false} (sym (ap is_waiting u.0) ∙ ap is_waiting s) refl) refl refl;
      };
      w-same = λ i j u. uncount-other b.passed p i c j (λ q. never {t = false} (sym (test_same is_waiting b.programs p no_program
          g.loose.base.size c) ∙ ap (waits_in (put b.programs p no_program)) (sym q) ∙ u) refl);
      w-sum = let q = gone_one b p g c (ap is_admitted s) in omega (arith, counts);
    }

held-withdrawn : (b : Board) (p : ℕ) → Good b → Is p → stands b.programs p ≡ Standing.Held → Withdrawn b (withdrawn b p Standing.Held) p
held-withdrawn b p g c s = record {
  w-loose = loose_unhold b.programs b.waiting b.entry b.favoured b.initial b.leaves p c s g.loose;
  w_programs = refl;
  w-favour = λ n. record {
    who = refl;
    number = refl;
    left = λ _. let q : cancel_count b p ≡ 0 = rw (ne_eqb b.favoured p n, ap is_admitted s) in omega arith;
  };
  w-own = λ e. absurd (never {t = false} (sym (ap is_waiting s) ∙ sym (ap (waits_in b.programs) e)
      ∙ (g.loose.fav-waits (λ z. let v = c.least in omega arith)).1) refl);
  w-counts = record {
    counted = counted_keep b.passed b.programs (put b.programs p no_program) (λ i j u. test_put is_waiting b.programs p no_program
        g.loose.base.size c (sym (ap is_waiting s)) i j ∙ u) g.counts.counted;
    records = put_records b p no_program g c (out_uses b p g c (ap is_admitted s)) refl refl;
  };
  w-same = λ i j u. refl;
  w-sum = let q = ap length (ins-same b.programs p no_program g.loose.base.size c (sym (ap is_admitted s))) in omega (arith, counts);
}
  where
    counts : gone_count b p ≡ 0
    counts = rw (ap is_admitted s)

pub cancel-withdrawn : (b : Board) (p : ℕ) → Good b → CancelMay b p → Withdrawn b (withdrawn b p (at b p).standing) p
cancel-withdrawn b p g m = ⊎_elim
    (λ w. let (f, s) = waiting_file (at b p).standing w in subst (λ t. Withdrawn b (withdrawn b p t) p) (sym s) (waiting_withdrawn b p f g
    m.is s))
    (λ h. let s = held_is (at b p).standing h in subst (λ t. Withdrawn b (withdrawn b p t) p) (sym s) (held-withdrawn b p g m.is s))
    m.stopped

cancel_stepped : (b : Board) (p : ℕ) → Good b → CancelMay b p → Stepped b (cancel_count b p) (gone_count b p) p (step_of (cancel b p))
unfolding cancel done finish
cancel_stepped b p g m = stepped_reply b (settle c).board (cancel_count b p) Answer.Done (line Word.Done p 0 ∷ (settle c).lines)
    (by_test (eqb b.favoured p)
    (λ t. let e = eqb-true b.favoured p t in own_stepped b c (settle c) p (cancel_count b p) (gone_count b p) r l.w-loose l.w-same
    l.w-sum m.is gone e (l.w-own e))
    (λ t. let n = eqb-false b.favoured p t in done_stepped b c (settle c) p 0 (cancel_count b p) (gone_count b p) r l.w-loose l.w-same
    l.w-sum m.is (ap is_waiting gone) (ap is_held gone) (l.w-favour n)
    (λ z. ap (λ P. prog P b.favoured) l.w_programs ∙ put_other
    b.programs p b.favoured no_program m.is (g.loose.fav-waits z).0 n)))
  where
    c : Board
    c = withdrawn b p (at b p).standing

    l : Withdrawn b c p
    l = cancel-withdrawn b p g m

    r : Settled c (settle c)
    r = settle_settled c l.w-loose l.w-counts

    gone : stands c.programs p ≡ Standing.Absent
    gone = ap (λ P. stands P p) l.w_programs ∙ ap (λ (q : Program). q.standing) (put_same b.programs p no_program
        g.loose.base.size m.is)

-- ── Any call ──

pub apply-accepted : (b : Board) (c : Call) → checked b c ≡ Ok tt → apply b c ≡ accepted b c
unfolding apply
apply-accepted b c e = ap (λ k. unless b k (accepted b c)) e

pub apply-refused : (b : Board) (c : Call) (r : Refusal) → checked b c ≡ Err r → apply b c ≡ refuse b r
unfolding apply
apply-refused b c r e = ap (λ k. unless b k (accepted b c)) e

-- what the call counts if it is accepted: 1 for a leave, and for a cancel that counts as one
abbrev pub leave_count : Board → Call → ℕ
leave_count b (Enter p v q j) = 0
leave_count b (Open p f) = 0
leave_count b (Close p f) = 0
leave_count b (Drop p f) = 0
leave_count b (Leave p) = 1
leave_count b (Cancel p) = cancel_count b p
leave_count b (Fetch p f r) = 0
leave_count b (Return p) = 0

-- the number of admitted programs that the call takes away if it is accepted
abbrev pub gone_with : Board → Call → ℕ
gone_with b (Enter p v q j) = 0
gone_with b (Open p f) = 0
gone_with b (Close p f) = 0
gone_with b (Drop p f) = 0
gone_with b (Leave p) = 1
gone_with b (Cancel p) = gone_count b p
gone_with b (Fetch p f r) = 0
gone_with b (Return p) = 0

-- the program that the call cancels; 0 for none
abbrev pub cancel_of : Call → ℕ
cancel_of (Enter p v q j) = 0
cancel_of (Open p f) = 0
cancel_of (Close p f) = 0
cancel_of (Drop p f) = 0
cancel_of (Leave p) = 0
cancel_of (Cancel p) = p
cancel_of (Fetch p f r) = 0
cancel_of (Return p) = 0

-- n for an accepted call
abbrev pub count_if : Check → ℕ → ℕ
count_if (Ok tt) n = n
count_if (Err r) n = 0

pub none_counted : (k : Check) → count_if k 0 ≡ 0
none_counted (Ok tt) = refl
none_counted (Err r) = refl

abbrev pub leaves_by : Board → Call → ℕ
leaves_by b c = count_if (checked b c) (leave_count b c)

abbrev pub gone_by : Board → Call → ℕ
gone_by b c = count_if (checked b c) (gone_with b c)

abbrev pub cancelled_by : Board → Call → ℕ
cancelled_by b c = count_if (checked b c) (cancel_of c)

accepted_stepped : (b : Board) (c : Call) → Good b → checked b c ≡ Ok tt → Stepped b (leave_count b c) (gone_with b c) (cancel_of c) (step_of
    (accepted b c))
accepted_stepped b (Enter p v q j) g e = enter_stepped b p v q j g (enter_may b p v q j e)
accepted_stepped b (Open p f) g e = open_stepped b p f g (open_may b p f e)
accepted_stepped b (Close p f) g e = close_stepped b p f g (close_may b p f e)
accepted_stepped b (Drop p f) g e = drop_stepped b p f g (open_may b p f e)
accepted_stepped b (Leave p) g e = leave_stepped b p g (leave_may b p e)
accepted_stepped b (Cancel p) g e = cancel_stepped b p g (cancel_may b p e)
accepted_stepped b (Fetch p f r) g e = fetch_stepped b p f r g (fetch_may b p f r e)
accepted_stepped b (Return p) g e = return_stepped b p g (return_may b p e)

refused_stepped : (b : Board) (r : Refusal) → Good b → Stepped b 0 0 0 (step_of (refuse b r))
unfolding refuse admits
refused_stepped b r g = stepped_reply b b 0 (Answer.Refuse r) [] (plain b b [] g (omega arith)
    (λ k m. absurd (Memᴰ.not-nil m)) refl refl refl (λ _. refl) (λ i j w. omega arith) (omega arith))

-- What a call makes of b, its checks having come to k.
abbrev Made : Board → Call → Check → Reply → Type 0
Made b c k r = Stepped b (count_if k (leave_count b c)) (count_if k (gone_with b c)) (count_if k (cancel_of c)) (step_of r)

-- Every call, accepted or refused, keeps a board sound.
pub apply_stepped : (b : Board) (c : Call) → Good b → Stepped b (leaves_by b c) (gone_by b c) (cancelled_by b c) (step_of (apply b c))
apply_stepped b c g = by_check (checked b c)
    (λ e. subst (Made b c (checked b c)) (sym (apply-accepted b c e)) (subst (λ k. Made b c k (accepted b c)) (sym e)
    (accepted_stepped b c g e)))
    (λ r e. subst (Made b c (checked b c)) (sym (apply-refused b c r e)) (subst (λ k. Made b c k (refuse b r)) (sym e)
    (refused_stepped b r g)))
