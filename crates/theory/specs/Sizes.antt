-- The counts stay 32 in number, whatever call is made.
-- Assumes nothing.
use Rattle.std.specs.Prelude.{ℕ, ◌-◌, ◌≡◌, ◌&&◌, List, [], ◌∷◌, eqb}
use Rattle.std.proofs.Common.{◌∙◌, ap}
use lib.ListN.{length, length-map, length-set}
use Rattle.laws.specs.Tests.{by_test, by_option}
use Rattle.files.specs.declared.FileSet.{FileSet}
use Rattle.rules.specs.declared.Standing.{Standing}
use Rattle.rules.specs.declared.Board.{Board}
use Rattle.rules.specs.declared.Reply.{Reply}
use Rattle.laws.specs.Lists.{first, names}
use Rattle.rules.specs.Boards.{everyone, at, awaited, wants, tallied}
use Rattle.rules.specs.Orders.{with_given, in_use, safe, can_give, taken}
use Rattle.rules.specs.Settling.{unfavour, resume, try_give, pass, hand_to, hand_on, candidate, favour, overdue, admit_held, run_held, choose, settle}
use Rattle.rules.specs.Replies.{reply, refuse}
use Rattle.rules.specs.Calls.{admit, hold, hold_for, enter, wait, open_file, done, close_file, drop_file, count_leave, leave, count_cancel}
use Rattle.rules.specs.Calls.{wait_item, fetch, finish, return_item, Fetch, Return}
use Rattle.rules.specs.Calls.{withdrawn, cancel, Call, Enter, Open, Close, Drop, Leave, Cancel, checked, accepted, apply}
use Rattle.laws.specs.Laws.{length-rising}
use Rattle.theory.specs.Calls.{by_check, apply-accepted, apply-refused}

-- A board has 32 counts.
abbrev pub Counts32 : Board → Type 0
Counts32 b = length b.passed ≡ 32

pub tallied_32 : (b : Board) → length (tallied b) ≡ 32
unfolding tallied everyone
tallied_32 b = length-map everyone _ ∙ length-rising 32 1

uncount_32 : (c : List ℕ) (p : ℕ) → length c ≡ 32 → length (lib.ListN.set c (p - 1) 0) ≡ 32
uncount_32 c p z = length-set c (p - 1) 0 ∙ z

-- ── Settling ──

give_32 : (b : Board) (p f : ℕ) → Counts32 b → Counts32 (try_give b p f).board
unfolding try_give unfavour resume with_given
give_32 b p f z = by_test (eqb (at b p).item 0 && can_give b p f)
    (λ t. by_test (eqb b.favoured p) (λ u. rw (t, u) (uncount_32 b.passed p z)) (λ u. rw (t, u) (uncount_32 b.passed p z)))
    (λ t. rw t z)

pass_32 : (ps : List ℕ) (b : Board) → Counts32 b → Counts32 (pass ps b).board
unfolding pass
pass_32 [] b z = z
pass_32 (p ∷ ps) b z = pass_32 ps (try_give b p (awaited b p)).board (give_32 b p (awaited b p) z)

hand_32 : (b : Board) (f r : ℕ) → Counts32 b → Counts32 (hand_on b f r).board
unfolding hand_on hand_to unfavour resume
hand_32 b f r z = by_option (first (λ w. wants (at b w) f r) (names b.waiting)) (λ e. rw e z)
    (λ w e. by_test (eqb b.favoured w) (λ u. rw (e, u) (uncount_32 b.passed w z)) (λ u. rw (e, u) (uncount_32 b.passed w z)))

run_32 : (ps : List ℕ) (b : Board) → Counts32 b → Counts32 (run_held ps b).board
unfolding run_held admit_held favour
run_32 [] b z = z
run_32 (p ∷ ps) b z = by_option (overdue b) (λ u. rw u (run_32 ps (admit_held b p ps) (tallied_32 _))) (λ w u. rw u z)

choose_32 : (b : Board) → Counts32 b → Counts32 (choose b).board
unfolding choose favour
choose_32 b z = by_test (eqb b.favoured 0)
    (λ t. by_option (candidate b) (λ u. rw (t, u) (run_32 (names b.entry) b z)) (λ p u. rw (t, u) z))
    (λ t. rw t z)

settle_32 : (b : Board) → Counts32 b → Counts32 (settle b).board
unfolding settle
settle_32 b z = choose_32 (pass (names b.waiting) b).board (pass_32 (names b.waiting) b z)

-- ── The calls ──

enter_32 : (b : Board) (p : ℕ) (v q j : FileSet) → Counts32 b → Counts32 (enter b p v q j).board
unfolding enter admit hold hold_for favour reply
enter_32 b p v q j z = by_test (eqb b.favoured 0)
    (λ t. by_option (overdue b) (λ u. rw (t, u) (tallied_32 _)) (λ w u. rw (t, u) z))
    (λ t. rw t z)

open_32 : (b : Board) (p f : ℕ) → Counts32 b → Counts32 (open_file b p f).board
unfolding open_file wait with_given reply
open_32 b p f z = by_test (in_use b p f) (λ t. rw t z) (λ t. by_test (safe b p f) (λ u. rw (t, u) z) (λ u. rw (t, u) z))

fetch_32 : (b : Board) (p f r : ℕ) → Counts32 b → Counts32 (fetch b p f r).board
unfolding fetch wait_item reply
fetch_32 b p f r z = by_test (taken b p f r) (λ t. rw t z) (λ t. rw t z)

count_32 : (b : Board) → Counts32 b → Counts32 (count_leave b)
unfolding count_leave
count_32 b z = by_test (eqb b.favoured 0) (λ t. rw t z) (λ t. rw t z)

withdrawn_32 : (b : Board) (p : ℕ) (s : Standing) → Counts32 b → Counts32 (withdrawn b p s)
unfolding count_cancel count_leave
withdrawn_32 b p Standing.Absent z = z
withdrawn_32 b p Standing.Running z = z
withdrawn_32 b p (Standing.Waiting f) z =
    let y = uncount_32 b.passed p z in
    by_test (eqb b.favoured p) (λ t. rw t y) (λ t. by_test (eqb b.favoured 0) (λ u. rw (t, u) y) (λ u. rw (t, u) y))
withdrawn_32 b p Standing.Held z = z

accepted_32 : (b : Board) (c : Call) → Counts32 b → Counts32 (accepted b c).board
unfolding close_file drop_file leave cancel done finish return_item reply
accepted_32 b (Enter p v q j) z = enter_32 b p v q j z
accepted_32 b (Open p f) z = open_32 b p f z
accepted_32 b (Close p f) z = settle_32 _ z
accepted_32 b (Drop p f) z = settle_32 _ z
accepted_32 b (Leave p) z = settle_32 _ (hand_32 _ (at b p).file (at b p).item (count_32 _ z))
accepted_32 b (Cancel p) z = settle_32 _ (withdrawn_32 b p (at b p).standing z)
accepted_32 b (Fetch p f r) z = fetch_32 b p f r z
accepted_32 b (Return p) z = settle_32 _ (hand_32 _ (at b p).file (at b p).item z)

pub apply_32 : (b : Board) (c : Call) → Counts32 b → Counts32 (apply b c).board
unfolding refuse reply
apply_32 b c z = by_check (checked b c)
    (λ e. ap (λ (r : Reply). length r.board.passed) (apply-accepted b c e) ∙ accepted_32 b c z)
    (λ r e. ap (λ (q : Reply). length q.board.passed) (apply-refused b c r e) ∙ z)
