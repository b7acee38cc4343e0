-- The programs on a board: admitted and held; settling leaves each that is there, and the board with nobody there is the empty one.
-- Assumes nothing.
use Rattle.std.specs.Prelude.{ℕ, suc, ◌+◌, ◌-◌, ◌≡◌, refl, ◌≢◌, Bool, true, false, not, List, [], ◌∷◌, eqb, length, get_or, replicate}
use Rattle.std.proofs.Common.{arith, sym, ◌∙◌, ap, subst, ext_get_or, eqb-true}
use mathlib.Core.List.Memᴰ
use Rattle.std.proofs.lemmas.List.{length-replicate, get_or-replicate}
use Rattle.std.proofs.lemmas.Bool.{eqb-false}
use Rattle.files.specs.declared.FileSet.{FileSet}
use Rattle.files.specs.Sets.{no_files}
use Rattle.laws.specs.Tests.{by_test, by_option, never, no_true, not_true, true_not}
use Rattle.rules.specs.declared.Standing.{Standing}
use Rattle.rules.specs.declared.Program.{Program}
use Rattle.rules.specs.declared.Board.{Board}
use Rattle.laws.specs.Lists.{keep, listed, without, names, padded}
use Rattle.rules.specs.Boards.{no_program, empty_board, is_absent, is_held, is_waiting, is_admitted, everyone, at, admitted, set_program}
use Rattle.rules.specs.Boards.{set_standing, set_claims, set_open, set_item}
use Rattle.rules.specs.declared.Mode.{Mode}
use Rattle.rules.specs.declared.Mode.TheVariants.{Write, Read, Inquiry}
use Rattle.rules.specs.Modes.{claim_of, open_of}
use Rattle.rules.specs.Settling.{pass, candidate, favour, overdue, admit_held, run_held, choose, settle}
use Rattle.laws.specs.Laws.{◌∈◌, NoRepeat, here, keep_mem, mem_keep, keep_but, Pairs_keep, Pairs-map, rising_pairs, listed-mem}
use Rattle.laws.specs.Laws.{mem-listed}
use Rattle.theory.specs.Order.{IsOrder}
use Rattle.theory.specs.Programs.{Is, mem-everyone, everyone_is, Progs, prog, Sized, sized_put, holds, is_in, ins, mem-ins, ins-mem, Own}
use Rattle.theory.specs.Loose.{stands, absent_is, held_is, waiting_in, OnLine, count_in, Loose, Counts, Good, test_put}
use Rattle.theory.specs.Records.{ItemOwn, out_item}
use Rattle.theory.specs.Settling.{Passed, pass-passed}
use Rattle.theory.specs.Sizes.{Counts32}
use Rattle.theory.specs.Rounds.{held, programs_on, is_present, present}

-- ── Who is there ──

abbrev pub absent_in : Progs → ℕ → Bool
absent_in P i = is_absent (stands P i)

-- The same programs are there.
abbrev pub SameThere : Progs → Progs → Type 0
SameThere P P' = (i : ℕ) → Is i → absent_in P' i ≡ absent_in P i

pub in_there : (s : Standing) → is_admitted s ≡ true → is_absent s ≡ false
in_there Standing.Absent e = never {t = false} e refl
in_there Standing.Running e = refl
in_there (Standing.Waiting f) e = refl
in_there Standing.Held e = refl

neither : (s : Standing) → is_admitted s ≡ false → is_held s ≡ false → is_absent s ≡ true
neither Standing.Absent a h = refl
neither Standing.Running a h = never {t = true} refl a
neither (Standing.Waiting f) a h = never {t = true} refl a
neither Standing.Held a h = never {t = true} refl h

-- ── The programs on a board ──

pub mem-present : (b : Board) (p : ℕ) → Is p → absent_in b.programs p ≡ false → p ∈ present b
unfolding present
mem-present b p c e = mem_keep (is_present b) everyone p (mem-everyone p c) (true_not (absent_in b.programs p) e)

pub present-mem : (b : Board) (p : ℕ) → p ∈ present b → Is p × (absent_in b.programs p ≡ false)
unfolding present
present-mem b p m = let (i, t) = keep_mem (is_present b) everyone p m in (everyone_is p i, not_true (absent_in b.programs p) t)

pub present_once : (b : Board) → NoRepeat (present b)
unfolding present everyone
present_once b = Pairs_keep _ (is_present b) everyone (Pairs-map everyone (λ a c _ _ l d. absurd (omega arith)) (rising_pairs 32 1))

in_not_held : (s : Standing) → is_admitted s ≡ true → is_held s ≡ false
in_not_held Standing.Absent e = refl
in_not_held Standing.Running e = refl
in_not_held (Standing.Waiting f) e = refl
in_not_held Standing.Held e = never {t = false} e refl

out_held : (s : Standing) → is_admitted s ≡ false → is_held s ≡ not (is_absent s)
out_held Standing.Absent e = refl
out_held Standing.Running e = never {t = true} refl e
out_held (Standing.Waiting f) e = never {t = true} refl e
out_held Standing.Held e = refl

count_both : (b : Board) (l : List ℕ)
    → length (keep (λ p. is_admitted (at b p).standing) l) + length (keep (λ p. is_held (at b p).standing) l) ≡ length (keep (is_present b) l)
unfolding keep
count_both b [] = refl
count_both b (x ∷ l) =
    let s = (at b x).standing in
    let r = count_both b l in
    by_test (is_admitted s)
    (λ t. rw (t, in_not_held s t, in_there s t) (omega arith))
    (λ t. by_test (is_held s)
    (λ u. rw (t, u, sym (out_held s t) ∙ u) (omega arith))
    (λ u. rw (t, u, sym (out_held s t) ∙ u) r))

-- The admitted and the held are those present.
pub programs_on_lem : (b : Board) → programs_on b ≡ length (present b)
unfolding admitted held present
programs_on_lem b = count_both b everyone

-- One program has gone, and the others are there as before.
pub one_gone : (b c : Board) (p : ℕ) → absent_in c.programs p ≡ true
    → ((i : ℕ) → Is i → i ≢ p → absent_in c.programs i ≡ absent_in b.programs i) → present c ≡ without p (present b)
unfolding present
one_gone b c p v f = keep_but (is_present b) (is_present c) p everyone (ap not v) (λ a m n. ap not (f a (everyone_is a m) n))

-- ── Settling leaves them there ──

pass_there : (b : Board) → Loose b → Counts b → SameThere b.programs (pass (names b.waiting) b).board.programs
pass_there b k n i j = by_test (listed i (names b.waiting))
    (λ t. let a = waiting_in (stands b.programs i) (k.waits.of i (listed-mem i (names b.waiting) t)).1 in
    let m = ins-mem (pass (names b.waiting) b).board.programs i (subst (λ l. i ∈ l) (sym r.same-ins) (mem-ins
    b.programs i j a)) in
    in_there (stands (pass (names b.waiting) b).board.programs i) m.1 ∙ sym (in_there (stands b.programs i) a))
    (λ t. ap (λ (q : Program). is_absent q.standing) (r.others i j (λ m. never (mem-listed i (names b.waiting) m) t)))
  where
    r : Passed b (names b.waiting) (pass (names b.waiting) b)
    r = pass-passed (names b.waiting) b k n k.waits.once k.waits.of

run_held_there : (hs : List ℕ) (b : Board) → Sized b.programs → ((p : ℕ) → p ∈ hs → Is p × (absent_in b.programs p ≡ false))
    → SameThere b.programs (run_held hs b).board.programs
unfolding run_held admit_held favour
run_held_there [] b z f i j = refl
run_held_there (p ∷ hs) b z f i j =
    let (c, a) = f p here in
    let x = set_standing (at b p) Standing.Running in
    let same : SameThere b.programs (set_program b p x).programs = test_put is_absent b.programs p x z c (sym a) in
    by_option (overdue b)
    (λ u. rw u (run_held_there hs (admit_held b p hs) (sized_put b.programs p x z)
    (λ q m. let (d, e) = f q (Memᴰ.tail m) in (d, same q d ∙ e)) i j ∙ same i j))
    (λ w u. rw u)

choose_there : (b : Board) → Loose b → SameThere b.programs (choose b).board.programs
unfolding choose favour
choose_there b k i j = by_test (eqb b.favoured 0)
    (λ t. by_option (candidate b)
    (λ u. rw (t, u) (run_held_there (names b.entry) b k.base.size (λ p m. let (c, h) = k.helds.of p m in
    (c, ap is_absent (held_is (stands b.programs p) h))) i j))
    (λ p u. rw (t, u)))
    (λ t. rw t)

pub settle_there : (b : Board) → Loose b → Counts b → SameThere b.programs (settle b).board.programs
unfolding settle
settle_there b k n i j = choose_there (pass (names b.waiting) b).board (pass-passed (names b.waiting) b k n k.waits.once
    k.waits.of).loose i j ∙ pass_there b k n i j

-- ── Nobody in an order: nobody there ──

-- With nobody admitted nobody is favoured.
unfavoured : (b : Board) → Good b → ((p : ℕ) → Is p → is_in b.programs p ≡ false) → b.favoured ≡ 0
unfavoured b g out = by_test (eqb b.favoured 0) (λ t. eqb-true b.favoured 0 t)
    (λ t. let (c, w) = g.loose.fav-waits (eqb-false b.favoured 0 t) in
    never (waiting_in (stands b.programs b.favoured) w) (out b.favoured c))

pub none_there : (b : Board) → Good b → IsOrder (holds b.programs) (ins b.programs) [] → (i : ℕ) → Is i
    → absent_in b.programs i ≡ true
none_there b g o i c = neither (stands b.programs i) (out i c) (g.free (unfavoured b g out) i c)
  where
    out : (p : ℕ) → Is p → is_in b.programs p ≡ false
    out p d = no_true (is_in b.programs p) (λ e. Memᴰ.not-nil (o.all p (mem-ins b.programs p d e)))

-- ── Nobody there: the empty board ──

empty_program : (c o : Mode → FileSet) (s : Standing) (f r : ℕ) → ((m : Mode) → c m ≡ no_files) → ((m : Mode) → o m ≡ no_files)
    → s ≡ Standing.Absent → f ≡ 0 → r ≡ 0 → set_item (set_standing (set_open (set_claims no_program c) o) s) f r ≡ no_program
empty_program c o s f r d e k h z = rw (d Write, d Read, d Inquiry, e Write, e Read, e Inquiry, k, h, z)

gone_program : (x : Program) → Own x → ItemOwn x → is_absent x.standing ≡ true → x ≡ no_program
gone_program x o i e = let s = absent_is x.standing e in let z = out_item x (ap is_admitted s) i in
    empty_program (λ m. claim_of m x) (λ m. open_of m x) x.standing x.file x.item (o.gone s) (o.idle (ap is_admitted s)) s
    (i.no_item z) z

empty_programs : (P : Progs) → Sized P → ((i : ℕ) → Is i → prog P i ≡ no_program) → P ≡ replicate 32 no_program
empty_programs P z f = ext_get_or no_program P (replicate 32 no_program) (z ∙ sym (length-replicate 32 no_program))
    (λ i l. let e : suc i - 1 ≡ i = omega arith in ap (λ k. get_or P k no_program) (sym e)
    ∙ f (suc i) (record { least = omega arith; most = omega arith }) ∙ sym (get_or-replicate 32 i no_program no_program (omega arith)))

no_names : (l : List ℕ) → ((p : ℕ) → p ∈ l → ⊥) → l ≡ []
no_names [] f = refl
no_names (x ∷ l) f = absurd (f x here)

empty_line : (l : List ℕ) (t : ℕ → Bool) → OnLine l t → ((p : ℕ) → Is p → t p ≡ false) → l ≡ replicate 32 0
unfolding padded
empty_line l t k f = k.form ∙ ap (padded 0) (no_names (names l) (λ p m. let (c, u) = k.of p m in never u (f p c)))

empty_counts : (C : List ℕ) → length C ≡ 32 → ((i : ℕ) → Is i → count_in C i ≡ 0) → C ≡ replicate 32 0
empty_counts C z f = ext_get_or 0 C (replicate 32 0) (z ∙ sym (length-replicate {A = ℕ} 32 0))
    (λ i l. let e : suc i - 1 ≡ i = omega arith in ap (λ k. get_or C k 0) (sym e)
    ∙ f (suc i) (record { least = omega arith; most = omega arith }) ∙ sym (get_or-replicate 32 i 0 0 (omega arith)))

empty_board_lem : (P : Progs) (w e C : List ℕ) (f n l : ℕ) → P ≡ replicate 32 no_program → w ≡ replicate 32 0 → e ≡ replicate 32 0 → f ≡ 0
    → n ≡ 0 → l ≡ 0 → C ≡ replicate 32 0
    → ◌≡◌ {A = Board} (record { programs = P; waiting = w; entry = e; favoured = f; initial = n; leaves = l; passed = C }) empty_board
empty_board_lem P w e C f n l a b c d i j k = rw (a, b, c, d, i, j, k)

-- "The empty board is a constant": the only sound board without programs.
pub is_empty_lem : (b : Board) → Good b → Counts32 b → ((i : ℕ) → Is i → absent_in b.programs i ≡ true) → b ≡ empty_board
is_empty_lem b g z h = empty_board_lem b.programs b.waiting b.entry b.passed b.favoured b.initial b.leaves
    (empty_programs b.programs g.loose.base.size
    (λ i c. gone_program (prog b.programs i) (g.loose.base.own i c) (g.counts.records.own i c) (h i c)))
    (empty_line b.waiting _ g.loose.waits (λ p c. ap is_waiting (absent_is (stands b.programs p) (h p c))))
    (empty_line b.entry _ g.loose.helds (λ p c. ap is_held (absent_is (stands b.programs p) (h p c))))
    nobody (g.loose.nobody nobody).0 (g.loose.nobody nobody).1
    (empty_counts b.passed z (λ p c. g.counts.counted.rest p c (ap is_waiting (absent_is (stands b.programs p) (h p c)))))
  where
    nobody : b.favoured ≡ 0
    nobody = unfavoured b g (λ p c. ap is_admitted (absent_is (stands b.programs p) (h p c)))

-- who is admitted and waits for nothing runs
pub in_runs : (s : Standing) → is_admitted s ≡ true → is_waiting s ≡ false → s ≡ Standing.Running
in_runs Standing.Absent a w = never {t = false} a refl
in_runs Standing.Running a w = refl
in_runs (Standing.Waiting f) a w = never {t = true} refl w
in_runs Standing.Held a w = never {t = false} a refl
