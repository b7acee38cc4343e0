-- The counts of waiting programs: what keeps them at most 8, and 0 for all who aren't waiting; and the ADMIT lines.
-- Assumes nothing.
use Rattle.std.specs.Prelude.{ℕ, zero, suc, ◌<◌, ◌+◌, ◌-◌, ◌≡◌, refl, ◌≢◌, true, false, cond, List, [], ◌∷◌, ◌++◌, map, eqb, length, get_or, set}
use Rattle.std.proofs.Common.{arith, sym, ◌∙◌, ap, get_or-set_other, eqb-true}
use Rattle.std.proofs.Math.Option.{none}
use mathlib.Core.List.Memᴰ
use Rattle.std.proofs.lemmas.Bool.{eqb-false}
use Rattle.laws.specs.Tests.{by_test, never, no_true}
use Rattle.rules.specs.declared.Board.{Board}
use Rattle.rules.specs.declared.Program.{Program}
use Rattle.rules.specs.declared.Word.{Word}
use Rattle.rules.specs.declared.Line.{Line}
use Rattle.laws.specs.Lists.{rising, names}
use Rattle.rules.specs.Boards.{is_waiting, is_admitted, everyone, at, passed_by, tallied}
use Rattle.rules.specs.Settling.{overdue}
use Rattle.rules.specs.Replies.{is_admit, admits}
use Rattle.laws.specs.Laws.{◌∈◌, here, first-none, length_without}
use Rattle.theory.specs.Programs.{Is, Progs, Sized, put, put_same, is_in, ins, mem-ins, ins_once, ins-before}
use Rattle.theory.specs.Loose.{waits_in, OnLine, count_in, Counted}

-- ── Counts that stay ──

-- Every waiter still waits.
pub counted_keep : (C : List ℕ) (P P' : Progs) → ((i : ℕ) → Is i → waits_in P i ≡ true → waits_in P' i ≡ true)
    → Counted C P → Counted C P'
counted_keep C P P' f k = record { most = k.most; rest = λ p i e. k.rest p i (no_true _ (λ t. never (f p i t) e)) }

-- ── A wait is over ──

set_zero : (C : List ℕ) (i : ℕ) → get_or (set C i 0) i 0 ≡ 0
set_zero [] i = refl
set_zero (x ∷ C) zero = refl
set_zero (x ∷ C) (suc i) = set_zero C i

uncount-same : (C : List ℕ) (p : ℕ) → count_in (set C (p - 1) 0) p ≡ 0
uncount-same C p = set_zero C (p - 1)

pub uncount-other : (C : List ℕ) (p i : ℕ) → Is p → Is i → i ≢ p → count_in (set C (p - 1) 0) i ≡ count_in C i
uncount-other C p i c d n = get_or-set_other C (p - 1) (i - 1) 0 0 (let a = c.least in let b = d.least in λ e. n (omega arith))

-- The others that waited still wait.
pub counted_stop : (C : List ℕ) (P P' : Progs) (p : ℕ) → Is p → ((i : ℕ) → Is i → i ≢ p → waits_in P i ≡ true → waits_in P' i ≡ true)
    → Counted C P → Counted (set C (p - 1) 0) P'
counted_stop C P P' p c f k = record {
  most = λ i j. by_test (eqb i p)
      (λ t. let d = ap (count_in (set C (p - 1) 0)) (eqb-true i p t) ∙ uncount-same C p in omega arith)
      (λ t. let d = uncount-other C p i c j (eqb-false i p t) in let m = k.most i j in omega arith);
  rest = λ i j e. by_test (eqb i p)
      (λ t. ap (count_in (set C (p - 1) 0)) (eqb-true i p t) ∙ uncount-same C p)
      (λ t. let n = eqb-false i p t in uncount-other C p i c j n ∙ k.rest i j (no_true _ (λ w. never (f i j n w) e)));
}

-- ── One more is admitted ──

map-rising : (f : ℕ → ℕ) (n k i : ℕ) → i < n → get_or (map f (rising n k)) i 0 ≡ f (k + i)
unfolding rising
map-rising f zero k i h = absurd (omega arith)
map-rising f (suc n) k zero h = ap f (let e : k ≡ k + 0 = omega arith in e)
map-rising f (suc n) k (suc i) h = map-rising f n (suc k) i (omega arith) ∙ ap f (let e : suc k + i ≡ k + suc i = omega arith in e)

pub tallied-at : (b : Board) (p : ℕ) → Is p → count_in (tallied b) p ≡ cond (is_waiting (at b p).standing) (passed_by b p + 1) 0
unfolding tallied everyone
tallied-at b p c = map-rising (λ q. cond (is_waiting (at b q).standing) (passed_by b q + 1) 0) 32 1 (p - 1)
    (let m = c.most in let n = c.least in omega arith)
    ∙ ap (λ q. cond (is_waiting (at b q).standing) (passed_by b q + 1) 0) (let n = c.least in let e : 1 + (p - 1) ≡ p = omega arith in e)

pub tallied_waits : (b : Board) (p : ℕ) → Is p → waits_in b.programs p ≡ true → count_in (tallied b) p ≡ count_in b.passed p + 1
tallied_waits b p c w = tallied-at b p c ∙ rw w

tallied-rest : (b : Board) (p : ℕ) → Is p → waits_in b.programs p ≡ false → count_in (tallied b) p ≡ 0
tallied-rest b p c w = tallied-at b p c ∙ rw w

-- No waiter's count is 8.
none-overdue : (b : Board) (p : ℕ) → overdue b ≡ none → p ∈ names b.waiting → count_in b.passed p ≢ 8
unfolding overdue
none-overdue b p e m = eqb-false (passed_by b p) 8 (first-none (λ q. eqb (passed_by b q) 8) (names b.waiting) e p m)

-- c is b with one more program, which does not wait: where no count was 8, none is above 8.
pub counted_tally : (b c : Board) → overdue b ≡ none → OnLine b.waiting (waits_in b.programs) → c.passed ≡ b.passed
    → ((i : ℕ) → Is i → waits_in c.programs i ≡ waits_in b.programs i) → Counted b.passed b.programs → Counted (tallied c) c.programs
counted_tally b c e l d f k = record {
  most = λ i j. by_test (waits_in c.programs i)
      (λ t. let x = tallied_waits c i j t in let y = ap (λ C. count_in C i) d in
      let n = none-overdue b i e (l.on i j (sym (f i j) ∙ t)) in let m = k.most i j in omega arith)
      (λ t. let x = tallied-rest c i j t in omega arith);
  rest = tallied-rest c;
}

-- ── The ADMIT lines ──

pub admits-append : (l m : List Line) → admits (l ++ m) ≡ admits l + admits m
unfolding admits
admits-append [] m = omega arith
admits-append (x ∷ l) m = let i = admits-append l m in omega arith

pub admits-none : (l : List Line) → ((k : Line) → k ∈ l → k.word ≡ Word.Given) → admits l ≡ 0
unfolding admits
admits-none [] f = refl
admits-none (x ∷ l) f = let i = admits-none l (λ k m. f k (Memᴰ.tail m)) in
    let d : ◌≡◌ {A = ℕ} (cond (is_admit x.word) 1 0) 0 = ap (λ w. cond (is_admit w) 1 0) (f x here) in omega arith

-- One more program is admitted.
pub length_in_lem : (P : Progs) (p : ℕ) (x : Program) → Sized P → Is p → is_in P p ≡ false → is_admitted x.standing ≡ true
    → length (ins (put P p x)) ≡ length (ins P) + 1
length_in_lem P p x z c out e = let d = length_without p (ins (put P p x)) (ins_once (put P p x))
    (mem-ins (put P p x) p c (ap (λ (y : Program). is_admitted y.standing) (put_same P p x z c) ∙ e)) in
    let i = ap length (ins-before P p x c out) in omega arith
