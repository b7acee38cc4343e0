-- Laws of lines of names, by sets of programs. Assumes nothing.
use Prim.Native.Nat.{ℕ, suc, ◌-◌, ◌<◌, ◌^◌}
use native.Mathlib.Nat.{le_antisymm}
use native.Mathlib.Omega.{arith}
use mathlib.Core.Path.{◌≡◌, refl, sym, ap, ap₂, ◌∙◌}
use mathlib.Core.Logic.{◌≢◌}
use mathlib.Core.Bool.{Bool, true, false, not, ◌&&◌, ◌||◌}
use mathlib.Core.List.Memᴰ
use mathlib.Core.List.{List, [], ◌∷◌}
use lib.Bits.{and_self}
use lib.Dec.{eqb}
use lib.ListN.{length, get_or, drop}
use borrow.Author.Tests.{eq-eqb, eqb-true, eqb-false}
use Rattle.files.specs.Bits.{has_bit, is_number, has_number, without_number}
use Rattle.laws.specs.Tests.{by_test, never, or_cases, or_left, or_right, and_left, and_right, and_both, no_true, not_true, true_not}
use Rattle.laws.specs.Tests.{same_test}
use Rattle.files.proofs.Bits.{zero_has, has-number, numbers_same, without-number-same, without-number-other}
use Rattle.laws.specs.Lists.{any, all, keep, listed, distinct, same, names, padded}
use Rattle.rules.specs.Boards.{is_program, everyone}
use Rattle.rules.specs.Soundness.{line_sound}
use Rattle.laws.specs.Laws.{◌∈◌, Pairs, NoRepeat, by_mem, here, all-each, each_all, listed-mem, mem-listed, distinct_once, once_distinct}
use Rattle.laws.specs.Laws.{any_same, all_same, keep_mem, mem_keep, no_longer, Pairs_keep, Pairs-map, rising_pairs}
use Rattle.theory.specs.Programs.{is_of, of_is, mem-everyone, everyone_is}
use Rattle.tables.specs.declared.ProgramSet.{ProgramSet}
use Rattle.tables.specs.ProgramSets.{has_program, without_program}
use Rattle.tables.specs.Tables.{packed}
use Rattle.tables.proofs.Laws.{packed-has}
use Rattle.search.proofs.Laws.{any_meets}
use Rattle.lines.proofs.Laws.{names-on}
use Rattle.sound.specs.Parts.{takes}

-- ---- names taken out of a set

-- the list has the programs of the set, each once
record Right (l : List ℕ) (s : ProgramSet) : Type 0 where
  only : (p : ℕ) → p ∈ l → has_program s p ≡ true
  every : (p : ℕ) → has_program s p ≡ true → p ∈ l
  once : NoRepeat l

none_has : (w k : ℕ) → has_number w 0 k ≡ false
none_has w k = by_test (is_number w k) (λ t. rw (t, zero_has (k - 1))) (λ t. rw t)

without_lt : (w m k n : ℕ) → m < n → without_number w m k < n
without_lt w m k n h = by_test (is_number w k)
    (λ t. by_test (has_bit m (k - 1)) (λ u. rw (t, u) (omega arith)) (λ u. rw (t, u) h)) (λ t. rw t h)

takes_right : (l : List ℕ) (s : ProgramSet) → takes l s ≡ true → Right l s
unfolding takes Pairs
takes_right [] s e = record {
  only = λ p m. absurd (Memᴰ.not-nil m);
  every = λ p d. never d (ap (λ (m : ℕ). has_number 32 m p) (eqb-true s.bits 0 e) ∙ none_has 32 p);
  once = tt;
}
takes_right (x ∷ l) s e =
    let a = and_left (has_program s x) (takes l (without_program s x)) e in
    let r = takes_right l (without_program s x) (and_right (has_program s x) (takes l (without_program s x)) e) in
    record {
      only = λ p m. by_test (eqb p x) (λ t. ap (has_program s) (eqb-true p x t) ∙ a)
          (λ t. let n = eqb-false p x t in by_mem m (λ d. absurd (n d))
          (λ k. sym (without-number-other 32 s.bits x p n) ∙ r.only p k));
      every = λ p d. by_test (eqb p x) (λ t. Memᴰ.head (eqb-true p x t))
          (λ t. Memᴰ.tail (r.every p (without-number-other 32 s.bits x p (eqb-false p x t) ∙ d)));
      once = (
        λ p m d. never (r.only p m) (ap (has_program (without_program s x)) (sym d) ∙ without-number-same 32 s.bits x),
        r.once,
      );
    }

right_takes : (l : List ℕ) (s : ProgramSet) → s.bits < 2 ^ 32 → Right l s → takes l s ≡ true
unfolding takes Pairs
right_takes [] s h r = eq-eqb s.bits 0 (numbers_same 32 s.bits 0 h (omega arith)
    (λ k. no_true (has_program s k) (λ e. Memᴰ.not-nil (r.every k e)) ∙ sym (none_has 32 k)))
right_takes (x ∷ l) s h r = and_both (has_program s x) (takes l (without_program s x)) (r.only x here)
    (right_takes l (without_program s x) (without_lt 32 s.bits x (2 ^ 32) h) (record {
      only = λ p m. without-number-other 32 s.bits x p (λ d. r.once.0 p m (sym d)) ∙ r.only p (Memᴰ.tail m);
      every = λ p e. let n : p ≢ x = λ d. never e (ap (has_program (without_program s x)) d ∙ without-number-same 32 s.bits x) in
          by_mem (r.every p (sym (without-number-other 32 s.bits x p n) ∙ e)) (λ d. absurd (n d)) (λ m. m);
      once = r.once.1;
    }))

-- the numbers take all programs out of the set exactly if they are its programs, each once
pub takes_is : (l : List ℕ) (s : ProgramSet) → s.bits < 2 ^ 32 → takes l s
    ≡ (all (λ p. is_program p && has_program s p) l && all (λ p. not (has_program s p) || listed p l) everyone && distinct l)
takes_is l s h = same_test (takes l s) (a && d && distinct l)
    (λ e. let r = takes_right l s e in and_both (a && d) (distinct l) (and_both a d
    (each_all (λ p. is_program p && has_program s p) l (λ p m. let u = r.only p m in
    and_both (is_program p) (has_program s p) (has-number 32 s.bits p u) u))
    (each_all (λ p. not (has_program s p) || listed p l) everyone (λ p m. by_test (has_program s p)
    (λ t. or_right (not (has_program s p)) (listed p l) (mem-listed p l (r.every p t)))
    (λ t. or_left (not (has_program s p)) (listed p l) (true_not (has_program s p) t)))))
    (once_distinct l r.once))
    (λ e. let f = all-each (λ p. is_program p && has_program s p) l (and_left a d (and_left (a && d) (distinct l) e)) in
    let g = all-each (λ p. not (has_program s p) || listed p l) everyone (and_right a d (and_left (a && d) (distinct l) e)) in
    right_takes l s h (record {
      only = λ p m. and_right (is_program p) (has_program s p) (f p m);
      every = λ p t. or_cases (not (has_program s p)) (listed p l) (g p (mem-everyone p (is_of p (has-number 32 s.bits p t))))
          (λ u. never t (not_true (has_program s p) u)) (listed-mem p l);
      once = distinct_once l (and_right (a && d) (distinct l) e);
    }))
  where
    a : Bool
    a = all (λ p. is_program p && has_program s p) l

    d : Bool
    d = all (λ p. not (has_program s p) || listed p l) everyone

-- ---- one name after another

module _ (l : List ℕ) (k : ℕ) (s : ProgramSet) where
  pub takes-on : k < length l → get_or l k 0 ≢ 0 → takes (names (drop k l)) s
      ≡ (has_program s (get_or l k 0) && takes (names (drop (suc k) l)) (without_program s (get_or l k 0)))
  unfolding takes
  takes-on h n = ap (λ (x : List ℕ). takes x s) (names-on l k h n)

  pub takes_none : names (drop k l) ≡ [] → takes (names (drop k l)) s ≡ eqb s.bits 0
  unfolding takes
  takes_none e = ap (λ (x : List ℕ). takes x s) e

-- ---- the set of those that pass a test

pub packed_is : (t : ℕ → Bool) (p : ℕ) → has_program (packed t 32) p ≡ (is_program p && t p)
packed_is t p = by_test (is_program p)
    (λ e. let c = is_of p e in packed-has t 32 p (omega arith) c.least c.most ∙ sym (ap (λ (x : Bool). x && t p) e))
    (λ e. rw e)

-- nobody is in the set if nobody passes
pub packed_any : (t : ℕ → Bool) → any t everyone ≡ not (eqb (packed t 32).bits 0)
unfolding any
packed_any t = any_same t (λ p. has_program (packed t 32) p && t p) everyone (λ p m. sym (twice (t p)
    (packed_is t p ∙ ap (λ (x : Bool). x && t p) (of_is p (everyone_is p m)))))
    ∙ any_meets (packed t 32) t ∙ ap (λ (x : ℕ). not (eqb x 0)) (and_self (packed t 32).bits)
  where
    twice : {a : Bool} (b : Bool) → a ≡ b → a && b ≡ b
    twice true e = rw e
    twice false e = rw e

-- a line is sound with the set if it is with the test
pub line-packed : (l : List ℕ) (t : ℕ → Bool) → line_sound l (has_program (packed t 32)) ≡ line_sound l t
unfolding line_sound
line-packed l t = ap₂ (λ (a b : Bool). a && b && distinct (names l) && same l (padded 0 (names l)))
    (all_same (λ p. is_program p && has_program (packed t 32) p) (λ p. is_program p && t p) (names l)
    (λ p m. ap (λ (x : Bool). is_program p && x) (packed_is t p) ∙ twice (is_program p) (t p)))
    (all_same (λ p. not (has_program (packed t 32) p) || listed p (names l)) (λ p. not (t p) || listed p (names l)) everyone
    (λ p m. ap (λ (x : Bool). not x || listed p (names l))
    (packed_is t p ∙ ap (λ (x : Bool). x && t p) (of_is p (everyone_is p m)))))
  where
    twice : (a b : Bool) → a && (a && b) ≡ a && b
    twice true b = refl
    twice false b = refl

-- numbers that take all programs out of the set are as many as those
pub takes_count : (l : List ℕ) (s : ProgramSet) → takes l s ≡ true → length l ≡ length (keep (has_program s) everyone)
unfolding everyone
takes_count l s e = let r = takes_right l s e in
    le_antisymm
    (no_longer l (keep (has_program s) everyone) r.once
    (λ p m. let h = r.only p m in mem_keep (has_program s) everyone p (mem-everyone p (is_of p (has-number 32 s.bits p h))) h))
    (no_longer (keep (has_program s) everyone) l
    (Pairs_keep _ (has_program s) everyone (Pairs-map everyone (λ a b m k l d. absurd (omega arith)) (rising_pairs 32 1)))
    (λ p m. r.every p (keep_mem (has_program s) everyone p m).1))
