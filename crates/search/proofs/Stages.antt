-- A decision tests each ordered pair at most once. Assumes nothing.
use mathlib.Core.Path.{◌≡◌, refl, sym, ap, ◌∙◌}
use mathlib.Core.Bool.{Bool, true, false, ◌&&◌, ◌||◌}
use mathlib.Core.Option.{Option, get_or}
use Prim.Native.Nat.{ℕ, zero, suc, ◌+◌, ◌-◌, ◌^◌, ◌≤◌, ◌<◌}
use native.Mathlib.Omega.{arith}
use lib.Dec.{eqb, ltb}
use lib.ListN.{length}
use borrow.Author.Tests.{eqb-true, eqb-false, ltb-true, ltb-false}
use Rattle.store.specs.Sets.{Sets}
use Rattle.laws.specs.Tests.{by_test, never, no_true, and_left, and_right, or_cases, or_left, or_right}
use lib.Bits.{or_zero_l}
use Rattle.files.specs.Bits.{is_number}
use Rattle.files.proofs.Bits.{is_number_lem, with_same, with_number-same, with_number-other, without-number-same}
use Rattle.laws.specs.Lists.{keep}
use Rattle.rules.specs.Boards.{everyone}
use Rattle.theory.specs.Programs.{mem-everyone}
use Rattle.tables.specs.declared.ProgramSet.{ProgramSet}
use Rattle.tables.specs.ProgramSets.{no_programs, has_program, with_program, without_program, union_of, less_of, lowest_of}
use Rattle.tables.proofs.Laws.{first_at, union_has, none_has}
use Rattle.tables.proofs.Walk.{rest_more}
use Rattle.search.specs.Stages.{Stage, asked, stage, TestedOnce}
use Rattle.search.proofs.Laws.{low, high}
use Rattle.search.proofs.Backers.{keep-covers}
use Rattle.search.proofs.Closing.{more, of-more, of-less, more-gone, still-gone}

-- who is found is not in the rest
abbrev pub Apart : Stage → Type 0
Apart s = (x : ℕ) → has_program s.found x ≡ true → has_program s.rest x ≡ false

-- x may still be asked about
abbrev pub to_ask : Stage → ℕ → Bool
to_ask s x = has_program s.found x || has_program s.rest x

module _ (sets : Sets) (q : ℕ) (s : Stage) (a : Apart s) where
  abbrev m : ProgramSet
  m = more sets q s.rest

  found_cases : {C : Type 0} (x : ℕ) → has_program (asked sets q s).found x ≡ true → (has_program (without_program s.found q) x ≡ true → C)
      → (has_program m x ≡ true → C) → C
  found_cases x e f g = or_cases (has_program (without_program s.found q) x) (has_program m x)
      (sym (union_has (without_program s.found q) m x) ∙ e) f g

  was-found : (x : ℕ) → has_program (without_program s.found q) x ≡ true → has_program s.found x ≡ true
  was-found x t = rest_more s.found s.found q (λ z w. w) x t

  pub apart_next : Apart (asked sets q s)
  apart_next x e = found_cases x e (λ t. still-gone sets q s.rest x (a x (was-found x t))) (λ t. more-gone sets q s.rest x t)

  -- nobody comes back
  open_before : (x : ℕ) → to_ask (asked sets q s) x ≡ true → to_ask s x ≡ true
  open_before x e = or_cases (has_program (asked sets q s).found x) (has_program (asked sets q s).rest x) e
      (λ u. found_cases x u (λ t. or_left (has_program s.found x) _ (was-found x t))
      (λ t. or_right (has_program s.found x) _ (of-more sets q s.rest x t).0))
      (λ u. or_right (has_program s.found x) _ (of-less sets q s.rest x u))

  -- nor q itself, once it is asked about
  closed_after : has_program s.found q ≡ true → to_ask (asked sets q s) q ≡ false
  closed_after e = no_true (to_ask (asked sets q s) q) (λ d. or_cases (has_program (asked sets q s).found q) (has_program (asked sets q s).rest q) d
      (λ u. found_cases q u (λ t. never t (without-number-same 32 s.found.bits q)) (λ t. never (of-more sets q s.rest q t).0 (a q e)))
      (λ u. never (of-less sets q s.rest q u) (a q e)))

  fewer : has_program s.found q ≡ true → length (keep (to_ask (asked sets q s)) everyone) < length (keep (to_ask s) everyone)
  fewer e = by_test (ltb (length (keep (to_ask (asked sets q s)) everyone)) (length (keep (to_ask s) everyone))) (λ t. ltb-true _ _ t)
      (λ t. never (keep-covers (to_ask (asked sets q s)) (to_ask s) everyone (λ x i. open_before x) (ltb-false _ _ t) q
      (mem-everyone q (record { least = low s.found q e; most = high s.found q e })) (or_left (has_program s.found q) _ e)) (closed_after e))

  -- and they get fewer
  pub fewer_to_ask : has_program s.found q ≡ true → (l r : ProgramSet) → l ≡ (asked sets q s).found → r ≡ (asked sets q s).rest
      → length (keep (to_ask (record { found = l; rest = r })) everyone) < length (keep (to_ask s) everyone)
  fewer_to_ask e l r i j = rw (i, j) (fewer e)

module _ (sets : Sets) (a : ProgramSet) (p : ℕ) where
  abbrev at : ℕ → Stage
  at k = stage sets a p k

  pub apart : (k : ℕ) → Apart (at k)
  unfolding stage
  apart zero x e = by_test (eqb x p)
      (λ t. let z : x ≡ p = eqb-true x p t in ap (has_program (without_program a p)) z ∙ without-number-same 32 a.bits p)
      (λ t. never e (with_number-other 32 no_programs.bits p x (eqb-false x p t) ∙ none_has x))
  apart (suc k) x e = apart_next sets (lowest_of (at k).found) (at k) (apart k) x e

  -- after p itself was asked about
  pub stage-first : 1 ≤ p → p ≤ 32 → ((at 1).found ≡ more sets p (without_program a p))
      × ((at 1).rest ≡ less_of (without_program a p) (more sets p (without_program a p)))
  unfolding stage lowest_of everyone
  stage-first h k = rw lowest-one (
    ap (λ (s : ProgramSet). union_of s (more sets p (without_program a p))) none ∙ ap {B = ProgramSet} (λ x. record { bits = x }) (or_zero_l _),
    refl,
  )
    where
      one : is_number 32 p ≡ true
      one = is_number_lem 32 p h k

      lowest-one : lowest_of (with_program no_programs p) ≡ p
      lowest-one = ap (λ (o : Option ℕ). get_or o 0) (first_at (has_program (with_program no_programs p)) 32 1 p h (omega arith)
          (with_number-same 32 0 p one) (λ q i m. with_number-other 32 0 p q (omega arith) ∙ none_has q))

      none : without_program (with_program no_programs p) p ≡ no_programs
      none = ap {B = ProgramSet} (λ x. record { bits = x }) (rw (one, with_same 0 (p - 1), or_zero_l (2 ^ (p - 1))) (omega arith))

  -- after q, the lowest found, was asked about
  pub stage-next : (k : ℕ) (found rest : ProgramSet) (q : ℕ) → found ≡ (at k).found → rest ≡ (at k).rest → q ≡ lowest_of found
      → ((asked sets q (record { found = found; rest = rest })).found ≡ (at (suc k)).found)
      × ((asked sets q (record { found = found; rest = rest })).rest ≡ (at (suc k)).rest)
  unfolding stage
  stage-next k found rest q e d z = rw (z, e, d) (refl, refl)

  open_next : (k x : ℕ) → to_ask (at (suc k)) x ≡ true → to_ask (at k) x ≡ true
  unfolding stage
  open_next k x e = open_before sets (lowest_of (at k).found) (at k) (apart k) x e

  closed-next : (k q : ℕ) → has_program (at k).found q ≡ true → q ≡ lowest_of (at k).found → to_ask (at (suc k)) q ≡ false
  unfolding stage
  closed-next k q e z = ap (λ (y : ℕ). to_ask (asked sets y (at k)) q) (sym z) ∙ closed_after sets q (at k) (apart k) e

  stays_closed : (d k q : ℕ) → to_ask (at k) q ≡ false → to_ask (at (k + d)) q ≡ false
  stays_closed zero k q e = let z : k + 0 ≡ k = omega arith in rw z e
  stays_closed (suc d) k q e = let z : k + suc d ≡ suc (k + d) = omega arith in
      rw z (no_true (to_ask (at (suc (k + d))) q) (λ u. never (open_next (k + d) q u) (stays_closed d k q e)))

  abbrev asks : ℕ → ℕ → Bool
  asks k q = has_program (at k).found q && eqb q (lowest_of (at k).found)

  -- q is asked about once
  not_again : (j k q : ℕ) → j < k → asks j q ≡ true → asks k q ≡ true → ⊥
  not_again j k q h e d =
      let z : suc j + (k - suc j) ≡ k = omega arith in
      let c = closed-next j q (and_left (has_program (at j).found q) _ e) (eqb-true q _ (and_right (has_program (at j).found q) _ e)) in
      let n : to_ask (at k) q ≡ false = rw z at (stays_closed (k - suc j) (suc j) q c) in
      never (or_left (has_program (at k).found q) (has_program (at k).rest q) (and_left (has_program (at k).found q) _ d)) n

  pub tested-once : TestedOnce sets a p
  tested-once = (
    λ j k x q e d. let u = and_left (asks j q) (has_program (at j).rest x) e in let v = and_left (asks k q) (has_program (at k).rest x) d in
        by_test (ltb j k) (λ t. absurd (not_again j k q (ltb-true j k t) u v))
        (λ t. by_test (ltb k j) (λ w. absurd (not_again k j q (ltb-true k j w) v u))
        (λ w. let h = ltb-false j k t in let l = ltb-false k j w in omega arith)),
    λ k x q e z. let u = and_left (has_program (at k).found q) _ (and_left (asks k q) (has_program (at k).rest x) e) in
        never (ap (has_program (at k).rest) (sym z) ∙ and_right (asks k q) (has_program (at k).rest x) e) (apart k q u),
  )
