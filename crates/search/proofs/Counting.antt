-- Laws of the counts: one taken out of those left, counts made and counts lowered. Assumes nothing.
use mathlib.Core.Path.{◌≡◌, refl, sym, ap, ◌∙◌}
use mathlib.Core.Bool.{Bool, true, false, not, cond, ◌&&◌}
use mathlib.Core.List.{List, [], ◌∷◌}
use Prim.Native.Nat.{ℕ, suc, ◌+◌, ◌-◌, ◌≤◌, ◌<◌}
use native.Mathlib.Omega.{arith}
use lib.Dec.{eqb}
use lib.ListN.{length, get_or, replicate, length-replicate, get_or-replicate}
use lib.Seq.{ext_get_or}
use Rattle.laws.specs.Tests.{by_test, never, and_left, and_right, and_true, and_false}
use Rattle.laws.specs.Lists.{rising, keep, without}
use Rattle.rules.specs.Boards.{everyone}
use Rattle.laws.specs.Laws.{NoRepeat, keep_mem, mem_keep, length_keep, length-rising, Pairs_keep, Pairs-map, rising_pairs, length_without, without_absent}
use Rattle.theory.specs.Programs.{mem-everyone}
use Rattle.tables.specs.declared.ProgramSet.{ProgramSet}
use Rattle.tables.specs.ProgramSets.{has_program, without_program, common_of}
use Rattle.tables.specs.Tables.{row_of}
use Rattle.tables.proofs.Laws.{places-length, places-at, common_has}
use Rattle.tables.proofs.Walk.{Rest, rest_more, none_left}
use Rattle.search.specs.Counts.{those, held_count, count_of, counts_of, Counted, changed, raised, lowered, CanRaise, CanLower}
use Rattle.search.proofs.Laws.{low, high, left_without}

programs_once : (l : ProgramSet) → NoRepeat (those l)
unfolding everyone
programs_once l = Pairs_keep _ (has_program l) (rising 32 1) (Pairs-map (rising 32 1) (λ a b m k u d. absurd (omega arith)) (rising_pairs 32 1))

keep_swap : (s t : ℕ → Bool) (l : List ℕ) → keep t (keep s l) ≡ keep s (keep t l)
unfolding keep
keep_swap s t [] = refl
keep_swap s t (x ∷ l) = by_test (s x)
    (λ y. by_test (t x) (λ z. rw (y, z, y) (ap (x ∷◌) (keep_swap s t l))) (λ z. rw (y, z) (keep_swap s t l)))
    (λ y. by_test (t x) (λ z. rw (y, z, y) (keep_swap s t l)) (λ z. rw (y, z) (keep_swap s t l)))

-- ---- one is taken out of those left

module _ (rows : List ℕ) (l : ProgramSet) (p : ℕ) (e : has_program l p ≡ true) (q : ℕ) where
  abbrev holds : ℕ → Bool
  holds i = has_program (row_of rows i) q

  swapped : length (without p (keep holds (those l))) ≡ held_count rows (without_program l p) q
  unfolding without
  swapped = ap length (keep_swap holds (λ x. not (eqb x p)) (those l) ∙ ap (keep holds) (left_without l p))

  -- it holds q back
  in_row : has_program (row_of rows p) q ≡ true → held_count rows l q ≡ suc (held_count rows (without_program l p) q)
  in_row t = length_without p (keep holds (those l)) (Pairs_keep _ holds (those l) (programs_once l))
      (mem_keep holds (those l) p (mem_keep (has_program l) everyone p (mem-everyone p (record { least = low l p e; most = high l p e })) e) t)
      ∙ ap suc swapped

  -- it does not
  out-of-row : has_program (row_of rows p) q ≡ false → held_count rows l q ≡ held_count rows (without_program l p) q
  out-of-row t = ap length (sym (without_absent p (keep holds (those l)) (λ m. never (keep_mem holds (those l) p m).1 t))) ∙ swapped

-- ---- counts of a set, changed

module _ (g : ℕ → ℕ) (s : ProgramSet) (counts : List ℕ) where
  changed-length : length (changed g s counts) ≡ 32
  changed-length = places-length _ 32 0

  changed-at : (p : ℕ) → 1 ≤ p → p ≤ 32 → count_of (changed g s counts) p ≡ cond (has_program s p) (g (count_of counts p)) (count_of counts p)
  changed-at p h k = let z : 0 + (p - 1) ≡ p - 1 = omega arith in let w : suc (p - 1) ≡ p = omega arith in
      places-at _ 32 0 (p - 1) (omega arith)
      ∙ ap (λ (i : ℕ). cond (has_program s (suc i)) (g (get_or counts i 0)) (get_or counts i 0)) z
      ∙ ap (λ (i : ℕ). cond (has_program s i) (g (count_of counts p)) (count_of counts p)) w

-- of q, one of u, with those of u that are in a row changed
row-changed : (g : ℕ → ℕ) (row u : ProgramSet) (counts : List ℕ) (q : ℕ) → has_program u q ≡ true
    → count_of (changed g (common_of row u) counts) q ≡ cond (has_program row q) (g (count_of counts q)) (count_of counts q)
row-changed g row u counts q e =
    let d : (has_program row q && has_program u q) ≡ has_program row q = rw e (and_true (has_program row q)) in
    changed-at g (common_of row u) counts q (low u q e) (high u q e)
    ∙ ap (λ (t : Bool). cond t (g (count_of counts q)) (count_of counts q)) (common_has row u q ∙ d)

keep_none : (t : ℕ → Bool) (m : List ℕ) → ((x : ℕ) → t x ≡ false) → length (keep t m) ≡ 0
unfolding keep
keep_none t [] f = refl
keep_none t (x ∷ m) f = rw (f x) (keep_none t m f)

-- ---- the counts of all that are left

counts-at : (rows : List ℕ) (l : ProgramSet) (i : ℕ) → i < 32 → get_or (counts_of rows l) i 0 ≡ cond (has_program l (suc i)) (held_count rows l (suc i)) 0
unfolding counts_of
counts-at rows l i h = let z : 0 + i ≡ i = omega arith in places-at _ 32 0 i h
    ∙ ap (λ (x : ℕ). cond (has_program l (suc x)) (held_count rows l (suc x)) 0) z

pub counts_right : (rows : List ℕ) (l : ProgramSet) → Counted rows l (counts_of rows l)
unfolding counts_of
counts_right rows l = (
  places-length _ 32 0,
  λ p e. let z : suc (p - 1) ≡ p = let h = low l p e in omega arith in
      counts-at rows l (p - 1) (let h = low l p e in let k = high l p e in omega arith)
      ∙ ap (λ (x : ℕ). cond (has_program l x) (held_count rows l x) 0) z ∙ rw e,
)

-- ---- counts made: those of `rest` are not counted yet

abbrev pub CountedBut : List ℕ → ProgramSet → ProgramSet → List ℕ → Type 0
CountedBut rows l rest counts = Rest l rest × (length counts ≡ 32)
    × ((q : ℕ) → has_program l q ≡ true → count_of counts q + held_count rows rest q ≡ held_count rows l q)
    × ((q : ℕ) → 1 ≤ q → q ≤ 32 → has_program l q ≡ false → count_of counts q ≡ 0)

module _ (rows : List ℕ) (l : ProgramSet) where
  held-most : (q : ℕ) → held_count rows l q ≤ 32
  unfolding everyone
  held-most q = omega (arith, length_keep (λ i. has_program (row_of rows i) q) (those l), length_keep (has_program l) (rising 32 1), length-rising 32 1)

  pub counting_start : (counts : List ℕ) → counts ≡ replicate 32 0 → CountedBut rows l l counts
  counting_start counts e = (
    λ x d. d,
    ap length e ∙ length-replicate {A = ℕ} 32 0,
    λ q d. omega (arith, zero q (low l q d) (high l q d)),
    λ q h k d. zero q h k,
  )
    where
      zero : (q : ℕ) → 1 ≤ q → q ≤ 32 → count_of counts q ≡ 0
      zero q h k = ap (λ (c : List ℕ). count_of c q) e ∙ get_or-replicate 32 (q - 1) 0 0 (omega arith)

  module _ (rest : ProgramSet) (counts : List ℕ) (c : CountedBut rows l rest counts) where
    pub can_raise : (row : ProgramSet) → CanRaise (common_of row l) counts
    can_raise row = (
      c.1,
      λ q e. let d = and_right (has_program row q) (has_program l q) (sym (common_has row l q) ∙ e) in
          omega (arith, c.2 q d, held-most q),
    )

    -- of one that is not left nothing changes
    not_raised : (row : ProgramSet) (q : ℕ) → 1 ≤ q → q ≤ 32 → has_program l q ≡ false → count_of (changed (λ n. n + 1) (common_of row l) counts) q ≡ 0
    not_raised row q h k d = changed-at (λ n. n + 1) (common_of row l) counts q h k
        ∙ rw (common_has row l q ∙ ap (λ (t : Bool). has_program row q && t) d ∙ and_false (has_program row q)) (c.3 q h k d)

    pub counting_more : (p : ℕ) → has_program rest p ≡ true → CountedBut rows l (without_program rest p) (raised (common_of (row_of rows p) l) counts)
    unfolding raised
    counting_more p e = (
      rest_more l rest p c.0,
      changed-length (λ n. n + 1) (common_of (row_of rows p) l) counts,
      λ q d. let z = row-changed (λ n. n + 1) (row_of rows p) l counts q d in let k = c.2 q d in by_test (has_program (row_of rows p) q)
          (λ t. let w : count_of (changed (λ n. n + 1) (common_of (row_of rows p) l) counts) q ≡ count_of counts q + 1 = z ∙ rw t in
          omega (arith, w, k, in_row rows rest p e q t))
          (λ t. let w : count_of (changed (λ n. n + 1) (common_of (row_of rows p) l) counts) q ≡ count_of counts q = z ∙ rw t in
          omega (arith, w, k, out-of-row rows rest p e q t)),
      not_raised (row_of rows p),
    )

    pub counting_done : rest.bits ≡ 0 → counts ≡ counts_of rows l
    unfolding counts_of
    counting_done e = ext_get_or 0 counts _ (c.1 ∙ sym (places-length _ 32 0)) (λ i h. at_place i (omega arith) ∙ sym (counts-at rows l i (omega arith)))
      where
        none-held : (q : ℕ) → held_count rows rest q ≡ 0
        none-held q = omega (
          arith,
          length_keep (λ i. has_program (row_of rows i) q) (those rest),
          keep_none (has_program rest) everyone (λ x. none_left rest x e),
        )

        at_place : (i : ℕ) → i < 32 → get_or counts i 0 ≡ cond (has_program l (suc i)) (held_count rows l (suc i)) 0
        at_place i h = let z : i ≡ suc i - 1 = omega arith in let m = held_count rows l (suc i) in
            ap (λ (j : ℕ). get_or counts j 0) z ∙ by_test (has_program l (suc i))
            (λ t. let k : count_of counts (suc i) ≡ m = omega (arith, c.2 (suc i) t, none-held (suc i)) in
            k ∙ sym (ap (λ (y : Bool). cond y m 0) t))
            (λ t. c.3 (suc i) (omega arith) (omega arith) t ∙ sym (ap (λ (y : Bool). cond y m 0) t))

-- ---- one taking

module _ (rows counts : List ℕ) (l : ProgramSet) (c : Counted rows l counts) (p : ℕ) (e : has_program l p ≡ true) where
  pub can_lower : CanLower (common_of (row_of rows p) (without_program l p)) counts
  can_lower = (
    c.0,
    λ q d.
        let u = sym (common_has (row_of rows p) (without_program l p) q) ∙ d in
        let a = and_left (has_program (row_of rows p) q) (has_program (without_program l p) q) u in
        let b = and_right (has_program (row_of rows p) q) (has_program (without_program l p) q) u in
        omega (arith, c.1 q (rest_more l l p (λ x y. y) q b), in_row rows l p e q a),
  )

  -- the counts are right again for those that remain
  pub lowered-right : Counted rows (without_program l p) (lowered (common_of (row_of rows p) (without_program l p)) counts)
  unfolding lowered
  lowered-right = (
    changed-length (λ n. n - 1) (common_of (row_of rows p) (without_program l p)) counts,
    λ q d. let z = row-changed (λ n. n - 1) (row_of rows p) (without_program l p) counts q d in
        let k = c.1 q (rest_more l l p (λ x y. y) q d) in by_test (has_program (row_of rows p) q)
        (λ t. let w : count_of (changed (λ n. n - 1) (common_of (row_of rows p) (without_program l p)) counts) q ≡ count_of counts q - 1 = z ∙ rw t in
        omega (arith, w, k, in_row rows l p e q t))
        (λ t. let w : count_of (changed (λ n. n - 1) (common_of (row_of rows p) (without_program l p)) counts) q ≡ count_of counts q = z ∙ rw t in
        omega (arith, w, k, out-of-row rows l p e q t)),
  )
