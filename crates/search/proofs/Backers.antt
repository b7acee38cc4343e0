-- Those that hold a program back, directly or through others, are all found in 32 rounds; a file given, decided by them. Assumes nothing.
use mathlib.Core.Path.{◌≡◌, sym, ap, subst, ◌∙◌}
use mathlib.Core.Logic.{◌⊎◌, inl, inr, ⊎_elim}
use mathlib.Core.Bool.{Bool, true, false, not, ◌&&◌}
use mathlib.Core.List.{List, [], ◌∷◌}
use Prim.Native.Nat.{ℕ, zero, suc, ◌+◌, ◌-◌, ◌≤◌, ◌<◌}
use native.Mathlib.Nat.{add-zero, add-suc, add_comm}
use native.Mathlib.Omega.{arith}
use lib.Dec.{ltb}
use lib.ListN.{length}
use borrow.Author.Tests.{ltb-true, ltb-false}
use Rattle.laws.specs.Tests.{by_test, never, and_left, and_right, and_both, or_cases, or_left, or_right, no_true}
use Rattle.laws.specs.Lists.{any, keep, rising}
use Rattle.rules.specs.declared.Mode.{Mode}
use Rattle.rules.specs.Boards.{everyone}
use mathlib.Core.List.Memᴰ
use Rattle.laws.specs.Laws.{◌∈◌, by_mem, here, any_some, some-any, mem-rising, length_keep, length-rising}
use Rattle.tables.specs.declared.ProgramSet.{ProgramSet}
use Rattle.tables.specs.ProgramSets.{has_program, without_program}
use Rattle.store.specs.Sets.{Sets, mode_at, holds_one, claims_at}
use Rattle.tables.proofs.Laws.{packed-has, none_has}
use Rattle.tables.specs.Boards.{admitted_set}
use Rattle.search.specs.Gives.{joins, backers, safe_in, SafeFor}
use Rattle.search.proofs.Laws.{low, high}
use Rattle.search.proofs.Closing.{Back, back-unsafe, back-safe}

-- ---- lists kept by two tests, the first within the second

module _ (s t : ℕ → Bool) where
  abbrev pub Within : List ℕ → Type 0
  Within l = (a : ℕ) → a ∈ l → s a ≡ true → t a ≡ true

  pub keep-within : (l : List ℕ) → Within l → length (keep s l) ≤ length (keep t l)
  unfolding keep
  keep-within [] f = omega arith
  keep-within (x ∷ l) f = let r = keep-within l (λ a m. f a (Memᴰ.tail m)) in
      by_test (s x) (λ e. rw (e, f x here e) (omega arith))
      (λ e. by_test (t x) (λ d. rw (e, d) (omega arith)) (λ d. rw (e, d) r))

  -- as many: the second has no more
  pub keep-covers : (l : List ℕ) → Within l → length (keep t l) ≤ length (keep s l) → (a : ℕ) → a ∈ l → t a ≡ true → s a ≡ true
  unfolding keep
  keep-covers [] f h a m e = elim m [ ]
  keep-covers (x ∷ l) f h a m e =
      let w = keep-within l (λ c i. f c (Memᴰ.tail i)) in
      by_test (s x)
      (λ d. let k : suc (length (keep t l)) ≤ suc (length (keep s l)) = rw (d, f x here d) at h in
      by_mem m (λ z. ap s z ∙ d) (λ i. keep-covers l (λ c j. f c (Memᴰ.tail j)) (omega arith) a i e))
      (λ d. by_test (t x)
      (λ u. let k : suc (length (keep t l)) ≤ length (keep s l) = rw (d, u) at h in absurd (omega arith))
      (λ u. let k : length (keep t l) ≤ length (keep s l) = rw (d, u) at h in
      by_mem m (λ z. never e (ap t z ∙ u)) (λ i. keep-covers l (λ c j. f c (Memᴰ.tail j)) k a i e)))

module _ (sets : Sets) (others : ProgramSet) (p : ℕ) where
  abbrev S : ℕ → ProgramSet
  S n = backers sets others p n

  round-has : (n x : ℕ) → 1 ≤ x → x ≤ 32 → has_program (S (suc n)) x ≡ joins sets others p (S n) x
  unfolding backers
  round-has n x h k = packed-has (joins sets others p (S n)) 32 x (omega arith) h k

  grows : (n x : ℕ) → has_program (S n) x ≡ true → has_program (S (suc n)) x ≡ true
  grows n x e = round-has n x (low (S n) x e) (high (S n) x e) ∙ or_left (has_program (S n) x) _ e

  grows-by : (d n x : ℕ) → has_program (S n) x ≡ true → has_program (S (n + d)) x ≡ true
  grows-by zero n x e = rw (add-zero n) e
  grows-by (suc d) n x e = rw (add-suc n d) (grows (n + d) x (grows-by d n x e))

  is_one : (x : ℕ) → 1 ≤ x → x ≤ 32 → x ∈ everyone
  unfolding everyone
  is_one x h k = mem-rising 32 1 x h (omega arith)

  -- whom the rounds find, holds back p directly or through others
  pub found_back : (n x : ℕ) → has_program (S n) x ≡ true → Back sets others p x
  unfolding backers
  found_back zero x e = never e (none_has x)
  found_back (suc n) x e = or_cases (has_program (S n) x) _ (sym (round-has n x (low (S (suc n)) x e) (high (S (suc n)) x e)) ∙ e)
      (λ d. found_back n x d)
      (λ d. let m = and_left (has_program others x) _ d in or_cases (holds_one sets p x) _ (and_right (has_program others x) _ d)
      (λ c. Back.nearest m c)
      (λ c. let (y, i, u) = any_some (λ y. has_program (S n) y && holds_one sets y x) everyone c in
      Back.further m (and_right (has_program (S n) y) (holds_one sets y x) u) (found_back n y (and_left (has_program (S n) y) (holds_one sets y x) u))))

  -- whoever holds back p is found in some round
  back_found : (x : ℕ) → Back sets others p x → (n : ℕ) × (has_program (S n) x ≡ true)
  back_found x (Back.nearest m e) = (
    1,
    round-has 0 x (low others x m) (high others x m) ∙ or_right (has_program (S 0) x) _ (and_both (has_program others x) _ m
        (or_left (holds_one sets p x) _ e)),
  )
  back_found x (Back.further {y = y} m e c) = let (n, d) = back_found y c in (
    suc n,
    round-has n x (low others x m) (high others x m) ∙ or_right (has_program (S n) x) _ (and_both (has_program others x) _ m
        (or_right (holds_one sets p x) _ (some-any (λ z. has_program (S n) z && holds_one sets z x) everyone y
        (is_one y (low (S n) y d) (high (S n) y d)) (and_both (has_program (S n) y) (holds_one sets y x) d e)))),
  )

  -- nobody more is found after round n
  abbrev Closed : ℕ → Type 0
  Closed n = (x : ℕ) → has_program (S (suc n)) x ≡ true → has_program (S n) x ≡ true

  closed-next : (n : ℕ) → Closed n → Closed (suc n)
  closed-next n c x e =
      let h = low (S (suc (suc n))) x e in let k = high (S (suc (suc n))) x e in
      or_cases (has_program (S (suc n)) x) _ (sym (round-has (suc n) x h k) ∙ e) (λ d. d)
      (λ d. round-has n x h k ∙ or_right (has_program (S n) x) _ (and_both (has_program others x) _ (and_left (has_program others x) _ d)
      (or_cases (holds_one sets p x) _ (and_right (has_program others x) _ d) (λ u. or_left (holds_one sets p x) _ u)
      (λ u. let (y, i, w) = any_some (λ y. has_program (S (suc n)) y && holds_one sets y x) everyone u in
      or_right (holds_one sets p x) _ (some-any (λ z. has_program (S n) z && holds_one sets z x) everyone y i
      (and_both (has_program (S n) y) (holds_one sets y x) (c y (and_left (has_program (S (suc n)) y) (holds_one sets y x) w))
      (and_right (has_program (S (suc n)) y) (holds_one sets y x) w)))))))

  closed-by : (d n : ℕ) → Closed n → Closed (n + d)
  closed-by zero n c = rw (add-zero n) c
  closed-by (suc d) n c = rw (add-suc n d) (closed-next (n + d) (closed-by d n c))

  falls_by : (d n : ℕ) → Closed n → (x : ℕ) → has_program (S (n + d)) x ≡ true → has_program (S n) x ≡ true
  falls_by zero n c x e = rw (add-zero n) at e
  falls_by (suc d) n c x e = falls_by d n c x (closed-by d n c x (rw (add-suc n d) at e))

  -- how many were found
  abbrev count : ℕ → ℕ
  count n = length (keep (has_program (S n)) everyone)

  count_most : (n : ℕ) → count n ≤ 32
  unfolding everyone
  count_most n = omega (arith, length_keep (has_program (S n)) (rising 32 1), length-rising 32 1)

  -- after n rounds n were found, unless nobody more was found before
  some-closed : (n : ℕ) → ((k : ℕ) × (k < n) × Closed k) ⊎ (n ≤ count n)
  some-closed zero = inr (omega arith)
  some-closed (suc n) = ⊎_elim (λ (k, h, c). inl (k, omega arith, c))
      (λ h. by_test (ltb (count n) (count (suc n)))
      (λ t. let l = ltb-true (count n) (count (suc n)) t in inr (omega arith))
      (λ t. inl (
        n,
        omega arith,
        λ x e. keep-covers (has_program (S n)) (has_program (S (suc n))) everyone (λ a m. grows n a)
            (ltb-false (count n) (count (suc n)) t) x (is_one x (low (S (suc n)) x e) (high (S (suc n)) x e)) e,
      )))
      (some-closed n)

  closed_at : (k : ℕ) × (k ≤ 32) × Closed k
  closed_at = ⊎_elim (λ (k, h, c). (k, omega arith, c)) (λ h. absurd (omega (arith, count_most 33))) (some-closed 33)

  -- all are found in 32 rounds
  pub all_found : (x : ℕ) → Back sets others p x → has_program (S 32) x ≡ true
  all_found x b = let (n, e) = back_found x b in let (k, h, c) = closed_at in
      let z : k + (32 - k) ≡ 32 = omega arith in
      rw z at (grows-by (32 - k) k x (falls_by n k c x (rw (add_comm n k) at (grows-by k n x e))))

-- ---- a file given

module _ (sets : Sets) (a : ProgramSet) (p f : ℕ) where
  abbrev among : ProgramSet
  among = without_program a p

  abbrev all : ProgramSet
  all = backers sets among p 32

  abbrev mode : Mode
  mode = mode_at sets p f

  abbrev claimed : Bool
  claimed = any (λ x. has_program all x && claims_at sets f mode x) everyone

  is-claimed : (x : ℕ) → has_program all x ≡ true → claims_at sets f mode x ≡ true → claimed ≡ true
  is-claimed x e d = some-any (λ z. has_program all z && claims_at sets f mode z) everyone x
      (is_one sets among p x (low all x e) (high all x e)) (and_both (has_program all x) (claims_at sets f mode x) e d)

  of-claimed : claimed ≡ true → (x : ℕ) × (has_program all x ≡ true) × (claims_at sets f mode x ≡ true)
  of-claimed e = let (x, m, u) = any_some (λ z. has_program all z && claims_at sets f mode z) everyone e in
      (x, and_left (has_program all x) (claims_at sets f mode x) u, and_right (has_program all x) (claims_at sets f mode x) u)

  -- one that holds p back claims f
  pub unsafe_in_lem : (x : ℕ) → Back sets among p x → claims_at sets f mode x ≡ true → safe_in sets a p f ≡ false
  unfolding safe_in
  unsafe_in_lem x b d = ap not (is-claimed x (all_found sets among p x b) d)

  -- none does
  pub safe_in_lem : ((x : ℕ) → Back sets among p x → claims_at sets f mode x ≡ false) → safe_in sets a p f ≡ true
  unfolding safe_in
  safe_in_lem n = ap not (no_true claimed (λ d. let (x, i, u) = of-claimed d in never u (n x (found_back sets among p 32 x i))))

  -- on boards: whether an order comes back with f given to p
  pub safe_for : 1 ≤ p → p ≤ 32 → SafeFor sets a p f (safe_in sets a p f)
  unfolding safe_in
  safe_for h k b s e ad o = by_test claimed
      (λ t. let (x, i, d) = of-claimed t in
      rw t (sym (back-unsafe b sets p f s h k ad o x (on-board x (found_back sets among p 32 x i)) d)))
      (λ t. rw t (sym (back-safe b sets p f s h k ad o all (λ x i. on-board x (found_back sets among p 32 x i))
      (λ x c. all_found sets among p x (off-board x c))
      (λ x i. no_true (claims_at sets f mode x) (λ d. never (is-claimed x i d) t)))))
    where
      z : among ≡ without_program (admitted_set b) p
      z = ap (λ (y : ProgramSet). without_program y p) e

      on-board : (x : ℕ) → Back sets among p x → Back sets (without_program (admitted_set b) p) p x
      on-board x c = subst (λ (y : ProgramSet). Back sets y p x) z c

      off-board : (x : ℕ) → Back sets (without_program (admitted_set b) p) p x → Back sets among p x
      off-board x c = subst (λ (y : ProgramSet). Back sets y p x) (sym z) c
