-- What the tests and searches of the rules say of the members of a list.
-- Assumes nothing.
use Rattle.std.specs.Prelude.{ℕ, zero, suc, ◌≤◌, ◌<◌, ◌+◌, ◌-◌, ◌≡◌, ◌≢◌, Bool, true, false, not, cond, eqb, length, replicate}
use Rattle.std.proofs.Common.{arith, ◌∙◌, ⊎_elim, eqb-true, eq-eqb, ne_eqb}
use Rattle.std.proofs.Math.Path.{refl, sym, ap, ap₂}
use Rattle.std.proofs.Math.Bool.{◌&&◌, ◌||◌}
use Rattle.std.proofs.Math.Option.{Option, none, some}
use mathlib.Core.List.{List, [], ◌∷◌, ◌++◌, append-nil}
use mathlib.Core.List.Memᴰ
use mathlib.Core.List.{Memᴰ}
use Rattle.std.proofs.lemmas.Bool.{eqb-false}
use Rattle.laws.specs.Tests.{by_test, never, or_cases, or_left, or_right, and_left, and_right, and_both, no_true, not_true, true_not, same_test}
use Rattle.laws.specs.Lists.{any, all, keep, first, found, rising, listed, distinct, without, same, names, padded}

infix 4 ◌∈◌
abbrev pub ◌∈◌ : {A : Type 0} → A → List A → Type 0
a ∈ l = Memᴰ a l

-- Every member stands in R to every later one.
unfoldable pub Pairs : (ℕ → ℕ → Type 0) → List ℕ → Type 0
Pairs R [] = Unit {0}
Pairs R (a ∷ l) = ((b : ℕ) → b ∈ l → R a b) × Pairs R l

-- No number is in the list twice.
abbrev pub NoRepeat : List ℕ → Type 0
NoRepeat l = Pairs (λ a b. a ≢ b) l

-- ── Cases ──

pub by_mem : {A C : Type 0} {a x : A} {l : List A} → a ∈ x ∷ l → (a ≡ x → C) → (a ∈ l → C) → C
by_mem (Memᴰ.head e) f g = f e
by_mem (Memᴰ.tail m) f g = g m

pub here : {A : Type 0} {a : A} {l : List A} → a ∈ a ∷ l
here = Memᴰ.head refl

pub no_some : {A C : Type 0} {a : A} → none ≡ some a → C
no_some {A} {C} {a} e = absurd (let z : ◌≡◌ {A = ℕ} 0 1 = cc in omega arith)

pub some_same : {A : Type 0} {a b : A} → some a ≡ some b → a ≡ b
some_same e = cc

-- ── Some, every ──

module _ {A : Type 0} where
  pub any_some : (t : A → Bool) (l : List A) → any t l ≡ true → (a : A) × (a ∈ l) × (t a ≡ true)
  unfolding any
  any_some t [] e = never {t = false} e refl
  any_some t (x ∷ l) e = or_cases (t x) (any t l) e (λ u. (x, here, u)) (λ u. let r = any_some t l u in (r.0, Memᴰ.tail r.1, r.2))

  pub some-any : (t : A → Bool) (l : List A) (a : A) → a ∈ l → t a ≡ true → any t l ≡ true
  unfolding any
  some-any t [] a m e = absurd (Memᴰ.not-nil m)
  some-any t (x ∷ l) a m e = by_mem m (λ d. or_left (t x) (any t l) (ap t (sym d) ∙ e)) (λ k. or_right (t x) (any t l) (some-any t l a k e))

  pub all-each : (t : A → Bool) (l : List A) → all t l ≡ true → (a : A) → a ∈ l → t a ≡ true
  unfolding all
  all-each t [] e a m = absurd (Memᴰ.not-nil m)
  all-each t (x ∷ l) e a m = by_mem m (λ d. ap t d ∙ and_left (t x) (all t l) e) (λ k. all-each t l (and_right (t x) (all t l) e) a k)

  pub each_all : (t : A → Bool) (l : List A) → ((a : A) → a ∈ l → t a ≡ true) → all t l ≡ true
  unfolding all
  each_all t [] f = refl
  each_all t (x ∷ l) f = and_both (t x) (all t l) (f x here) (each_all t l (λ a m. f a (Memᴰ.tail m)))

  -- Both tests of each.
  pub all_and : (t u : A → Bool) (l : List A) → all (λ a. t a && u a) l ≡ (all t l && all u l)
  all_and t u l = same_test _ _
      (λ e. let f = all-each (λ a. t a && u a) l e in and_both (all t l) (all u l)
      (each_all t l (λ a m. and_left (t a) (u a) (f a m))) (each_all u l (λ a m. and_right (t a) (u a) (f a m))))
      (λ e. each_all (λ a. t a && u a) l (λ a m. and_both (t a) (u a) (all-each t l (and_left (all t l) (all u l) e) a m)
      (all-each u l (and_right (all t l) (all u l) e) a m)))

  -- Tests that agree on the members.
  pub any_same : (t u : A → Bool) (l : List A) → ((a : A) → a ∈ l → t a ≡ u a) → any t l ≡ any u l
  unfolding any
  any_same t u [] f = refl
  any_same t u (x ∷ l) f = ap₂ ◌||◌ (f x here) (any_same t u l (λ a m. f a (Memᴰ.tail m)))

  pub all_same : (t u : A → Bool) (l : List A) → ((a : A) → a ∈ l → t a ≡ u a) → all t l ≡ all u l
  unfolding all
  all_same t u [] f = refl
  all_same t u (x ∷ l) f = ap₂ ◌&&◌ (f x here) (all_same t u l (λ a m. f a (Memᴰ.tail m)))

  -- None passes.
  pub not_any : (t : A → Bool) (l : List A) → not (any t l) ≡ all (λ a. not (t a)) l
  unfolding any all
  not_any t [] = refl
  not_any t (x ∷ l) = by_test (t x) (λ e. rw e) (λ e. rw e (not_any t l))

  pub first-same : (t u : A → Bool) (l : List A) → ((a : A) → a ∈ l → t a ≡ u a) → first t l ≡ first u l
  unfolding first
  first-same t u [] f = refl
  first-same t u (x ∷ l) f = rw (f x here, first-same t u l (λ a m. f a (Memᴰ.tail m)))

  -- ── The first that passes ──

  pub first_some : (t : A → Bool) (l : List A) (p : A) → first t l ≡ some p → (p ∈ l) × (t p ≡ true)
  unfolding first
  first_some t [] p e = no_some e
  first_some t (q ∷ l) p e = by_test (t q) (λ u. let d : p ≡ q = sym (some_same (rw u at e)) in
      (Memᴰ.head d, ap t d ∙ u)) (λ u. let r = first_some t l p (rw u at e) in (Memᴰ.tail r.0, r.1))

  pub first-none : (t : A → Bool) (l : List A) → first t l ≡ none → (p : A) → p ∈ l → t p ≡ false
  unfolding first
  first-none t [] e p m = absurd (Memᴰ.not-nil m)
  first-none t (q ∷ l) e p m = by_test (t q) (λ u. no_some (sym (rw u at e)))
      (λ u. by_mem m (λ d. ap t d ∙ u) (first-none t l (rw u at e) p))

pub found_some : {A : Type 0} (k : Option A) → found k ≡ true → (a : A) × (k ≡ some a)
found_some none e = never {t = false} e refl
found_some (some a) e = (a, refl)

-- ── Keeping ──

pub keep_mem : (t : ℕ → Bool) (l : List ℕ) (a : ℕ) → a ∈ keep t l → (a ∈ l) × (t a ≡ true)
unfolding keep
keep_mem t [] a m = absurd (Memᴰ.not-nil m)
keep_mem t (x ∷ l) a m = by_test (t x)
    (λ u. by_mem (rw u at m) (λ d. (Memᴰ.head d, ap t d ∙ u)) (λ k. let r = keep_mem t l a k in (Memᴰ.tail r.0, r.1)))
    (λ u. let r = keep_mem t l a (rw u at m) in (Memᴰ.tail r.0, r.1))

pub mem_keep : (t : ℕ → Bool) (l : List ℕ) (a : ℕ) → a ∈ l → t a ≡ true → a ∈ keep t l
unfolding keep
mem_keep t [] a m e = m
mem_keep t (x ∷ l) a m e = by_test (t x)
    (λ u. rw u (by_mem m Memᴰ.head (λ k. Memᴰ.tail (mem_keep t l a k e))))
    (λ u. rw u (by_mem m (λ d. never e (ap t d ∙ u)) (λ k. mem_keep t l a k e)))

pub keep_same : (t t' : ℕ → Bool) (l : List ℕ) → ((a : ℕ) → a ∈ l → t a ≡ t' a) → keep t l ≡ keep t' l
unfolding keep
keep_same t t' [] f = refl
keep_same t t' (x ∷ l) f = let r = keep_same t t' l (λ a m. f a (Memᴰ.tail m)) in let d = f x here in
    by_test (t x) (λ u. rw (u, sym d ∙ u) (ap (x ∷◌) r)) (λ u. rw (u, sym d ∙ u) r)

pub first_keep : (s t : ℕ → Bool) (l : List ℕ) → first t (keep s l) ≡ first (λ x. s x && t x) l
unfolding first keep
first_keep s t [] = refl
first_keep s t (x ∷ l) = by_test (s x) (λ y. rw y (ap (λ z. cond (t x) (some x) z) (first_keep s t l))) (λ y. rw y (first_keep s t l))

pub keep_keep : (s t : ℕ → Bool) (l : List ℕ) → keep t (keep s l) ≡ keep (λ x. s x && t x) l
unfolding keep
keep_keep s t [] = refl
keep_keep s t (x ∷ l) = by_test (s x) (λ y. rw y (ap (λ z. cond (t x) (x ∷ z) z) (keep_keep s t l))) (λ y. rw y (keep_keep s t l))

pub Pairs_keep : (R : ℕ → ℕ → Type 0) (t : ℕ → Bool) (l : List ℕ) → Pairs R l → Pairs R (keep t l)
unfolding keep Pairs
Pairs_keep R t [] p = tt
Pairs_keep R t (x ∷ l) p = by_test (t x) (λ u. rw u (λ b m. p.0 b (keep_mem t l b m).0, Pairs_keep R t l p.1))
    (λ u. rw u (Pairs_keep R t l p.1))

pub length_keep : (t : ℕ → Bool) (l : List ℕ) → length (keep t l) ≤ length l
unfolding keep
length_keep t [] = omega arith
length_keep t (x ∷ l) = let i = length_keep t l in by_test (t x) (λ u. rw u (omega arith)) (λ u. rw u (omega arith))

-- ── Without one ──

pub without-mem : (p : ℕ) (l : List ℕ) (a : ℕ) → a ∈ without p l → (a ∈ l) × (a ≢ p)
unfolding without
without-mem p l a m = let r = keep_mem (λ x. not (eqb x p)) l a m in (r.0, eqb-false a p (not_true (eqb a p) r.1))

pub mem-without : (p : ℕ) (l : List ℕ) (a : ℕ) → a ∈ l → a ≢ p → a ∈ without p l
unfolding without
mem-without p l a m n = mem_keep (λ x. not (eqb x p)) l a m (true_not (eqb a p) (ne_eqb a p n))

pub Pairs-without : (R : ℕ → ℕ → Type 0) (p : ℕ) (l : List ℕ) → Pairs R l → Pairs R (without p l)
unfolding without
Pairs-without R p l c = Pairs_keep R (λ x. not (eqb x p)) l c

pub without_absent : (p : ℕ) (l : List ℕ) → (p ∈ l → ⊥) → without p l ≡ l
unfolding without keep
without_absent p [] n = refl
without_absent p (q ∷ l) n = rw (ne_eqb q p (λ d. n (Memᴰ.head (sym d)))) (ap (q ∷◌) (without_absent p l (λ m. n (Memᴰ.tail m))))

pub without_first : (p : ℕ) (l : List ℕ) → NoRepeat (p ∷ l) → without p (p ∷ l) ≡ l
unfolding without keep Pairs
without_first p l n = rw (eq-eqb p p refl) (without_absent p l (λ m. n.0 p m refl))

pub length_without : (p : ℕ) (l : List ℕ) → NoRepeat l → p ∈ l → length l ≡ suc (length (without p l))
unfolding without keep Pairs
length_without p [] n m = absurd (Memᴰ.not-nil m)
length_without p (q ∷ l) n m = by_test (eqb q p)
    (λ u. rw u (ap suc (ap length (sym (without_absent p l (λ k. n.0 p k (eqb-true q p u)))))))
    (λ u. rw u (by_mem m (λ d. absurd (eqb-false q p u (sym d))) (λ k. ap suc (length_without p l n.1 k))))

-- The members that pass another test, which only p fails of those that passed.
pub keep_but : (t t' : ℕ → Bool) (p : ℕ) (l : List ℕ) → t' p ≡ false → ((a : ℕ) → a ∈ l → a ≢ p → t' a ≡ t a)
    → keep t' l ≡ without p (keep t l)
unfolding without keep
keep_but t t' p [] e f = refl
keep_but t t' p (x ∷ l) e f = let r = keep_but t t' p l e (λ a m. f a (Memᴰ.tail m)) in by_test (eqb x p)
    (λ u. let d = eqb-true x p u in by_test (t x) (λ w. rw (ap t' d ∙ e, w, u) r) (λ w. rw (ap t' d ∙ e, w) r))
    (λ u. let d = f x here (eqb-false x p u) in by_test (t x) (λ w. rw (d ∙ w, w, u) (ap (x ∷◌) r)) (λ w. rw (d ∙ w, w) r))

-- ── Empty or not, by the length ──

pub nil-length : (l : List ℕ) (a : ℕ) → length l ≡ 0 → a ∈ l → ⊥
nil-length [] a e m = Memᴰ.not-nil m
nil-length (x ∷ l) a e m = let k : suc (length l) ≡ 0 = e in omega arith

pub some_length : (l : List ℕ) → 0 < length l → (a : ℕ) × (a ∈ l)
some_length [] m = absurd (let k : 0 < 0 = m in omega arith)
some_length (x ∷ l) m = (x, here)

-- ── Rising numbers ──

pub rising-mem : (n k a : ℕ) → a ∈ rising n k → (k ≤ a) × (a < k + n)
unfolding rising
rising-mem zero k a m = absurd (Memᴰ.not-nil m)
rising-mem (suc n) k a m = by_mem m (λ d. (omega arith, omega arith)) (λ u. let r = rising-mem n (suc k) a u in (omega arith, omega arith))

pub mem-rising : (n k a : ℕ) → k ≤ a → a < k + n → a ∈ rising n k
unfolding rising
mem-rising zero k a u v = absurd (omega arith)
mem-rising (suc n) k a u v = by_test (eqb a k) (λ e. Memᴰ.head (eqb-true a k e))
    (λ e. let d : a ≢ k = eqb-false a k e in Memᴰ.tail (mem-rising n (suc k) a (omega arith) (omega arith)))

pub rising_pairs : (n k : ℕ) → Pairs (λ a b. a < b) (rising n k)
unfolding rising Pairs
rising_pairs zero k = tt
rising_pairs (suc n) k = (λ b m. let r = rising-mem n (suc k) b m in omega arith, rising_pairs n (suc k))

pub length-rising : (n k : ℕ) → length (rising n k) ≡ n
unfolding rising
length-rising zero k = refl
length-rising (suc n) k = ap suc (length-rising n (suc k))

-- ── Pairs ──

pub Pairs-map : {R S : ℕ → ℕ → Type 0} (l : List ℕ) → ((a b : ℕ) → a ∈ l → b ∈ l → R a b → S a b) → Pairs R l → Pairs S l
unfolding Pairs
Pairs-map [] f p = tt
Pairs-map (x ∷ l) f p = (
  λ b m. f x b here (Memᴰ.tail m) (p.0 b m),
  Pairs-map l
      (λ a b m k. f a b (Memᴰ.tail m) (Memᴰ.tail k)) p.1,
)

pub Pairs_map₂ : (R S T : ℕ → ℕ → Type 0) (l : List ℕ) → ((a b : ℕ) → a ∈ l → b ∈ l → R a b → S a b → T a b)
    → Pairs R l → Pairs S l → Pairs T l
unfolding Pairs
Pairs_map₂ R S T [] f p q = tt
Pairs_map₂ R S T (x ∷ l) f p q = (
  λ b m. f x b here (Memᴰ.tail m) (p.0 b m) (q.0 b m),
  Pairs_map₂ R S T l
      (λ a b m k. f a b (Memᴰ.tail m) (Memᴰ.tail k)) p.1 q.1,
)

pub Pairs-append : (R : ℕ → ℕ → Type 0) (xs ys : List ℕ) → Pairs R xs → Pairs R ys → ((a b : ℕ) → a ∈ xs → b ∈ ys → R a b)
    → Pairs R (xs ++ ys)
unfolding Pairs
Pairs-append R [] ys p q f = q
Pairs-append R (x ∷ xs) ys p q f = (
  λ b m. ⊎_elim (p.0 b) (f x b here) (Memᴰ.append_cases xs m),
  Pairs-append R xs ys p.1 q (λ a b m. f a b (Memᴰ.tail m)),
)

pub Pairs_split : (R : ℕ → ℕ → Type 0) (xs ys : List ℕ) (a b : ℕ) → Pairs R (xs ++ (a ∷ ys)) → b ∈ ys → R a b
unfolding Pairs
Pairs_split R [] ys a b p m = p.0 b m
Pairs_split R (x ∷ xs) ys a b p m = Pairs_split R xs ys a b p.1 m

pub once_snoc : (l : List ℕ) (p : ℕ) → NoRepeat l → (p ∈ l → ⊥) → NoRepeat (l ++ (p ∷ []))
unfolding Pairs
once_snoc l p c n = Pairs-append _ l (p ∷ []) c (λ b m. absurd (Memᴰ.not-nil m), tt)
    (λ a b m k d. n (Memᴰ.cast (sym (d ∙ Memᴰ.eq_of_singleton k)) m))

pub by_snoc : {C : Type 0} (l : List ℕ) (p a : ℕ) → a ∈ l ++ (p ∷ []) → (a ∈ l → C) → (a ≡ p → C) → C
by_snoc l p a m f g = ⊎_elim f (λ k. g (Memᴰ.eq_of_singleton k)) (Memᴰ.append_cases l m)

-- ── Members of lists without repeats, counted ──

without-shorter : (x : ℕ) (m : List ℕ) → x ∈ m → length (without x m) < length m
unfolding without keep
without-shorter x [] k = absurd (Memᴰ.not-nil k)
without-shorter x (y ∷ m) k = let i = length_keep (λ z. not (eqb z x)) m in by_test (eqb y x) (λ u. rw u (omega arith))
    (λ u. rw u (by_mem k (λ d. absurd (eqb-false y x u (sym d))) (λ q. let j = without-shorter x m q in omega arith)))

-- A list without repeats whose members are all in another is no longer than it.
pub no_longer : (l m : List ℕ) → NoRepeat l → ((a : ℕ) → a ∈ l → a ∈ m) → length l ≤ length m
unfolding Pairs
no_longer [] m n f = omega arith
no_longer (x ∷ l) m n f = let i = no_longer l (without x m) n.1 (λ a k. mem-without x m a (f a (Memᴰ.tail k))
    (λ d. n.0 a k (sym d))) in let j = without-shorter x m (f x here) in omega arith

-- ── Lines: names, then 0 ──

pub listed-mem : (p : ℕ) (l : List ℕ) → listed p l ≡ true → p ∈ l
unfolding listed
listed-mem p l e = let r = any_some (eqb p) l e in Memᴰ.cast (eqb-true p r.0 r.2) r.1

pub mem-listed : (p : ℕ) (l : List ℕ) → p ∈ l → listed p l ≡ true
unfolding listed
mem-listed p l m = some-any (eqb p) l p m (eq-eqb p p refl)

pub distinct_once : (l : List ℕ) → distinct l ≡ true → NoRepeat l
unfolding distinct Pairs
distinct_once [] e = tt
distinct_once (x ∷ l) e = (
  λ b m d. never (mem-listed x l (Memᴰ.cast d m)) (not_true (listed x l) (and_left (not (listed x l)) (distinct l) e)),
  distinct_once l (and_right (not (listed x l)) (distinct l) e),
)

pub once_distinct : (l : List ℕ) → NoRepeat l → distinct l ≡ true
unfolding distinct Pairs
once_distinct [] n = refl
once_distinct (x ∷ l) n = and_both (not (listed x l)) (distinct l) (true_not (listed x l) (no_true (listed x l)
    (λ e. n.0 x (listed-mem x l e) refl))) (once_distinct l n.1)

pub same_eq : (l m : List ℕ) → same l m ≡ true → l ≡ m
unfolding same
same_eq [] [] e = refl
same_eq [] (y ∷ ys) e = never {t = false} e refl
same_eq (x ∷ xs) [] e = never {t = false} e refl
same_eq (x ∷ xs) (y ∷ ys) e = ap₂ ◌∷◌ (eqb-true x y (and_left (eqb x y) (same xs ys) e))
    (same_eq xs ys (and_right (eqb x y) (same xs ys) e))

pub eq_same : (l m : List ℕ) → l ≡ m → same l m ≡ true
unfolding same
eq_same [] [] e = refl
eq_same [] (y ∷ ys) e = absurd (let k = ap length e in omega arith)
eq_same (x ∷ xs) [] e = absurd (let k = ap length e in omega arith)
eq_same (x ∷ xs) (y ∷ ys) e = let a : x ≡ y = cc in let b : xs ≡ ys = cc in and_both (eqb x y) (same xs ys) (eq-eqb x y a) (eq_same xs ys b)

-- No name is 0.
pub names_some : (l : List ℕ) (p : ℕ) → p ∈ names l → p ≢ 0
unfolding names
names_some [] p m = absurd (Memᴰ.not-nil m)
names_some (x ∷ l) p m = by_test (eqb x 0) (λ u. absurd (Memᴰ.not-nil (rw u at m))) (λ u. by_mem (rw u at m)
    (λ d z. eqb-false x 0 u (sym d ∙ z)) (names_some l p))

names-zeros : (n : ℕ) → names (replicate n 0) ≡ []
unfolding names
names-zeros zero = refl
names-zeros (suc n) = refl

names-append : (l m : List ℕ) → ((p : ℕ) → p ∈ l → p ≢ 0) → names (l ++ m) ≡ l ++ names m
unfolding names
names-append [] m f = refl
names-append (x ∷ l) m f = rw (ne_eqb x 0 (f x here)) (ap (x ∷◌) (names-append l m (λ p k. f p (Memᴰ.tail k))))

pub names_padded : (l : List ℕ) → ((p : ℕ) → p ∈ l → p ≢ 0) → names (padded 0 l) ≡ l
unfolding padded
names_padded l f = names-append l (replicate (32 - length l) 0) f ∙ ap (l ++◌) (names-zeros (32 - length l)) ∙ append-nil l
