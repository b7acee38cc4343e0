-- The matrix of which admitted program holds back which, closed over paths, on any board, sound or not.
-- `reaches_iff` says what stands in it, `itself_iff` that some program reaches itself in it exactly when no completion order exists.
-- Assumes nothing.
use Rattle.std.specs.Prelude.{ℕ, ◌≡◌, ◌↔◌, ◌≢◌, ◌⊎◌, Bool, true, not, ◌&&◌, List, [], ◌∷◌, eqb}
use Rattle.std.proofs.Common.{sym, ◌∙◌, ap, subst, inl, inr, ⊎_elim}
use mathlib.Core.List.Memᴰ
use borrow.Author.Tests.{eqb-false, ne_eqb}
use Rattle.laws.specs.Tests.{or_cases, or_left, or_right, and_left, and_right, and_both, not_true, true_not}
use Rattle.laws.specs.Tests.{same_test}
use Rattle.rules.specs.declared.Board.{Board}
use Rattle.rules.specs.Boards.{is_admitted, is_program, everyone, at, admitted}
use Rattle.rules.specs.Orders.{carried}
use Rattle.rules.specs.Digraph.{is_in, step, paths, reaches}
use Rattle.laws.specs.Laws.{◌∈◌, NoRepeat, by_mem, here}
use Rattle.theory.specs.Order.{order_in}
use Rattle.theory.specs.Programs.{of_is, mem-everyone, ins_once, carried_is, admitted_is}
use Rattle.theory.specs.Carried.{holds_on, CompletionOrder}
use Rattle.theory.specs.Reach.{Reaches, direct, through, ReachesOn, mem-admitted, admitted-mem}

-- ── Over any relation ──

-- i is another one than j, and holds it back
abbrev pub edge : (ℕ → ℕ → Bool) → ℕ → ℕ → Bool
edge h i j = not (eqb i j) && h i j

module _ {h : ℕ → ℕ → Bool} where
  reaches_more : {l m : List ℕ} {p x : ℕ} → ((a : ℕ) → a ∈ l → a ∈ m) → Reaches h l p x → Reaches h m p x
  reaches_more f (direct n e) = direct n e
  reaches_more f (through n e m r) = through n e (f _ m) (reaches_more f r)

  reaches_join : {l : List ℕ} {p k x : ℕ} → Reaches h l k x → k ∈ l → Reaches h l p k → Reaches h l p x
  reaches_join (direct n e) m r = through n e m r
  reaches_join (through n e q s) m r = through n e q (reaches_join s m r)

  -- By way of k and others: by way of the others alone, or to k and from k.
  split : {k : ℕ} {ks : List ℕ} {p x : ℕ} → Reaches h (k ∷ ks) p x → Reaches h ks p x ⊎ (Reaches h ks k x × Reaches h ks p k)
  split (direct n e) = inl (direct n e)
  split {k} {ks} {p} {x} (through {y = y} n e m r) = go (split r)
    where
      go : Reaches h ks p y ⊎ (Reaches h ks k y × Reaches h ks p k) → Reaches h ks p x ⊎ (Reaches h ks k x × Reaches h ks p k)
      go (inl a) = by_mem m (λ d. inr (subst (λ z. Reaches h ks z x × Reaches h ks p z) d (direct n e, a))) (λ q. inl (through n e q a))
      go (inr (a, b)) = by_mem m (λ d. inr (subst (λ z. Reaches h ks z x) d (direct n e), b)) (λ q. inr (through n e q a, b))

paths_reach : (h : ℕ → ℕ → Bool) (ks : List ℕ) (x p : ℕ) → paths (edge h) ks x p ≡ true → Reaches h ks p x
unfolding paths
paths_reach h [] x p e = direct (eqb-false x p (not_true (eqb x p) (and_left (not (eqb x p)) (h x p) e))) (and_right (not (eqb x p)) (h x p) e)
paths_reach h (k ∷ ks) x p e = let g = paths (edge h) ks in or_cases (g x p) (g k p && g x k) e
    (λ u. reaches_more (λ a. Memᴰ.tail) (paths_reach h ks x p u))
    (λ u. reaches_join (reaches_more (λ a. Memᴰ.tail) (paths_reach h ks x k (and_right (g k p) (g x k) u))) here
    (reaches_more (λ a. Memᴰ.tail) (paths_reach h ks k p (and_left (g k p) (g x k) u))))

reach_paths : (h : ℕ → ℕ → Bool) (ks : List ℕ) (x p : ℕ) → Reaches h ks p x → paths (edge h) ks x p ≡ true
unfolding paths
reach_paths h [] x p (direct n e) = and_both (not (eqb x p)) (h x p) (true_not (eqb x p) (ne_eqb x p n)) e
reach_paths h [] x p (through n e m r) = absurd (Memᴰ.not-nil m)
reach_paths h (k ∷ ks) x p r = let g = paths (edge h) ks in ⊎_elim
    (λ a. or_left (g x p) (g k p && g x k) (reach_paths h ks x p a))
    (λ a. or_right (g x p) (g k p && g x k) (and_both (g k p) (g x k) (reach_paths h ks k p a.1) (reach_paths h ks x k a.0))) (split r)

-- ── On a board ──

pub in_mem : (b : Board) (x : ℕ) → is_in b x ≡ true → x ∈ admitted b
in_mem b x e = mem-admitted b x (and_left (is_program x) (is_admitted (at b x).standing) e) (and_right (is_program x) (is_admitted (at b x).standing) e)

pub mem_in : (b : Board) (x : ℕ) → x ∈ admitted b → is_in b x ≡ true
mem_in b x m = let (c, e) = admitted-mem b x m in and_both (is_program x) (is_admitted (at b x).standing) (of_is x c) e

module _ (b : Board) where
  -- both are admitted, and i holds back j
  abbrev holds_among : ℕ → ℕ → Bool
  holds_among i j = (is_in b i && is_in b j) && holds_on b i j

  -- A step, from one to another.
  pub step_iff : (i j : ℕ) → (step b i j ≡ true) ↔ ((i ≢ j) × (i ∈ admitted b) × (j ∈ admitted b) × (holds_on b i j ≡ true))
  unfolding step
  step_iff i j = (
    λ e. let u = and_right (not (eqb i j)) (holds_among i j) e in let v = and_left (is_in b i && is_in b j) (holds_on b i j) u in (
      eqb-false i j (not_true (eqb i j) (and_left (not (eqb i j)) (holds_among i j) e)),
      in_mem b i (and_left (is_in b i) (is_in b j) v),
      in_mem b j (and_right (is_in b i) (is_in b j) v),
      and_right (is_in b i && is_in b j) (holds_on b i j) u,
    ),
    λ (n, m, k, e). and_both (not (eqb i j)) (holds_among i j) (true_not (eqb i j) (ne_eqb i j n))
        (and_both (is_in b i && is_in b j) (holds_on b i j) (and_both (is_in b i) (is_in b j) (mem_in b i m) (mem_in b j k)) e),
  )

  -- Paths of steps by way of ks, all admitted programs among them, are those of the matrix.
  module _ (ks : List ℕ) (all_in : (a : ℕ) → a ∈ admitted b → a ∈ ks) where
    out : {p x : ℕ} → Reaches holds_among ks p x → (x ∈ admitted b) × (p ∈ admitted b) × Reaches (holds_on b) (admitted b) p x
    out {p} {x} (direct n e) = let u = and_left (is_in b x && is_in b p) (holds_on b x p) e in (
      in_mem b x (and_left (is_in b x) (is_in b p) u),
      in_mem b p (and_right (is_in b x) (is_in b p) u),
      direct n (and_right (is_in b x && is_in b p) (holds_on b x p) e),
    )
    out {p} {x} (through {y = y} n e m r) = let u = and_left (is_in b x && is_in b y) (holds_on b x y) e in let (i, j, c) = out r in
        (in_mem b x (and_left (is_in b x) (is_in b y) u), j, through n (and_right (is_in b x && is_in b y) (holds_on b x y) e) i c)

    back : {p x : ℕ} → x ∈ admitted b → p ∈ admitted b → Reaches (holds_on b) (admitted b) p x → Reaches holds_among ks p x
    back {p} {x} i j (direct n e) =
        direct n (and_both (is_in b x && is_in b p) (holds_on b x p) (and_both (is_in b x) (is_in b p) (mem_in b x i) (mem_in b p j)) e)
    back {p} {x} i j (through {y = y} n e m r) =
        through n (and_both (is_in b x && is_in b y) (holds_on b x y) (and_both (is_in b x) (is_in b y) (mem_in b x i) (mem_in b y m)) e)
        (all_in y m) (back m j r)

    steps_iff : (x p : ℕ) → (paths (step b) ks x p ≡ true) ↔ ((p ∈ admitted b) × ReachesOn b p x)
    unfolding step
    steps_iff x p = (
      λ e. let (i, j, r) = out (paths_reach holds_among ks x p e) in (j, (i, r)),
      λ (j, (i, r)). reach_paths holds_among ks x p (back i j r),
    )

  -- What stands in the matrix.
  pub reaches_iff : (x p : ℕ) → (reaches b x p ≡ true) ↔ ((p ∈ admitted b) × ReachesOn b p x)
  unfolding reaches
  reaches_iff x p = steps_iff (admitted b) (λ a m. m) x p

  -- It is the same by way of all programs.
  pub reaches_all : (x p : ℕ) → paths (step b) everyone x p ≡ reaches b x p
  reaches_all x p = same_test (paths (step b) everyone x p) (reaches b x p)
      (λ e. (reaches_iff x p).1 ((steps_iff everyone into x p).0 e)) (λ e. (steps_iff everyone into x p).1 ((reaches_iff x p).0 e))
    where
      into : (a : ℕ) → a ∈ admitted b → a ∈ everyone
      into a m = mem-everyone a (admitted-mem b a m).0

pub admitted_once : (b : Board) → NoRepeat (admitted b)
admitted_once b = subst NoRepeat (sym (admitted_is b)) (ins_once b.programs)

pub carried_in : (b : Board) → carried b ≡ order_in (holds_on b) (admitted b)
carried_in b = carried_is b ∙ ap (order_in (holds_on b)) (sym (admitted_is b))

-- "for every sound or unsound arrangement of claims and open files .. some program reaches itself in it exactly when
-- no completion order exists"
abbrev pub ItselfIff : Type 0
ItselfIff = (b : Board) → ((p : ℕ) × (reaches b p p ≡ true)) ↔ ((o : List ℕ) → CompletionOrder b o → ⊥)
