-- Loops: what they are, the test that accepts them and no others, and that there is one where no completion order exists.
-- Assumes nothing.
use Rattle.std.specs.Prelude.{ℕ, zero, suc, ◌+◌, ◌<◌, ◌≤◌, ◌≡◌, refl, ◌↔◌, ◌≢◌, ◌⊎◌, Bool, true, false, not, cond, ◌&&◌, List, [], ◌∷◌, eqb, leb}
use Rattle.std.specs.Prelude.{length}
use Rattle.std.proofs.Common.{arith, sym, ◌∙◌, ap, ap₂, inl, inr, eqb-true, leb-true, le-leb}
use Rattle.std.proofs.Math.Option.{none}
use mathlib.Core.List.Memᴰ
use Rattle.std.proofs.lemmas.Bool.{eqb-false}
use Rattle.laws.specs.Tests.{by_test, by_option, never, and_left, and_right, and_both, not_true, not_of}
use Rattle.laws.specs.Lists.{first, with_found, without, listed, distinct}
use Rattle.rules.specs.Digraph.{leads_to, closes, is_loop_of}
use Rattle.laws.specs.Laws.{◌∈◌, Pairs, NoRepeat, by_mem, here, no_some, any_some, first_some, first-none}
use Rattle.laws.specs.Laws.{without-mem, Pairs-without, length_without, no_longer, listed-mem, mem-listed, distinct_once, once_distinct}
use Rattle.theory.specs.Order.{held_in, search, order_in}
use Rattle.theory.specs.Reach.{Reaches, direct, through}

-- x holds back the first of L, each of L the next, and the last of them z.
unfoldable pub LeadsTo : (ℕ → ℕ → Bool) → ℕ → ℕ → List ℕ → Type 0
LeadsTo h z x [] = h x z ≡ true
LeadsTo h z x (y ∷ L) = (h x y ≡ true) × LeadsTo h z y L

-- "each holding back the next and the last the first"
unfoldable pub Closes : (ℕ → ℕ → Bool) → List ℕ → Type 0
Closes h [] = ⊥
Closes h (x ∷ L) = LeadsTo h x x L

-- "a list of two or more different programs, each holding back the next and the last the first", all of l
pub record IsLoop (h : ℕ → ℕ → Bool) (l L : List ℕ) : Type 0 where
  pub two : 2 ≤ length L
  pub different : NoRepeat L
  pub within : (a : ℕ) → a ∈ L → a ∈ l
  pub closed : Closes h L

-- ── The test ──

leads_iff : (g : ℕ → ℕ → Bool) (z x : ℕ) (L : List ℕ) → (leads_to g z x L ≡ true) ↔ LeadsTo g z x L
unfolding leads_to LeadsTo
leads_iff g z x [] = (λ e. e, λ e. e)
leads_iff g z x (y ∷ L) = (
  λ e. (and_left (g x y) (leads_to g z y L) e, (leads_iff g z y L).0 (and_right (g x y) (leads_to g z y L) e)),
  λ c. and_both (g x y) (leads_to g z y L) c.0 ((leads_iff g z y L).1 c.1),
)

closes_iff : (g : ℕ → ℕ → Bool) (L : List ℕ) → (closes g L ≡ true) ↔ Closes g L
unfolding closes Closes
closes_iff g [] = (λ e. never {t = false} e refl, λ c. absurd c)
closes_iff g (x ∷ L) = leads_iff g x x L

-- each of the list holds back somebody
leads_within : (g : ℕ → ℕ → Bool) (l : List ℕ) → ((a b : ℕ) → g a b ≡ true → a ∈ l) → (z x : ℕ) (L : List ℕ) → LeadsTo g z x L
    → (a : ℕ) → a ∈ x ∷ L → a ∈ l
unfolding LeadsTo
leads_within g l f z x [] c a m = by_mem m (λ d. Memᴰ.cast d (f x z c)) (λ k. absurd (Memᴰ.not-nil k))
leads_within g l f z x (y ∷ L) c a m = by_mem m (λ d. Memᴰ.cast d (f x y c.0)) (leads_within g l f z y L c.1 a)

closes-within : (g : ℕ → ℕ → Bool) (l L : List ℕ) → ((a b : ℕ) → g a b ≡ true → a ∈ l) → Closes g L
    → (a : ℕ) → a ∈ L → a ∈ l
unfolding Closes
closes-within g l [] f c = absurd c
closes-within g l (x ∷ L) f c = leads_within g l f x x L c

-- what the test finds
pub test_two : (g : ℕ → ℕ → Bool) (L : List ℕ) → is_loop_of g L ≡ true → (2 ≤ length L) × NoRepeat L × Closes g L
unfolding is_loop_of
test_two g L e = let u = and_left (leb 2 (length L) && distinct L) (closes g L) e in (
  leb-true 2 (length L) (and_left (leb 2 (length L)) (distinct L) u),
  distinct_once L (and_right (leb 2 (length L)) (distinct L) u),
  (closes_iff g L).0 (and_right (leb 2 (length L) && distinct L) (closes g L) e),
)

-- A loop passes the test.
pub loop_test : (g : ℕ → ℕ → Bool) (l L : List ℕ) → IsLoop g l L → is_loop_of g L ≡ true
unfolding is_loop_of
loop_test g l L c = and_both (leb 2 (length L) && distinct L) (closes g L)
    (and_both (leb 2 (length L)) (distinct L) (le-leb 2 (length L) c.two) (once_distinct L c.different)) ((closes_iff g L).1 c.closed)

-- Where only members of l hold back anybody, the test accepts all loops of members of l and no others.
pub is_loop_iff : (g : ℕ → ℕ → Bool) (l L : List ℕ) → ((a b : ℕ) → g a b ≡ true → a ∈ l) → (is_loop_of g L ≡ true) ↔ IsLoop g l L
is_loop_iff g l L f = (
  λ e. let (t, d, c) = test_two g L e in record { two = t; different = d; within = closes-within g l L f c; closed = c },
  loop_test g l L,
)

leads_same : (g g' : ℕ → ℕ → Bool) → ((a b : ℕ) → g a b ≡ g' a b) → (z x : ℕ) (L : List ℕ) → leads_to g z x L ≡ leads_to g' z x L
unfolding leads_to
leads_same g g' f z x [] = f x z
leads_same g g' f z x (y ∷ L) = ap₂ ◌&&◌ (f x y) (leads_same g g' f z y L)

-- The test asks only who holds back whom.
pub is_loop-same : (g g' : ℕ → ℕ → Bool) (L : List ℕ) → ((a b : ℕ) → g a b ≡ g' a b) → is_loop_of g L ≡ is_loop_of g' L
unfolding is_loop_of closes
is_loop-same g g' [] f = refl
is_loop-same g g' (x ∷ L) f = ap (λ t. leb 2 (length (x ∷ L)) && distinct (x ∷ L) && t) (leads_same g g' f x x L)

-- ── Only what different members of l hold back counts ──

leads_on : (h g : ℕ → ℕ → Bool) (l : List ℕ) → ((a b : ℕ) → a ∈ l → b ∈ l → a ≢ b → h a b ≡ true → g a b ≡ true)
    → (z x : ℕ) (L : List ℕ) → z ∈ l → ((a : ℕ) → a ∈ x ∷ L → a ∈ l) → ((a : ℕ) → a ∈ x ∷ L → a ≢ z)
    → NoRepeat (x ∷ L) → LeadsTo h z x L → LeadsTo g z x L
unfolding LeadsTo Pairs
leads_on h g l f z x [] k m n d c = f x z (m x here) k (n x here) c
leads_on h g l f z x (y ∷ L) k m n d c = (
  f x y (m x here) (m y (Memᴰ.tail here)) (d.0 y here) c.0,
  leads_on h g l f z y L k (λ a q. m a (Memᴰ.tail q)) (λ a q. n a (Memᴰ.tail q)) d.1 c.1,
)

pub loop_on : (h g : ℕ → ℕ → Bool) (l L : List ℕ) → ((a b : ℕ) → a ∈ l → b ∈ l → a ≢ b → h a b ≡ true → g a b ≡ true) → IsLoop h l L → IsLoop g l L
unfolding Closes LeadsTo Pairs
loop_on h g l [] f c = absurd c.closed
loop_on h g l (x ∷ []) f c = absurd (let t = c.two in omega arith)
loop_on h g l (x ∷ (y ∷ L)) f c = record {
  two = c.two;
  different = c.different;
  within = c.within;
  closed = (
    f x y (c.within x here) (c.within y (Memᴰ.tail here)) (c.different.0 y here) c.closed.0,
    leads_on h g l f x y L (c.within x here) (λ a q. c.within a (Memᴰ.tail q)) (λ a q d. c.different.0 a q (sym d))
        c.different.1 c.closed.1,
  );
}

-- ── One of a loop reaches itself ──

leads_reach : (h : ℕ → ℕ → Bool) (l : List ℕ) (z x : ℕ) (L : List ℕ) → ((a : ℕ) → a ∈ L → a ∈ l) → ((a : ℕ) → a ∈ x ∷ L → a ≢ z)
    → NoRepeat (x ∷ L) → LeadsTo h z x L → Reaches h l z x
unfolding LeadsTo Pairs
leads_reach h l z x [] f n d c = direct (n x here) c
leads_reach h l z x (y ∷ L) f n d c = through (d.0 y here) c.0 (f y here)
    (leads_reach h l z y L (λ a m. f a (Memᴰ.tail m)) (λ a m. n a (Memᴰ.tail m)) d.1 c.1)

pub loop_round : (h : ℕ → ℕ → Bool) (l L : List ℕ) → IsLoop h l L → (p : ℕ) × (p ∈ l) × Reaches h l p p
unfolding Closes LeadsTo Pairs
loop_round h l [] c = absurd c.closed
loop_round h l (x ∷ []) c = absurd (let t = c.two in omega arith)
loop_round h l (x ∷ (y ∷ L)) c = (
  x,
  c.within x here,
  through (c.different.0 y here) c.closed.0 (c.within y (Memᴰ.tail here)) (leads_reach h l x y L
      (λ a m. c.within a (Memᴰ.tail (Memᴰ.tail m))) (λ a m d. c.different.0 a m (sym d)) c.different.1 c.closed.1),
)

-- ── Going back from holder to holder until one comes again ──

-- Everybody of s is held back by another one of s.
abbrev pub AllHeld : (ℕ → ℕ → Bool) → List ℕ → Type 0
AllHeld h s = (a : ℕ) → a ∈ s → held_in h s a ≡ true

-- the list up to and with y
unfoldable pub up_to : ℕ → List ℕ → List ℕ
up_to y [] = []
up_to y (x ∷ c) = x ∷ cond (eqb x y) [] (up_to y c)

-- The loop that going back from x finds, each time to the first of s that holds back the one before; c is what x leads to:
-- x holds back the first of c, and each the next.
unfoldable pub walk : (ℕ → ℕ → Bool) → List ℕ → ℕ → ℕ → List ℕ → List ℕ
walk h s zero x c = []
walk h s (suc n) x c =
    with_found (first (λ y. not (eqb y x) && h y x) s) [] (λ y. cond (listed y c) (x ∷ up_to y c) (walk h s n y (x ∷ c)))

-- x holds back the first of c, and each the next
unfoldable Chain : (ℕ → ℕ → Bool) → ℕ → List ℕ → Type 0
Chain h x [] = Unit {0}
Chain h x (y ∷ c) = (h x y ≡ true) × Chain h y c

up_to_mem : (y : ℕ) (c : List ℕ) (a : ℕ) → a ∈ up_to y c → a ∈ c
unfolding up_to
up_to_mem y [] a m = m
up_to_mem y (x ∷ c) a m = by_mem m Memᴰ.head (λ k. by_test (eqb x y) (λ u. absurd (Memᴰ.not-nil (rw u at k)))
    (λ u. Memᴰ.tail (up_to_mem y c a (rw u at k))))

Pairs_up_to : (R : ℕ → ℕ → Type 0) (y : ℕ) (c : List ℕ) → Pairs R c → Pairs R (up_to y c)
unfolding up_to Pairs
Pairs_up_to R y [] p = tt
Pairs_up_to R y (x ∷ c) p = by_test (eqb x y) (λ u. rw u (λ b m. absurd (Memᴰ.not-nil m), tt))
    (λ u. rw u (λ b m. p.0 b (up_to_mem y c b m), Pairs_up_to R y c p.1))

up_to_some : (y : ℕ) (c : List ℕ) → y ∈ c → 1 ≤ length (up_to y c)
unfolding up_to
up_to_some y [] m = absurd (Memᴰ.not-nil m)
up_to_some y (x ∷ c) m = omega arith

up_to_leads : (h : ℕ → ℕ → Bool) (z y x : ℕ) (c : List ℕ) → y ∈ c → h y z ≡ true → Chain h x c → LeadsTo h z x (up_to y c)
unfolding up_to LeadsTo Chain
up_to_leads h z y x [] m e k = absurd (Memᴰ.not-nil m)
up_to_leads h z y x (w ∷ c) m e k = by_test (eqb w y)
    (λ u. rw u (k.0, ap (λ q. h q z) (eqb-true w y u) ∙ e))
    (λ u. rw u (k.0, up_to_leads h z y w c (by_mem m (λ d. absurd (eqb-false w y u (sym d))) (λ q. q)) e k.1))

walk_loop : (h : ℕ → ℕ → Bool) (s : List ℕ) (n x : ℕ) (c : List ℕ) → AllHeld h s → length s < n + length (x ∷ c)
    → ((a : ℕ) → a ∈ x ∷ c → a ∈ s) → NoRepeat (x ∷ c) → Chain h x c → IsLoop h s (walk h s n x c)
unfolding walk held_in Chain Closes Pairs
walk_loop h s zero x c t b f d k = absurd (let i = no_longer (x ∷ c) s d f in omega arith)
walk_loop h s (suc n) x c t b f d k = by_option (first (λ y. not (eqb y x) && h y x) s)
    (λ u. let (y, m, e) = any_some (λ y. not (eqb y x) && h y x) s (t x (f x here)) in never e (first-none (λ y. not (eqb y x) && h y x) s u y m))
    (λ y u. let g = first_some (λ y. not (eqb y x) && h y x) s y u in
    let other = eqb-false y x (not_true (eqb y x) (and_left (not (eqb y x)) (h y x) g.1)) in
    let holds = and_right (not (eqb y x)) (h y x) g.1 in by_test (listed y c)
    (λ v. let m = listed-mem y c v in let i = up_to_some y c m in rw (u, v) (record {
      two = omega arith;
      different = (λ b q. d.0 b (up_to_mem y c b q), Pairs_up_to _ y c d.1);
      within = λ a q. by_mem q (λ e. f a (Memᴰ.head e)) (λ q'. f a (Memᴰ.tail (up_to_mem y c a q')));
      closed = up_to_leads h x y x c m holds k;
    }))
    (λ v. rw (u, v) (walk_loop h s n y (x ∷ c) t (omega arith) (λ a q. by_mem q (λ e. Memᴰ.cast e g.0) (f a))
    (λ b q e. by_mem q (λ w. other (e ∙ w)) (λ w. never (mem-listed y c (Memᴰ.cast e w)) v), d) (holds, k))))

-- Going back from any of s, as long as s has members, finds a loop.
pub held_loop : (h : ℕ → ℕ → Bool) (l s : List ℕ) (n x : ℕ) → AllHeld h s → ((a : ℕ) → a ∈ s → a ∈ l) → x ∈ s → length s ≤ n
    → IsLoop h l (walk h s n x [])
unfolding Chain Pairs
held_loop h l s n x t f m b =
    let r = walk_loop h s n x [] t (omega arith) (λ a k. by_mem k (λ d. Memᴰ.cast d m) (λ q. absurd (Memᴰ.not-nil q)))
    (λ b k. absurd (Memᴰ.not-nil k), tt) tt in
    record { two = r.two; different = r.different; within = λ a k. f a (r.within a k); closed = r.closed }

-- ── Where no order exists ──

-- what is left where the search can take nobody
unfoldable stuck : (ℕ → ℕ → Bool) → ℕ → List ℕ → List ℕ
stuck h zero l = []
stuck h (suc n) l = with_found (first (λ p. not (held_in h l p)) l) l (λ p. stuck h n (without p l))

-- Somebody is left, and everybody left is held back by another one left.
record Stuck (h : ℕ → ℕ → Bool) (l s : List ℕ) : Type 0 where
  pub some_left : 0 < length s
  pub within : (a : ℕ) → a ∈ s → a ∈ l
  pub held : AllHeld h s

search-stuck : (h : ℕ → ℕ → Bool) (n : ℕ) (l : List ℕ) → NoRepeat l → length l ≡ n → search h n l ≡ none → Stuck h l (stuck h n l)
unfolding search stuck
search-stuck h zero l r k e = no_some (sym e)
search-stuck h (suc n) l r k e = by_option (first (λ p. not (held_in h l p)) l)
    (λ u. rw u (record {
      some_left = omega arith;
      within = λ a m. m;
      held = λ a m. not_of (held_in h l a) (first-none (λ p. not (held_in h l p)) l u a m);
    }))
    (λ p u. let f = first_some (λ q. not (held_in h l q)) l p u in
    let i = length_without p l r f.0 in
    let c = search-stuck h n (without p l) (Pairs-without _ p l r) (omega arith)
    (by_option (search h n (without p l)) (λ v. v) (λ o v. no_some (sym (rw (u, v) at e)))) in
    rw u (record { some_left = c.some_left; within = λ a m. (without-mem p l a (c.within a m)).0; held = c.held }))

unfoldable loop_from : (ℕ → ℕ → Bool) → List ℕ → List ℕ
loop_from h [] = []
loop_from h (x ∷ s) = walk h (x ∷ s) (length (x ∷ s)) x []

stuck_loop : (h : ℕ → ℕ → Bool) (l s : List ℕ) → Stuck h l s → IsLoop h l (loop_from h s)
unfolding loop_from
stuck_loop h l [] c = absurd (let i = c.some_left in omega arith)
stuck_loop h l (x ∷ s) c = held_loop h l (x ∷ s) (length (x ∷ s)) x c.held c.within here (omega arith)

-- Where no order comes back, there is a loop.
pub unordered_loop : (h : ℕ → ℕ → Bool) (l : List ℕ) → NoRepeat l → order_in h l ≡ none → (L : List ℕ) × IsLoop h l L
unordered_loop h l n e = let s = stuck h (length l) l in (loop_from h s, stuck_loop h l s (search-stuck h (length l) l n refl e))

-- ── Those that reach themselves ──

-- the last step of a chain
last_step : (h : ℕ → ℕ → Bool) (l : List ℕ) (p x : ℕ) → x ∈ l → Reaches h l p x
    → (y : ℕ) × (y ∈ l) × (y ≢ p) × (h y p ≡ true) × ((x ≡ y) ⊎ Reaches h l y x)
last_step h l p x m (direct n e) = (x, m, n, e, inl refl)
last_step h l p x m (through {y = z} n e k r) = let (y, i, d, u, c) = last_step h l p z k r in (y, i, d, u, inr (on y c))
  where
    on : (y : ℕ) → (z ≡ y) ⊎ Reaches h l y z → Reaches h l y x
    on y (inl d) = direct (λ q. n (q ∙ sym d)) (ap (h x) (sym d) ∙ e)
    on y (inr q) = through n e k q

-- One that reaches itself is held back by another one that reaches itself.
pub round-held : (h : ℕ → ℕ → Bool) (l : List ℕ) (p : ℕ) → p ∈ l → Reaches h l p p
    → (y : ℕ) × (y ∈ l) × (y ≢ p) × (h y p ≡ true) × Reaches h l y y
round-held h l p m r = let (y, i, n, e, c) = last_step h l p p m r in (y, i, n, e, go y n e c)
  where
    go : (y : ℕ) → y ≢ p → h y p ≡ true → (p ≡ y) ⊎ Reaches h l y p → Reaches h l y y
    go y n e (inl d) = absurd (n (sym d))
    go y n e (inr q) = through n e m q
