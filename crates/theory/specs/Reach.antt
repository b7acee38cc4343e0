-- One program p comes to hold back more, and all else stays: does a completion order still exist?
-- x *reaches* p if x holds back p, or holds back another one that reaches p. Where an order existed, none exists any more exactly if p
-- now holds back one that reaches it: `no_order_iff`, and on a board, where p is given a file, `unsafe_iff_reach` (proofs/Reach).
-- For code, each half by itself. One exists if some set has everyone that reaches p, and p now holds back nobody in it:
-- `order_by_closed`, `safe-by-closed` (proofs/Reach). None exists if p now holds back one that reaches it: `no_order_by_reach`, `unsafe-by_reach`.
-- Assumes nothing.
use Rattle.std.specs.Prelude.{ℕ, suc, ◌<◌, ◌-◌, ◌≡◌, refl, ◌↔◌, ◌≢◌, true, false, not, cond, ◌&&◌, ◌||◌, List, [], ◌∷◌, ◌++◌, eqb, leb, length}
use Rattle.std.proofs.Common.{arith, sym, ◌∙◌, ap₂, ⊎_elim}
use Rattle.std.proofs.Math.Path.{ap, subst}
use Rattle.std.proofs.Math.Bool.{Bool}
use mathlib.Core.List.Memᴰ
use Rattle.std.proofs.Math.ListN.{get_or-eq_default}
use Rattle.std.proofs.Math.Seq.{get_or-set_same}
use borrow.Author.Tests.{eqb-true, eqb-false, ne_eqb, leb-true, leb-false}
use Rattle.laws.specs.Tests.{by_test, never, and_left, and_right, and_both, no_true, not_true, true_not}
use Rattle.files.specs.Sets.{member}
use Rattle.rules.specs.declared.Program.{Program}
use Rattle.rules.specs.declared.Board.{Board}
use Rattle.laws.specs.Lists.{any, keep, found, without, listed}
use Rattle.rules.specs.Modes.{clashing, some_mode, claim_of, mode_of}
use Rattle.rules.specs.Boards.{no_program, is_admitted, is_program, everyone, at, admitted, opening}
use Rattle.rules.specs.Orders.{holds_back, carried, with_given, safe}
use Rattle.laws.specs.Laws.{◌∈◌, Pairs, NoRepeat, by_mem, here, any_some, some-any, found_some, keep_mem, mem_keep, keep_same}
use Rattle.laws.specs.Laws.{Pairs_keep, without-mem, mem-without, Pairs-without, Pairs_map₂, Pairs-append, listed-mem, mem-listed}
use Rattle.theory.specs.Order.{Clear, IsOrder, order_in, order_in_iff}
use Rattle.theory.specs.Programs.{Is, is_of, of_is, everyone_is, ins, mem-ins, ins-mem}
use Rattle.theory.specs.Programs.{put_other, within_refl, holds_back_mono, holds_back-claims, opening_standing, opening_more}
use Rattle.theory.specs.Modes.{touching-opened}
use Rattle.theory.specs.Carried.{holds_on, order_of_lem}

-- ── Over any relation h of holding back ──

-- x holds back p, or holds back another one of l that reaches p.
pub data Reaches (h : ℕ → ℕ → Bool) (l : List ℕ) (p : ℕ) : ℕ → Type 0 where
  direct : {x : ℕ} → x ≢ p → h x p ≡ true → Reaches h l p x
  through : {x y : ℕ} → x ≢ y → h x y ≡ true → y ∈ l → Reaches h l p y → Reaches h l p x

-- h' differs from h only in what p holds back, and p holds back no fewer.
pub record Grown (h h' : ℕ → ℕ → Bool) (l : List ℕ) (p : ℕ) : Type 0 where
  pub same : (a b : ℕ) → a ∈ l → b ∈ l → a ≢ b → a ≢ p → h' a b ≡ h a b
  pub more : (b : ℕ) → b ∈ l → p ≢ b → h p b ≡ true → h' p b ≡ true

-- s finds everyone that holds back p, or holds back another one that s finds.
pub record Closed (h : ℕ → ℕ → Bool) (l : List ℕ) (p : ℕ) (s : ℕ → Bool) : Type 0 where
  pub base : (x : ℕ) → x ∈ l → x ≢ p → h x p ≡ true → s x ≡ true
  pub step : (x y : ℕ) → x ∈ l → y ∈ l → x ≢ p → y ≢ p → x ≢ y → s y ≡ true → h x y ≡ true → s x ≡ true

-- ── An order exists: those that s finds, then p, then the others ──

around : (R : ℕ → ℕ → Type 0) (s : ℕ → Bool) (p : ℕ) (w : List ℕ) → Pairs R w → ((a : ℕ) → a ∈ w → s a ≡ true → R a p)
    → ((b : ℕ) → b ∈ w → s b ≡ false → R p b) → ((a b : ℕ) → a ∈ w → b ∈ w → s a ≡ true → s b ≡ false → R a b)
    → Pairs R (keep s w ++ (p ∷ keep (λ x. not (s x)) w))
unfolding Pairs
around R s p w c f g k = Pairs-append R (keep s w) (p ∷ keep t w) (Pairs_keep R s w c)
    (λ b m. let r = off b m in g b r.0 r.1, Pairs_keep R t w c)
    (λ a b m n. let q = keep_mem s w a m in by_mem n (λ d. subst (R a) (sym d) (f a q.0 q.1))
    (λ n'. let r = off b n' in k a b q.0 r.0 q.1 r.1))
  where
    t : ℕ → Bool
    t x = not (s x)

    off : (b : ℕ) → b ∈ keep t w → (b ∈ w) × (s b ≡ false)
    off b m = let r = keep_mem t w b m in (r.0, not_true (s b) r.1)

pub order_by_closed : (h h' : ℕ → ℕ → Bool) (l o : List ℕ) (p : ℕ) (s : ℕ → Bool) → IsOrder h l o → p ∈ l → Grown h h' l p
    → Closed h l p s → ((b : ℕ) → b ∈ l → b ≢ p → s b ≡ true → h' p b ≡ false) → (o' : List ℕ) × IsOrder h' l o'
order_by_closed h h' l o p s c i g k f = (
  keep s w ++ (p ∷ keep t w),
  record {
    all = λ a m. by_test (eqb a p) (λ e. Memᴰ.append_right (keep s w) (Memᴰ.head (eqb-true a p e)))
        (λ e. let m' = mem-without p o a (c.all a m) (eqb-false a p e) in by_test (s a)
        (λ u. Memᴰ.append_left (p ∷ keep t w) (mem_keep s w a m' u))
        (λ u. Memᴰ.append_right (keep s w) (Memᴰ.tail (mem_keep t w a m' (true_not (s a) u)))));
    only = λ a m. ⊎_elim (λ m'. (in_l a (keep_mem s w a m').0).0)
        (λ m'. by_mem m' (λ d. Memᴰ.cast d i) (λ n. (in_l a (keep_mem t w a n).0).0)) (Memᴰ.append_cases (keep s w) m);
    once = around (λ a b. a ≢ b) s p w once-w (λ a m u. (in_l a m).1) (λ b m u d. (in_l b m).1 (sym d))
        (λ a b m n u v d. never u (ap s d ∙ v));
    clear = around (λ a b. h' b a ≡ false) s p w
        (Pairs_map₂ (λ a b. a ≢ b) (λ a b. h b a ≡ false) _ w (λ a b m n d u. was b a n m (λ e. d (sym e)) ∙ u) once-w
        (Pairs-without _ p o c.clear))
        (λ a m u. let r = in_l a m in f a r.0 r.1 u)
        (λ b m u. let r = in_l b m in g.same b p r.0 i r.1 r.1 ∙ no_true (h b p) (λ e. never (k.base b r.0 r.1 e) u))
        (λ a b m n u v. let q = in_l a m in let r = in_l b n in let d : b ≢ a = λ e. never u (ap s (sym e) ∙ v) in
        was b a n m d ∙ no_true (h b a) (λ e. never (k.step b a r.0 q.0 r.1 q.1 d u e) v));
  },
)
  where
    t : ℕ → Bool
    t x = not (s x)

    w : List ℕ
    w = without p o

    once-w : NoRepeat w
    once-w = Pairs-without _ p o c.once

    in_l : (a : ℕ) → a ∈ w → (a ∈ l) × (a ≢ p)
    in_l a m = let r = without-mem p o a m in (c.only a r.0, r.1)

    was : (a b : ℕ) → a ∈ w → b ∈ w → a ≢ b → h' a b ≡ h a b
    was a b m n d = g.same a b (in_l a m).0 (in_l b n).0 d (in_l a m).1

-- ── No order exists: whoever reaches p stands before p in every order ──

-- how many stand before a
unfoldable place : ℕ → List ℕ → ℕ
place a [] = 0
place a (x ∷ o) = cond (eqb a x) 0 (suc (place a o))

holds-before : (h : ℕ → ℕ → Bool) (o : List ℕ) → Clear h o → (a b : ℕ) → a ∈ o → b ∈ o → a ≢ b → h a b ≡ true → place a o < place b o
unfolding Pairs place
holds-before h [] c a b m k n e = absurd (Memᴰ.not-nil m)
holds-before h (x ∷ o) c a b m k n e = by_test (eqb b x)
    (λ u. let d = eqb-true b x u in by_mem m (λ d'. absurd (n (d' ∙ sym d))) (λ m'. never e (ap (h a) d ∙ c.0 a m')))
    (λ u. by_test (eqb a x) (λ v. rw (u, v) (omega arith)) (λ v. rw (u, v)
    (by_mem m (λ d. absurd (eqb-false a x v d)) (λ m'. by_mem k (λ d. absurd (eqb-false b x u d))
    (λ k'. let i = holds-before h o c.1 a b m' k' n e in omega arith)))))

grown_holds : (h h' : ℕ → ℕ → Bool) (l : List ℕ) (p a b : ℕ) → Grown h h' l p → a ∈ l → b ∈ l → a ≢ b → h a b ≡ true → h' a b ≡ true
grown_holds h h' l p a b g m k n e = by_test (eqb a p)
    (λ t. let d = eqb-true a p t in ap (λ z. h' z b) d ∙ g.more b k (λ q. n (d ∙ q)) (ap (λ z. h z b) (sym d) ∙ e))
    (λ t. g.same a b m k n (eqb-false a p t) ∙ e)

reaches-before : (h h' : ℕ → ℕ → Bool) (l o : List ℕ) (p : ℕ) → IsOrder h' l o → p ∈ l → Grown h h' l p → (x : ℕ) → x ∈ l
    → Reaches h l p x → place x o < place p o
reaches-before h h' l o p c i g x m (direct n e) =
    holds-before h' o c.clear x p (c.all x m) (c.all p i) n (grown_holds h h' l p x p g m i n e)
reaches-before h h' l o p c i g x m (through {y = y} d e k r) =
    let u = holds-before h' o c.clear x y (c.all x m) (c.all y k) d (grown_holds h h' l p x y g m k d e) in
    let v = reaches-before h h' l o p c i g y k r in omega arith

pub no_order_by_reach : (h h' : ℕ → ℕ → Bool) (l o : List ℕ) (p b : ℕ) → p ∈ l → Grown h h' l p → b ∈ l → Reaches h l p b
    → h' p b ≡ true → IsOrder h' l o → ⊥
no_order_by_reach h h' l o p b i g m r e c =
    let u = reaches-before h h' l o p c i g b m r in by_test (eqb b p)
    (λ t. let d = ap (λ z. place z o) (eqb-true b p t) in omega arith)
    (λ t. let v = holds-before h' o c.clear p b (c.all p i) (c.all b m) (λ d. eqb-false b p t (sym d)) e in omega arith)

same_grown : (h : ℕ → ℕ → Bool) (l : List ℕ) (p : ℕ) → Grown h h l p
same_grown h l p = record { same = λ a b m k n d. refl; more = λ b m n e. e }

-- Where an order exists, nobody reaches itself.
pub no_order_by_round : (h : ℕ → ℕ → Bool) (l o : List ℕ) (p : ℕ) → p ∈ l → Reaches h l p p → IsOrder h l o → ⊥
no_order_by_round h l o p m r c = let u = reaches-before h h l o p c m (same_grown h l p) p m r in omega arith

-- ── Both together ──

-- x holds back another one of r
unfoldable holds_in : (ℕ → ℕ → Bool) → List ℕ → ℕ → Bool
holds_in h r x = any (λ y. not (eqb x y) && h x y) r

holds_in_some : (h : ℕ → ℕ → Bool) (r : List ℕ) (x : ℕ) → holds_in h r x ≡ true → (y : ℕ) × (y ∈ r) × (x ≢ y) × (h x y ≡ true)
unfolding holds_in
holds_in_some h r x e = let (y, m, u) = any_some (λ y. not (eqb x y) && h x y) r e in
    (y, m, eqb-false x y (not_true (eqb x y) (and_left (not (eqb x y)) (h x y) u)), and_right (not (eqb x y)) (h x y) u)

some_holds_in : (h : ℕ → ℕ → Bool) (r : List ℕ) (x y : ℕ) → y ∈ r → x ≢ y → h x y ≡ true → holds_in h r x ≡ true
unfolding holds_in
some_holds_in h r x y m n e = some-any (λ y. not (eqb x y) && h x y) r y m (and_both (not (eqb x y)) (h x y)
    (true_not (eqb x y) (ne_eqb x y n)) e)

-- p and those of the order o that reach it: from the last to the first, each that holds back another one found so far.
unfoldable reachers : (ℕ → ℕ → Bool) → ℕ → List ℕ → List ℕ
reachers h p [] = p ∷ []
reachers h p (x ∷ o) = cond (holds_in h (reachers h p o) x) (x ∷ reachers h p o) (reachers h p o)

by_reachers : {C : Type 0} (h : ℕ → ℕ → Bool) (p x a : ℕ) (o : List ℕ) → a ∈ reachers h p (x ∷ o)
    → (a ≡ x → holds_in h (reachers h p o) x ≡ true → C) → (a ∈ reachers h p o → C) → C
unfolding reachers
by_reachers h p x a o m f g = by_test (holds_in h (reachers h p o) x) (λ u. by_mem (rw u at m) (λ d. f d u) g) (λ u. g (rw u at m))

more_reachers : (h : ℕ → ℕ → Bool) (p x a : ℕ) (o : List ℕ) → a ∈ reachers h p o → a ∈ reachers h p (x ∷ o)
unfolding reachers
more_reachers h p x a o m = by_test (holds_in h (reachers h p o) x) (λ u. rw u (Memᴰ.tail m)) (λ u. rw u m)

reachers-p : (h : ℕ → ℕ → Bool) (p : ℕ) (o : List ℕ) → p ∈ reachers h p o
unfolding reachers
reachers-p h p [] = here
reachers-p h p (x ∷ o) = more_reachers h p x p o (reachers-p h p o)

reachers_reach : (h : ℕ → ℕ → Bool) (l : List ℕ) (p : ℕ) (o : List ℕ) → ((a : ℕ) → a ∈ o → a ∈ l) → (a : ℕ) → a ∈ reachers h p o
    → a ≢ p → (a ∈ l) × Reaches h l p a
unfolding reachers
reachers_reach h l p [] f a m n = by_mem m (λ d. absurd (n d)) (λ k. absurd (Memᴰ.not-nil k))
reachers_reach h l p (x ∷ o) f a m n = by_reachers h p x a o m
    (λ d u. let (y, k, q, e) = holds_in_some h (reachers h p o) x u in (
      f a (Memᴰ.head d),
      by_test (eqb y p)
          (λ t. direct n (ap (λ z. h z p) d ∙ ap (h x) (sym (eqb-true y p t)) ∙ e))
          (λ t. let r = reachers_reach h l p o (λ a m. f a (Memᴰ.tail m)) y k (eqb-false y p t) in
          through (λ z. q (sym d ∙ z)) (ap (λ z. h z y) d ∙ e) r.0 r.1),
    ))
    (λ k. reachers_reach h l p o (λ a m. f a (Memᴰ.tail m)) a k n)

reachers_closed : (h : ℕ → ℕ → Bool) (p : ℕ) (o : List ℕ) → Clear h o → (x y : ℕ) → x ∈ o → y ∈ reachers h p o → x ≢ y → h x y ≡ true
    → x ∈ reachers h p o
unfolding Pairs reachers
reachers_closed h p [] c x y m k n e = absurd (Memᴰ.not-nil m)
reachers_closed h p (z ∷ o) c x y m k n e = by_mem m
    (λ d. by_reachers h p z y o k (λ d' u. absurd (n (d ∙ sym d')))
    (λ k'. rw (some_holds_in h (reachers h p o) z y k' (λ q. n (d ∙ q)) (ap (λ w. h w y) (sym d) ∙ e)) (Memᴰ.head d)))
    (λ m'. by_reachers h p z y o k (λ d u. never e (ap (h x) d ∙ c.0 x m'))
    (λ k'. more_reachers h p z x o (reachers_closed h p o c.1 x y m' k' n e)))

-- Where h has an order, h' has none exactly if p comes to hold back one that reaches it.
pub no_order_iff : (h h' : ℕ → ℕ → Bool) (l o : List ℕ) (p : ℕ) → NoRepeat l → IsOrder h l o → p ∈ l → Grown h h' l p
    → (found (order_in h' l) ≡ false) ↔ ((b : ℕ) × (b ∈ l) × (b ≢ p) × (h' p b ≡ true) × Reaches h l p b)
no_order_iff h h' l o p n c i g = (
  λ e. by_test (holds_in h' r p)
      (λ u. let (b, m, d, v) = holds_in_some h' r p u in let q : b ≢ p = λ z. d (sym z) in
      let k = reachers_reach h l p o c.only b m q in (b, k.0, q, v, k.1))
      (λ u. let (o', k) = order_by_closed h h' l o p s c i g closed (λ b m d v. no_true (h' p b)
      (λ w. never (some_holds_in h' r p b (listed-mem b r v) (λ z. d (sym z)) w) u)) in
      never (ap found ((order_in_iff h' l n).1 (o', k)).1) e),
  λ (b, m, d, e, r). no_true (found (order_in h' l)) (λ u. let (o', k) = (order_in_iff h' l n).0 (found_some (order_in h' l) u) in
      no_order_by_reach h h' l o' p b i g m r e k),
)
  where
    r : List ℕ
    r = reachers h p o

    s : ℕ → Bool
    s x = listed x r

    closed : Closed h l p s
    closed = record {
      base = λ x m d e. mem-listed x r (reachers_closed h p o c.clear x p (c.all x m) (reachers-p h p o) d e);
      step = λ x y m k d d' n u e. mem-listed x r (reachers_closed h p o c.clear x y (c.all x m) (listed-mem y r u) n e);
    }

-- ── A file given ──

-- Whom q holds back with f given: whom it held back, and who claims f in a mode that clashes with the one in which q opens it.
pub given_holds : (q j : Program) (f : ℕ) → holds_back (opening q f) j
    ≡ holds_back q j || some_mode (λ n. clashing (mode_of q f) n && member (claim_of n j) f)
unfolding opening
given_holds q j f = touching-opened (mode_of q f) q f (λ n. claim_of n j)

-- ── On a board ──

-- x is an admitted program other than p
abbrev pub is_other : Board → ℕ → ℕ → Bool
is_other b p x = is_program x && is_admitted (at b x).standing && not (eqb x p)

-- the admitted program x reaches p on the board
abbrev pub ReachesOn : Board → ℕ → ℕ → Type 0
ReachesOn b p x = (x ∈ admitted b) × Reaches (holds_on b) (admitted b) p x

-- s finds every other program that holds back p, or holds back another one that s finds.
pub record ClosedOn (b : Board) (p : ℕ) (s : ℕ → Bool) : Type 0 where
  pub base : (x : ℕ) → is_other b p x ≡ true → holds_on b x p ≡ true → s x ≡ true
  pub step : (x y : ℕ) → is_other b p x ≡ true → is_other b p y ≡ true → eqb x y ≡ false → s y ≡ true → holds_on b x y ≡ true → s x ≡ true

pub mem-admitted : (b : Board) (x : ℕ) → is_program x ≡ true → is_admitted (at b x).standing ≡ true → x ∈ admitted b
unfolding admitted ins
mem-admitted b x c e = mem-ins b.programs x (is_of x c) e

pub admitted-mem : (b : Board) (x : ℕ) → x ∈ admitted b → Is x × (is_admitted (at b x).standing ≡ true)
unfolding admitted ins
admitted-mem b x m = ins-mem b.programs x m

other-mem : (b : Board) (p x : ℕ) → is_other b p x ≡ true → (x ∈ admitted b) × (x ≢ p)
other-mem b p x e =
    let c = is_program x in let a = is_admitted (at b x).standing in let n = not (eqb x p) in
    let u = and_left (c && a) n e in
    (mem-admitted b x (and_left c a u) (and_right c a u), eqb-false x p (not_true (eqb x p) (and_right (c && a) n e)))

pub mem-other : (b : Board) (p x : ℕ) → x ∈ admitted b → x ≢ p → is_other b p x ≡ true
mem-other b p x m n =
    let (c, e) = admitted-mem b x m in let a = is_admitted (at b x).standing in
    and_both (is_program x && a) (not (eqb x p)) (and_both (is_program x) a (of_is x c) e) (true_not (eqb x p) (ne_eqb x p n))

-- The two ways to reach p, by tests.
pub reaches-direct : (b : Board) (p x : ℕ) → is_other b p x ≡ true → holds_on b x p ≡ true → ReachesOn b p x
reaches-direct b p x c e = let r = other-mem b p x c in (r.0, direct r.1 e)

pub reaches-through : (b : Board) (p x y : ℕ) → is_other b p x ≡ true → eqb x y ≡ false → holds_on b x y ≡ true → ReachesOn b p y
    → ReachesOn b p x
reaches-through b p x y c n e k = ((other-mem b p x c).0, through (eqb-false x y n) e k.0 k.1)

-- On a board that has an order, p holds back nobody that reaches it.
pub no_back : (b : Board) (p x : ℕ) → is_program p ≡ true → is_admitted (at b p).standing ≡ true → found (carried b) ≡ true
    → ReachesOn b p x → holds_on b p x ≡ false
no_back b p x c a e r = no_true (holds_on b p x) (λ t. let (o, u) = order_of_lem b e in
    no_order_by_reach (holds_on b) (holds_on b) (admitted b) o p x (mem-admitted b p c a)
    (same_grown (holds_on b) (admitted b) p) r.0 r.1 t u)

module _ (b : Board) (p f : ℕ) (c : is_program p ≡ true) (a : is_admitted (at b p).standing ≡ true) where
  pub given-same : at (with_given b p f) p ≡ opening (at b p) f
  unfolding with_given
  given-same = get_or-set_same b.programs (p - 1) (opening (at b p) f) no_program (by_test (leb (length b.programs) (p - 1))
      (λ t. never a (ap (λ (q : Program). is_admitted q.standing) (get_or-eq_default b.programs no_program (leb-true _ _ t))))
      (λ t. leb-false _ _ t))

  pub given-other : (i : ℕ) → Is i → i ≢ p → at (with_given b p f) i ≡ at b i
  unfolding with_given
  given-other i k n = put_other b.programs p i (opening (at b p) f) (is_of p c) k n

  pub given-admitted : admitted (with_given b p f) ≡ admitted b
  unfolding admitted
  given-admitted = keep_same _ _ everyone (λ i m. by_test (eqb i p)
      (λ t. let d = eqb-true i p t in ap (λ j. is_admitted (at (with_given b p f) j).standing) d ∙ ap standing_in given-same
      ∙ ap is_admitted (opening_standing (at b p) f) ∙ ap (λ j. is_admitted (at b j).standing) (sym d))
      (λ t. ap standing_in (given-other i (everyone_is i m) (eqb-false i p t))))
    where
      standing_in : Program → Bool
      standing_in q = is_admitted q.standing

  -- whom p holds back with f given
  pub given_by : (x : ℕ) → x ∈ admitted b → x ≢ p → holds_on (with_given b p f) p x ≡ holds_back (opening (at b p) f) (at b x)
  given_by x m n = ap₂ holds_back given-same (given-other x (admitted-mem b x m).0 n)

  pub given_grown : Grown (holds_on b) (holds_on (with_given b p f)) (admitted b) p
  given_grown = record {
    same = λ x y m k n d. ap (λ q. holds_back q (at (with_given b p f) y)) (given-other x (admitted-mem b x m).0 d) ∙ by_test (eqb y p)
        (λ t. let e = eqb-true y p t in ap (λ j. holds_back (at b x) (at (with_given b p f) j)) e ∙ ap (holds_back (at b x)) given-same
        ∙ holds_back-claims (at b x) (at b p) f ∙ ap (holds_on b x) (sym e))
        (λ t. ap (holds_back (at b x)) (given-other y (admitted-mem b y k).0 (eqb-false y p t)));
    more = λ x m n e. given_by x m (λ d. n (sym d)) ∙ holds_back_mono (at b p) (at b x) (opening (at b p) f) (at b x)
        (opening_more (at b p) f) (within_refl (at b x)) e;
  }

  -- None comes back, if p then holds back one that reaches it.
  pub unsafe-by_reach : (x : ℕ) → ReachesOn b p x → holds_back (opening (at b p) f) (at b x) ≡ true → safe b p f ≡ false
  unfolding safe
  unsafe-by_reach x (m, r) e = no_true (safe b p f) (λ t. let (o, u) = order_of_lem (with_given b p f) t in
      let k = subst (λ l. IsOrder (holds_on (with_given b p f)) l o) given-admitted u in
      let i = mem-admitted b p c a in by_test (eqb x p)
      (λ d. let v = reaches-before (holds_on b) (holds_on (with_given b p f)) (admitted b) o p k i given_grown x m r in
      let z = ap (λ y. place y o) (eqb-true x p d) in omega arith)
      (λ d. no_order_by_reach (holds_on b) (holds_on (with_given b p f)) (admitted b) o p x i given_grown m r
      (given_by x m (eqb-false x p d) ∙ e) k))
