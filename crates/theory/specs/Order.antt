-- Completion orders over any relation h of holding back: `h i j` says that i holds back j.
-- Assumes nothing.
use Rattle.std.specs.Prelude.{ℕ, zero, suc, ◌≡◌, refl, ◌↔◌, ◌≢◌, ◌⊎◌, Bool, true, false, not, ◌&&◌, List, [], ◌∷◌, ◌++◌, eqb, length}
use Rattle.std.proofs.Common.{arith, sym, ◌∙◌, ap, inl, inr, ⊎_elim, eqb-true, ne_eqb}
use Rattle.std.proofs.Math.Option.{Option, none, some}
use mathlib.Core.List.Memᴰ
use Rattle.std.proofs.lemmas.Bool.{eqb-false}
use Rattle.laws.specs.Tests.{by_test, by_option, never, and_right, and_both, no_true, not_true, true_not}
use Rattle.laws.specs.Lists.{any, first, with_found, without}
use Rattle.laws.specs.Laws.{◌∈◌, Pairs, NoRepeat, by_mem, here, no_some, some_same, any_some, some-any, first_some}
use Rattle.laws.specs.Laws.{first-none, without-mem, mem-without, Pairs-without, length_without, Pairs_map₂, Pairs-append}
use Rattle.laws.specs.Laws.{Pairs_split}

-- None is held back by a later one.
abbrev pub Clear : (ℕ → ℕ → Bool) → List ℕ → Type 0
Clear h l = Pairs (λ a b. h b a ≡ false) l

-- o names each member of l exactly once, and nobody else.
pub record Names (l o : List ℕ) : Type 0 where
  pub all : (a : ℕ) → a ∈ l → a ∈ o
  pub only : (a : ℕ) → a ∈ o → a ∈ l
  pub once : NoRepeat o

-- o is a completion order of l: it names each member exactly once and nobody else, and none is held back by a later one.
pub record IsOrder (h : ℕ → ℕ → Bool) (l o : List ℕ) : Type 0 where
  pub all : (a : ℕ) → a ∈ l → a ∈ o
  pub only : (a : ℕ) → a ∈ o → a ∈ l
  pub once : NoRepeat o
  pub clear : Clear h o

-- Another member of l holds p back.
unfoldable pub held_in : (ℕ → ℕ → Bool) → List ℕ → ℕ → Bool
held_in h l p = any (λ i. not (eqb i p) && h i p) l

-- The carried order of the n members of l: the first that no other one holds back, then the same for the rest.
unfoldable pub search : (ℕ → ℕ → Bool) → ℕ → List ℕ → Option (List ℕ)
search h zero l = some []
search h (suc n) l = with_found (first (λ p. not (held_in h l p)) l) none (λ p. with_found (search h n (without p l)) none (λ o. some (p ∷ o)))

-- ── Free ──

pub free_clear : (h : ℕ → ℕ → Bool) (l : List ℕ) (p : ℕ) → not (held_in h l p) ≡ true → (b : ℕ) → b ∈ l → b ≢ p → h b p ≡ false
unfolding held_in
free_clear h l p e b m n =
    no_true (h b p) (λ u. never (some-any (λ i. not (eqb i p) && h i p) l b m (and_both (not (eqb b p)) (h b p)
    (true_not (eqb b p) (ne_eqb b p n)) u)) (not_true (any (λ i. not (eqb i p) && h i p) l) e))

pub clear_free : (h : ℕ → ℕ → Bool) (l : List ℕ) (p : ℕ) → ((b : ℕ) → b ∈ l → b ≢ p → h b p ≡ false) → not (held_in h l p) ≡ true
unfolding held_in
clear_free h l p f = true_not _ (no_true (any (λ i. not (eqb i p) && h i p) l) (λ e. let (i, m, u) = any_some
    (λ i. not (eqb i p) && h i p) l e in by_test (eqb i p) (λ t. never {t = false} (rw t at u) refl)
    (λ t. never (and_right (not (eqb i p)) (h i p) u) (f i m (eqb-false i p t)))))

-- ── Orders ──

pub order-nil : (h : ℕ → ℕ → Bool) → IsOrder h [] []
unfolding Pairs
order-nil h = record { all = λ a m. m; only = λ a m. m; once = tt; clear = tt }

pub order_cons : (h : ℕ → ℕ → Bool) (l o : List ℕ) (p : ℕ) → p ∈ l → not (held_in h l p) ≡ true
    → IsOrder h (without p l) o → IsOrder h l (p ∷ o)
unfolding Pairs
order_cons h l o p m f c = record {
  all = λ a k. by_test (eqb a p) (λ t. Memᴰ.head (eqb-true a p t))
      (λ t. Memᴰ.tail (c.all a (mem-without p l a k (eqb-false a p t))));
  only = λ a k. by_mem k (λ d. Memᴰ.cast d m) (λ k'. (at a k').0);
  once = (λ b k e. (at b k).1 (sym e), c.once);
  clear = (λ b k. free_clear h l p f b (at b k).0 (at b k).1, c.clear);
}
  where
    at : (a : ℕ) → a ∈ o → (a ∈ l) × (a ≢ p)
    at a k = without-mem p l a (c.only a k)

-- Removing a member of l from an order.
pub order-without : (h : ℕ → ℕ → Bool) (l o : List ℕ) (p : ℕ) → IsOrder h l o → IsOrder h (without p l) (without p o)
order-without h l o p c = record {
  all = λ a k. let r = without-mem p l a k in mem-without p o a (c.all a r.0) r.1;
  only = λ a k. let r = without-mem p o a k in mem-without p l a (c.only a r.0) r.1;
  once = Pairs-without _ p o c.once;
  clear = Pairs-without _ p o c.clear;
}

-- The first of an order is free.
pub order_head_free : (h : ℕ → ℕ → Bool) (l o : List ℕ) (p : ℕ) → IsOrder h l (p ∷ o) → not (held_in h l p) ≡ true
unfolding Pairs
order_head_free h l o p c = clear_free h l p (λ b m n. by_mem (c.all b m) (λ d. absurd (n d)) (λ k. c.clear.0 b k))

-- ── The carried order ──

search_some : (h : ℕ → ℕ → Bool) (n : ℕ) (l o : List ℕ) → search h (suc n) l ≡ some o
    → (p : ℕ) × (o' : List ℕ) × (first (λ p. not (held_in h l p)) l ≡ some p) × (search h n (without p l) ≡ some o') × (o ≡ p ∷ o')
unfolding search
search_some h n l o e = by_option (first (λ p. not (held_in h l p)) l) (λ u. no_some (rw u at e))
    (λ p u. by_option (search h n (without p l)) (λ v. no_some (rw (u, v) at e)) (λ o' v. (p, o', u, v, sym (some_same (rw (u, v) at e)))))

-- What comes back is an order.
pub search-sound : (h : ℕ → ℕ → Bool) (n : ℕ) (l o : List ℕ) → NoRepeat l → length l ≡ n → search h n l ≡ some o → IsOrder h l o
unfolding search
search-sound h zero [] o r k e = rw (sym (some_same e)) (order-nil h)
search-sound h zero (x ∷ l) o r k e = absurd (omega arith)
search-sound h (suc n) l o r k e =
    let (p, o', u, v, w) = search_some h n l o e in
    let f = first_some (λ q. not (held_in h l q)) l p u in
    let i = length_without p l r f.0 in
    rw w (order_cons h l o' p f.0 f.1 (search-sound h n (without p l) o' (Pairs-without _ p l r) (omega arith) v))

-- Where an order exists, one comes back.
pub search_complete : (h : ℕ → ℕ → Bool) (n : ℕ) (l o : List ℕ) → NoRepeat l → length l ≡ n → IsOrder h l o
    → (o' : List ℕ) × (search h n l ≡ some o')
unfolding search
search_complete h zero l o r k c = ([], refl)
search_complete h (suc n) [] o r k c = absurd (omega arith)
search_complete h (suc n) (x ∷ l) [] r k c = absurd (Memᴰ.not-nil (c.all x here))
search_complete h (suc n) (x ∷ l) (p ∷ o) r k c = by_option (first (λ q. not (held_in h (x ∷ l) q)) (x ∷ l))
    (λ u. never (order_head_free h (x ∷ l) o p c) (first-none (λ q. not (held_in h (x ∷ l) q)) (x ∷ l) u p (c.only p here)))
    (λ q u. let f = first_some (λ q. not (held_in h (x ∷ l) q)) (x ∷ l) q u in
    let i = length_without q (x ∷ l) r f.0 in
    let s = search_complete h n (without q (x ∷ l)) (without q (p ∷ o)) (Pairs-without _ q (x ∷ l) r) (omega arith)
    (order-without h (x ∷ l) (p ∷ o) q c) in
    (q ∷ s.0, rw (u, s.1)))

-- The carried order of l.
abbrev pub order_in : (ℕ → ℕ → Bool) → List ℕ → Option (List ℕ)
order_in h l = search h (length l) l

-- It comes back exactly when an order exists, and then it is one.
pub order_in_iff : (h : ℕ → ℕ → Bool) (l : List ℕ) → NoRepeat l
    → ((o : List ℕ) × (order_in h l ≡ some o)) ↔ ((o : List ℕ) × IsOrder h l o)
order_in_iff h l n = (
  λ r. (r.0, search-sound h (length l) l r.0 n refl r.1),
  λ r. search_complete h (length l) l
      r.0 n refl r.1,
)

-- A program of the list that a later one holds back.
pub record HeldLater (h : ℕ → ℕ → Bool) (o : List ℕ) : Type 0 where
  pub before : List ℕ
  pub held : ℕ
  pub after : List ℕ
  pub split : o ≡ before ++ (held ∷ after)
  pub by : ℕ
  pub later : by ∈ after
  pub holds : h by held ≡ true

some_or_none : (t : ℕ → Bool) (l : List ℕ) → ((b : ℕ) → b ∈ l → t b ≡ false) ⊎ ((b : ℕ) × (b ∈ l) × (t b ≡ true))
some_or_none t [] = inl (λ b m. absurd (Memᴰ.not-nil m))
some_or_none t (q ∷ l) = go (test_of (t q)) (some_or_none t l)
  where
    test_of : (u : Bool) → (u ≡ true) ⊎ (u ≡ false)
    test_of true = inl refl
    test_of false = inr refl

    go : (t q ≡ true) ⊎ (t q ≡ false) → ((b : ℕ) → b ∈ l → t b ≡ false) ⊎ ((b : ℕ) × (b ∈ l) × (t b ≡ true))
        → ((b : ℕ) → b ∈ q ∷ l → t b ≡ false) ⊎ ((b : ℕ) × (b ∈ q ∷ l) × (t b ≡ true))
    go (inl u) r = inr (q, here, u)
    go (inr u) (inl f) = inl (λ b m. by_mem m (λ d. rw d u) (f b))
    go (inr u) (inr r) = inr (r.0, Memᴰ.tail r.1, r.2)

pub clear_or_held : (h : ℕ → ℕ → Bool) (o : List ℕ) → Clear h o ⊎ HeldLater h o
unfolding Pairs
clear_or_held h [] = inl tt
clear_or_held h (a ∷ o) = go (some_or_none (λ b. h b a) o) (clear_or_held h o)
  where
    go : ((b : ℕ) → b ∈ o → h b a ≡ false) ⊎ ((b : ℕ) × (b ∈ o) × (h b a ≡ true)) → Clear h o ⊎ HeldLater h o
        → Clear h (a ∷ o) ⊎ HeldLater h (a ∷ o)
    go (inr r) c = inr (record { before = []; held = a; after = o; split = refl; by = r.0; later = r.1; holds = r.2 })
    go (inl f) (inl c) = inl (f, c)
    go (inl f) (inr r) = inr (record {
      before = a ∷ r.before;
      held = r.held;
      after = r.after;
      split = ap (a ∷◌) r.split;
      by = r.by;
      later = r.later;
      holds = r.holds;
    })

-- Where none comes back, every list that names each member exactly once has one that a later one holds back.
pub order_in_none : (h : ℕ → ℕ → Bool) (l o : List ℕ) → NoRepeat l → order_in h l ≡ none → Names l o → HeldLater h o
order_in_none h l o r e n = ⊎_elim (λ c. let s = search_complete h (length l) l o r refl
    (record { all = n.all; only = n.only; once = n.once; clear = c }) in no_some (sym e ∙ s.1)) (λ k. k) (clear_or_held h o)

-- An order has none that a later one holds back.
pub held_not_clear : (h : ℕ → ℕ → Bool) (o : List ℕ) → Clear h o → HeldLater h o → ⊥
held_not_clear h o c r = never r.holds (Pairs_split (λ a b. h b a ≡ false) r.before r.after r.held r.by
    (rw r.split at c) r.later)

-- ── Orders under change ──

-- Less holding back between different members keeps an order.
pub order_below : (h h' : ℕ → ℕ → Bool) (l o : List ℕ)
    → ((a b : ℕ) → a ∈ l → b ∈ l → a ≢ b → h' a b ≡ true → h a b ≡ true)
    → IsOrder h l o → IsOrder h' l o
order_below h h' l o f c = record {
  all = c.all;
  only = c.only;
  once = c.once;
  clear = Pairs_map₂ (λ a b. a ≢ b) (λ a b. h b a ≡ false) _ o (λ a b m k n u. by_test (h' b a)
      (λ t. never (f b a (c.only b k) (c.only a m) (λ d. n (sym d)) t) u) (λ t. t)) c.once c.clear;
}

-- One more program p, which holds back nobody, at the end.
pub order_last : (h : ℕ → ℕ → Bool) (l l' o : List ℕ) (p : ℕ)
    → ((a : ℕ) → a ∈ l' → (a ≡ p) ⊎ (a ∈ l)) → ((a : ℕ) → a ∈ l → a ∈ l') → p ∈ l' → (p ∈ l → ⊥)
    → ((a : ℕ) → a ∈ l → h p a ≡ false) → IsOrder h l o → IsOrder h l' (o ++ (p ∷ []))
unfolding Pairs
order_last h l l' o p f g i n k c = record {
  all = λ a m. ⊎_elim (λ d. Memᴰ.append_right o (Memᴰ.head d)) (λ m'. Memᴰ.append_left (p ∷ []) (c.all a m')) (f a m);
  only = λ a m. ⊎_elim (λ m'. g a (c.only a m')) (λ m'. Memᴰ.cast (Memᴰ.eq_of_singleton m') i) (Memᴰ.append_cases o m);
  once = Pairs-append _ o (p ∷ []) c.once (λ b m. absurd (Memᴰ.not-nil m), tt)
      (λ a b m m' e. n (Memᴰ.cast (sym (e ∙ Memᴰ.eq_of_singleton m')) (c.only a m)));
  clear = Pairs-append _ o (p ∷ []) c.clear (λ b m. absurd (Memᴰ.not-nil m), tt)
      (λ a b m m'. rw (Memᴰ.eq_of_singleton m') (k a (c.only a m)));
}

-- The first of an order may hold back more.
pub order_first : (h h' : ℕ → ℕ → Bool) (l o : List ℕ) (p : ℕ) → ((a b : ℕ) → a ∈ l → b ∈ l → a ≢ p → a ≢ b
    → h' a b ≡ true → h a b ≡ true) → IsOrder h l (p ∷ o) → IsOrder h' l (p ∷ o)
unfolding Pairs
order_first h h' l o p f c = record {
  all = c.all;
  only = c.only;
  once = c.once;
  clear = (
    λ b m. less b p (Memᴰ.tail m) here (λ d. c.once.0 b m (sym d)) (λ d. c.once.0 b m (sym d)) (c.clear.0 b m),
    Pairs_map₂ (λ a b. a ≢ b) (λ a b. h b a ≡ false) _ o (λ a b m k n u. less b a (Memᴰ.tail k) (Memᴰ.tail m)
        (λ d. c.once.0 b k (sym d)) (λ d. n (sym d)) u) c.once.1 c.clear.1,
  );
}
  where
    less : (a b : ℕ) → a ∈ p ∷ o → b ∈ p ∷ o → a ≢ p → a ≢ b → h a b ≡ false → h' a b ≡ false
    less a b m k n d u = by_test (h' a b) (λ t. never (f a b (c.only a m) (c.only b k) n d t) u) (λ t. t)
