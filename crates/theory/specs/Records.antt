-- Records in use and awaited: they differ, and an awaited one is in use, but for one that has just been returned.
-- Assumes nothing.
use Rattle.std.specs.Prelude.{ℕ, zero, suc, ◌≡◌, refl, ◌≢◌, ◌⊎◌, Bool, true, false, not, ◌&&◌}
use Rattle.std.proofs.Common.{sym, ◌∙◌, ap, subst, inl, inr, ⊎_elim}
use Rattle.std.proofs.Math.Dec.{eqb}
use borrow.Author.Tests.{eqb-true, eqb-false, eq-eqb, ne_eqb}
use Rattle.laws.specs.Tests.{by_test, never, and_left, and_right, and_both, not_true, true_not}
use Rattle.files.specs.Sets.{member}
use Rattle.rules.specs.declared.Standing.{Standing}
use Rattle.rules.specs.declared.Program.{Program}
use Rattle.rules.specs.Boards.{is_running, is_waiting, is_admitted, uses, wants, set_standing, set_item}
use Rattle.theory.specs.Programs.{Is, Progs, prog}

-- q has the record r of f in use
abbrev pub Uses : Program → ℕ → ℕ → Type 0
Uses q f r = (q.standing ≡ Standing.Running) × (q.item ≢ 0) × (q.file ≡ f) × (q.item ≡ r)

-- q waits for the record r of f
abbrev pub Wants : Program → ℕ → ℕ → Type 0
Wants q f r = (is_waiting q.standing ≡ true) × (q.item ≢ 0) × (q.file ≡ f) × (q.item ≡ r)

running_is : (s : Standing) → is_running s ≡ true → s ≡ Standing.Running
running_is Standing.Absent e = never {t = false} e refl
running_is Standing.Running e = refl
running_is (Standing.Waiting f) e = never {t = false} e refl
running_is Standing.Held e = never {t = false} e refl

module _ (q : Program) (f r : ℕ) where
  has : Bool
  has = not (eqb q.item 0)

  pub uses-of : uses q f r ≡ true → Uses q f r
  unfolding has
  uses-of e =
      let a = is_running q.standing in let x = eqb q.file f in let y = eqb q.item r in
      let e₂ = and_left (a && has && x) y e in let e₁ = and_left (a && has) x e₂ in (
        running_is q.standing (and_left a has e₁),
        eqb-false q.item 0 (not_true (eqb q.item 0) (and_right a has e₁)),
        eqb-true q.file f (and_right (a && has) x e₂),
        eqb-true q.item r (and_right (a && has && x) y e),
      )

  pub of-uses : Uses q f r → uses q f r ≡ true
  unfolding has
  of-uses (s, n, d, e) =
      let a = is_running q.standing in let x = eqb q.file f in let y = eqb q.item r in
      and_both (a && has && x) y (and_both (a && has) x (and_both a has (ap is_running s) (true_not (eqb q.item 0) (ne_eqb q.item 0 n)))
      (eq-eqb q.file f d)) (eq-eqb q.item r e)

  pub wants-of : wants q f r ≡ true → Wants q f r
  unfolding has
  wants-of e =
      let a = is_waiting q.standing in let x = eqb q.file f in let y = eqb q.item r in
      let e₂ = and_left (a && has && x) y e in let e₁ = and_left (a && has) x e₂ in (
        and_left a has e₁,
        eqb-false q.item 0 (not_true (eqb q.item 0) (and_right a has e₁)),
        eqb-true q.file f (and_right (a && has) x e₂),
        eqb-true q.item r (and_right (a && has && x) y e),
      )

  pub of-wants : Wants q f r → wants q f r ≡ true
  unfolding has
  of-wants (s, n, d, e) =
      let a = is_waiting q.standing in let x = eqb q.file f in let y = eqb q.item r in
      and_both (a && has && x) y (and_both (a && has) x (and_both a has s (true_not (eqb q.item 0) (ne_eqb q.item 0 n)))
      (eq-eqb q.file f d)) (eq-eqb q.item r e)

-- What holds of a program's record by itself.
pub record ItemOwn (q : Program) : Type 0 where
  pub no_item : q.item ≡ 0 → q.file ≡ 0
  pub in_i : q.item ≢ 0 → member q.inquiring q.file ≡ true
  pub stands-so : q.item ≢ 0 → (q.standing ≡ Standing.Running) ⊎ (q.standing ≡ Standing.Waiting q.file)

-- A program without a record.
pub none_item : (q : Program) → q.item ≡ 0 → q.file ≡ 0 → ItemOwn q
none_item q z e = record { no_item = λ _. e; in_i = λ n. absurd (n z); stands-so = λ n. absurd (n z) }

-- Who isn't admitted has none.
pub out_item : (q : Program) → is_admitted q.standing ≡ false → ItemOwn q → q.item ≡ 0
out_item q a o = by_test (eqb q.item 0) (λ t. eqb-true q.item 0 t)
    (λ t. ⊎_elim (λ e. never {t = true} refl (sym (ap is_admitted e) ∙ a)) (λ e. never {t = true} refl (sym (ap is_admitted e) ∙ a))
    (o.stands-so (eqb-false q.item 0 t)))

-- The record s of g is the record r of f, or in use.
abbrev pub Kept : Progs → ℕ → ℕ → ℕ → ℕ → Type 0
Kept P f r g s = ((g ≡ f) × (s ≡ r)) ⊎ ((j : ℕ) × Is j × Uses (prog P j) g s)

-- The record r of f has been returned, and may still be awaited; 0 0 for none.
pub record Records (P : Progs) (f r : ℕ) : Type 0 where
  pub own : (i : ℕ) → Is i → ItemOwn (prog P i)
  pub differ : (i j g s : ℕ) → Is i → Is j → i ≢ j → Uses (prog P i) g s → Uses (prog P j) g s → ⊥
  pub kept : (i g s : ℕ) → Is i → Wants (prog P i) g s → Kept P f r g s
  pub free : (i : ℕ) → Is i → Uses (prog P i) f r → ⊥

-- No record is numbered 0.
pub uses-none : (q : Program) (f : ℕ) → Uses q f 0 → ⊥
uses-none q f (_, n, _, e) = n e

-- An awaited record is in use.
pub in_use_lem : (P : Progs) (i g s : ℕ) → Records P 0 0 → Is i → Wants (prog P i) g s → (j : ℕ) × Is j × Uses (prog P j) g s
in_use_lem P i g s k c w = ⊎_elim (λ u. absurd (w.1 (w.3 ∙ u.1))) (λ u. u) (k.kept i g s c w)

-- One program p is put anew.
pub records_make : (P P'' : Progs) (p f r f' r' : ℕ) → Is p → ((i : ℕ) → Is i → i ≢ p → prog P'' i ≡ prog P i) → ItemOwn (prog P'' p)
    → ((g s : ℕ) → Uses (prog P'' p) g s → (i : ℕ) → Is i → i ≢ p → Uses (prog P i) g s → ⊥)
    → ((g s : ℕ) → Wants (prog P'' p) g s → Kept P'' f' r' g s)
    → ((g s : ℕ) → s ≢ 0 → Kept P f r g s → Kept P'' f' r' g s)
    → ((i : ℕ) → Is i → Uses (prog P'' i) f' r' → ⊥)
    → Records P f r → Records P'' f' r'
records_make P P'' p f r f' r' c same o a b d e k = record {
  own = λ i j. by_test (eqb i p) (λ t. subst (λ q. ItemOwn (prog P'' q)) (sym (eqb-true i p t)) o)
      (λ t. subst ItemOwn (sym (same i j (eqb-false i p t))) (k.own i j));
  differ = λ i j g s x y n u v. by_test (eqb i p)
      (λ t. let q = eqb-true i p t in let m : j ≢ p = λ z. n (q ∙ sym z) in
      a g s (subst (λ h. Uses (prog P'' h) g s) q u) j y m (subst (λ h. Uses h g s) (same j y m) v))
      (λ t. let m = eqb-false i p t in let u' = subst (λ h. Uses h g s) (same i x m) u in by_test (eqb j p)
      (λ z. a g s (subst (λ h. Uses (prog P'' h) g s) (eqb-true j p z) v) i x m u')
      (λ z. k.differ i j g s x y n u' (subst (λ h. Uses h g s) (same j y (eqb-false j p z)) v)));
  kept = λ i g s j u. by_test (eqb i p) (λ t. b g s (subst (λ h. Wants (prog P'' h) g s) (eqb-true i p t) u))
      (λ t. let w = subst (λ h. Wants h g s) (same i j (eqb-false i p t)) u in d g s (λ z. w.1 (w.3 ∙ z)) (k.kept i g s j w));
  free = e;
}

-- A use by another than p is there as before.
moved : (P P'' : Progs) (p g s : ℕ) → ((i : ℕ) → Is i → i ≢ p → prog P'' i ≡ prog P i) → {C : Type 0} → (j : ℕ) → Is j → Uses (prog P j) g s
    → (Uses (prog P p) g s → C) → ((j : ℕ) × Is j × Uses (prog P'' j) g s → C) → C
moved P P'' p g s same j i u a b = by_test (eqb j p) (λ t. a (subst (λ h. Uses (prog P h) g s) (eqb-true j p t) u))
    (λ t. b (j, i, subst (λ h. Uses h g s) (sym (same j i (eqb-false j p t))) u))

module _ (P P'' : Progs) (p : ℕ) (c : Is p) (same : (i : ℕ) → Is i → i ≢ p → prog P'' i ≡ prog P i) (o : ItemOwn (prog P'' p)) where
  back : (i g s : ℕ) → Is i → (prog P'' p).item ≡ 0 → Uses (prog P'' i) g s → (i ≢ p) × Uses (prog P i) g s
  back i g s j z u = let n : i ≢ p = λ d. (subst (λ h. Uses (prog P'' h) g s) d u).1 z in (n, subst (λ h. Uses h g s) (same i j n) u)

  -- p has no record in use, and gets none.
  pub records-quiet : (prog P'' p).item ≡ 0 → ((g s : ℕ) → Uses (prog P p) g s → ⊥) → Records P 0 0 → Records P'' 0 0
  records-quiet z n k = records_make P P'' p 0 0 0 0 c same o (λ g s u. absurd (u.1 z)) (λ g s u. absurd (u.1 z))
      (λ g s m u. ⊎_elim inl (λ v. moved P P'' p g s same v.0 v.1 v.2 (λ w. absurd (n g s w)) inr) u)
      (λ i j u. uses-none (prog P'' i) 0 u) k

  -- p returns what it has in use.
  pub records_release : (prog P'' p).item ≡ 0 → (prog P p).standing ≡ Standing.Running → Records P 0 0
      → Records P'' (prog P p).file (prog P p).item
  records_release z r k = records_make P P'' p 0 0 (prog P p).file (prog P p).item c same o (λ g s u. absurd (u.1 z))
      (λ g s u. absurd (u.1 z))
      (λ g s m u. ⊎_elim (λ v. absurd (m v.1)) (λ v. moved P P'' p g s same v.0 v.1 v.2
      (λ w. inl (sym w.2, sym w.3)) inr) u)
      (λ i j u. let (n, v) = back i _ _ j z u in k.differ i p (prog P p).file (prog P p).item j c n v
      (r, (λ d. v.1 (v.3 ∙ d)), refl, refl)) k

  -- p, which waited for the record r of f, gets it.
  pub records-handed : (f r : ℕ) → Wants (prog P p) f r → prog P'' p ≡ set_standing (prog P p) Standing.Running → Records P f r → Records P'' 0 0
  records-handed f r w e k = records_make P P'' p f r 0 0 c same o
      (λ g s u i j n v. k.free i j (subst (λ h. Uses (prog P i) f h) (s-is g s u) (subst (λ h. Uses (prog P i) h s) (g-is g s u) v)))
      (λ g s u. never {t = false} (sym (ap (λ (q : Program). is_waiting q.standing) e) ∙ u.0) refl)
      (λ g s m u. ⊎_elim (λ v. inr (
        p,
        c,
        (
          ap (λ (q : Program). q.standing) e,
          (λ d. w.1 (sym same_item ∙ d)),
          same_file ∙ w.2 ∙ sym v.0,
          same_item ∙ w.3 ∙ sym v.1,
        ),
      ))
      (λ v. moved P P'' p g s same v.0 v.1 v.2 (λ x. never {t = false} (sym (ap is_waiting x.0) ∙ w.0) refl) inr) u)
      (λ i j u. uses-none (prog P'' i) 0 u) k
    where
      same_file : (prog P'' p).file ≡ (prog P p).file
      same_file = ap (λ (q : Program). q.file) e

      same_item : (prog P'' p).item ≡ (prog P p).item
      same_item = ap (λ (q : Program). q.item) e

      g-is : (g s : ℕ) → Uses (prog P'' p) g s → g ≡ f
      g-is g s u = sym u.2 ∙ same_file ∙ w.2

      s-is : (g s : ℕ) → Uses (prog P'' p) g s → s ≡ r
      s-is g s u = sym u.3 ∙ same_item ∙ w.3

  -- p, without a record, gets the record r of f, which nobody has.
  pub records-fetched : (f r : ℕ) → (prog P p).item ≡ 0 → (prog P'' p).file ≡ f → (prog P'' p).item ≡ r
      → (prog P'' p).standing ≡ Standing.Running → ((i : ℕ) → Is i → i ≢ p → Uses (prog P i) f r → ⊥) → Records P 0 0 → Records P'' 0 0
  records-fetched f r z ef er t n k = records_make P P'' p 0 0 0 0 c same o
      (λ g s u i j m v. n i j m (subst (λ h. Uses (prog P i) f h) (sym u.3 ∙ er) (subst (λ h. Uses (prog P i) h s) (sym u.2 ∙ ef) v)))
      (λ g s u. never {t = false} (sym (ap is_waiting t) ∙ u.0) refl)
      (λ g s m u. ⊎_elim inl (λ v. moved P P'' p g s same v.0 v.1 v.2 (λ x. absurd (x.1 z)) inr) u)
      (λ i j u. uses-none (prog P'' i) 0 u) k

  -- p, without a record, begins to wait for the record r of f, which another has.
  pub records-waited : (f r : ℕ) → (prog P p).item ≡ 0 → (prog P'' p).file ≡ f → (prog P'' p).item ≡ r
      → is_waiting (prog P'' p).standing ≡ true → (j : ℕ) → Is j → j ≢ p → Uses (prog P j) f r → Records P 0 0 → Records P'' 0 0
  records-waited f r z ef er t j i m v k = records_make P P'' p 0 0 0 0 c same o
      (λ g s u. never {t = false} (sym (ap is_waiting u.0) ∙ t) refl)
      (λ g s u. inr (
        j,
        i,
        subst (λ h. Uses h g s) (sym (same j i m)) (subst (λ h. Uses (prog P j) g h) (sym er ∙ u.3)
            (subst (λ h. Uses (prog P j) h r) (sym ef ∙ u.2) v)),
      ))
      (λ g s q u. ⊎_elim inl (λ x. moved P P'' p g s same x.0 x.1 x.2 (λ y. absurd (y.1 z)) inr) u)
      (λ i j u. uses-none (prog P'' i) 0 u) k

-- Nobody waits for what was returned.
pub records_nobody : (P : Progs) (f r : ℕ) → ((i : ℕ) → Is i → Wants (prog P i) f r → ⊥) → Records P f r → Records P 0 0
records_nobody P f r n k = record {
  own = k.own;
  differ = k.differ;
  kept = λ i g s j w. ⊎_elim (λ u. absurd (n i j (subst (λ h. Wants (prog P i) f h) u.1 (subst (λ h. Wants (prog P i) h s) u.0 w)))) inr
      (k.kept i g s j w);
  free = λ i j u. uses-none (prog P i) 0 u;
}
