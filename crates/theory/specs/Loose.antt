-- What every call keeps: a board that is sound but for waiters whose file can be given.
-- Assumes nothing.
use Rattle.std.specs.Prelude.{ℕ, ◌≤◌, ◌+◌, ◌-◌, ◌≡◌, refl, ◌≢◌, Bool, true, false, List, [], ◌∷◌, ◌++◌, eqb, length, get_or}
use Rattle.std.proofs.Common.{arith, sym, ◌∙◌, ap, ap₂, subst, eqb-true}
use mathlib.Core.List.Memᴰ
use Rattle.std.proofs.lemmas.Bool.{eqb-false}
use Rattle.laws.specs.Tests.{by_test, never, no_true}
use Rattle.files.specs.declared.FileSet.{FileSet}
use Rattle.files.specs.Sets.{member}
use Rattle.files.proofs.Laws.{◌⊑◌, none_⊑, removing_⊑, ⊑_removing}
use Rattle.rules.specs.declared.Standing.{Standing}
use Rattle.rules.specs.declared.Program.{Program}
use Rattle.rules.specs.declared.Board.{Board}
use Rattle.laws.specs.Lists.{without, names, padded}
use Rattle.rules.specs.Boards.{no_program, is_absent, is_held, is_waiting, is_admitted, awaited_of, claims, has_open, set_standing, opening, closing}
use Rattle.rules.specs.Boards.{dropping}
use Rattle.rules.specs.declared.Mode.{Mode}
use Rattle.rules.specs.declared.Mode.TheVariants.{Write, Read, Inquiry}
use Rattle.rules.specs.Modes.{claim_of, open_of, claims_meet}
use Rattle.rules.specs.Orders.{conflict, holds_back}
use Rattle.rules.specs.Calls.{newcomer}
use Rattle.laws.specs.Laws.{◌∈◌, NoRepeat, names_padded, without-mem, mem-without, Pairs-without, once_snoc, by_snoc, length_without}
use Rattle.theory.specs.Order.{IsOrder, order_below, order-without}
use Rattle.theory.specs.Programs.{Is, Within, idle_conflict, conflict_idle, Progs, prog, put, Sized, sized_put, put_same, put_other}
use Rattle.theory.specs.Programs.{put_case, holds, is_in, ins, give, can, mem-ins, ins-mem, ins_once, ins-same, ins_out, ins-before}
use Rattle.theory.specs.Modes.{closing_claim, closing_open, dropping_claim, dropping_open, none_claim, none_open, newcomer_open, claims_less}
use Rattle.theory.specs.Modes.{no_mode, SameClaims}
use Rattle.theory.specs.Records.{Records}
use Rattle.theory.specs.Programs.{SameSets, Idle, Own, standing_same, same_turn, within_same, own_same, Base, put_less, base_shrink, base_leave}
use Rattle.theory.specs.Programs.{base_enter, opening_standing, opening-claims, opening_item, opening_more}
use Rattle.theory.specs.Programs.{base_give, ins-give, can_mono}

-- ── Standings ──

abbrev pub stands : Progs → ℕ → Standing
stands P p = (prog P p).standing

-- p waits; p is held
abbrev pub waits_in : Progs → ℕ → Bool
waits_in P p = is_waiting (stands P p)

abbrev pub held_at : Progs → ℕ → Bool
held_at P p = is_held (stands P p)

pub waiting_file : (s : Standing) → is_waiting s ≡ true → (f : ℕ) × (s ≡ Standing.Waiting f)
waiting_file Standing.Absent e = never {t = false} e refl
waiting_file Standing.Running e = never {t = false} e refl
waiting_file (Standing.Waiting f) e = (f, refl)
waiting_file Standing.Held e = never {t = false} e refl

pub held_is : (s : Standing) → is_held s ≡ true → s ≡ Standing.Held
held_is Standing.Absent e = never {t = false} e refl
held_is Standing.Running e = never {t = false} e refl
held_is (Standing.Waiting f) e = never {t = false} e refl
held_is Standing.Held e = refl

pub absent_is : (s : Standing) → is_absent s ≡ true → s ≡ Standing.Absent
absent_is Standing.Absent e = refl
absent_is Standing.Running e = never {t = false} e refl
absent_is (Standing.Waiting f) e = never {t = false} e refl
absent_is Standing.Held e = never {t = false} e refl

pub waiting_in : (s : Standing) → is_waiting s ≡ true → is_admitted s ≡ true
waiting_in s e = let (f, d) = waiting_file s e in ap is_admitted d

pub same_file : (f g : ℕ) → Standing.Waiting f ≡ Standing.Waiting g → f ≡ g
same_file f g e = ap awaited_of e

-- ── Lines ──

-- The line names each program that passes the test once, and nobody else, and is then 0.
pub record OnLine (l : List ℕ) (t : ℕ → Bool) : Type 0 where
  pub form : l ≡ padded 0 (names l)
  pub once : NoRepeat (names l)
  pub of : (p : ℕ) → p ∈ names l → Is p × (t p ≡ true)
  pub on : (p : ℕ) → Is p → t p ≡ true → p ∈ names l

pub line_make : (m : List ℕ) (t : ℕ → Bool) → NoRepeat m → ((p : ℕ) → p ∈ m → Is p × (t p ≡ true))
    → ((p : ℕ) → Is p → t p ≡ true → p ∈ m) → OnLine (padded 0 m) t
line_make m t n f g = record {
  form = ap (padded 0) (sym e);
  once = subst NoRepeat (sym e) n;
  of = λ p k. f p (subst (λ l. p ∈ l) e k);
  on = λ p c u. subst (λ l. p ∈ l) (sym e) (g p c u);
}
  where
    e : names (padded 0 m) ≡ m
    e = names_padded m (λ p k d. let c = (f p k).0.least in omega arith)

pub line_same : (l : List ℕ) (t t' : ℕ → Bool) → ((p : ℕ) → Is p → t' p ≡ t p) → OnLine l t → OnLine l t'
line_same l t t' f c = record {
  form = c.form;
  once = c.once;
  of = λ p m. let r = c.of p m in
      (r.0, f p r.0 ∙ r.1);
  on = λ p i e. c.on p i (sym (f p i) ∙ e);
}

pub line_more : (l : List ℕ) (t t' : ℕ → Bool) (p : ℕ) → Is p → t p ≡ false → t' p ≡ true → ((i : ℕ) → Is i → i ≢ p
    → t' i ≡ t i) → OnLine l t → OnLine (padded 0 (names l ++ (p ∷ []))) t'
line_more l t t' p c a b f k = line_make (names l ++ (p ∷ [])) t'
    (once_snoc (names l) p k.once (λ m. never (k.of p m).1 a))
    (λ i m. by_snoc (names l) p i m (λ q. let r = k.of i q in (r.0, f i r.0 (λ d. never r.1 (ap t d ∙ a)) ∙ r.1))
    (λ d. (subst Is (sym d) c, ap t' d ∙ b)))
    (λ i j u. by_test (eqb i p) (λ e. Memᴰ.append_right (names l) (Memᴰ.head (eqb-true i p e)))
    (λ e. Memᴰ.append_left (p ∷ []) (k.on i j (sym (f i j (eqb-false i p e)) ∙ u))))

pub line_less : (l : List ℕ) (t t' : ℕ → Bool) (p : ℕ) → t' p ≡ false → ((i : ℕ) → Is i → i ≢ p → t' i ≡ t i)
    → OnLine l t → OnLine (padded 0 (without p (names l))) t'
line_less l t t' p a f k = line_make (without p (names l)) t'
    (Pairs-without _ p (names l) k.once)
    (λ i m. let (q, n) = without-mem p (names l) i m in let r = k.of i q in (r.0, f i r.0 n ∙ r.1))
    (λ i j u. let n : i ≢ p = (λ d. never u (ap t' d ∙ a)) in mem-without p (names l) i (k.on i j (sym (f i j n) ∙ u)) n)

-- ── The invariant ──

-- A waiter's file is a file, claimed, and not open by it.
pub record Asked (x : Program) (f : ℕ) : Type 0 where
  pub claimed : claims x f ≡ true
  pub shut : has_open x f ≡ false

-- q waits for the file f, and not for a record of it
abbrev pub Awaits : Program → ℕ → Type 0
Awaits q f = (q.standing ≡ Standing.Waiting f) × (q.item ≡ 0)

-- What holds of the file that q waits for.
abbrev pub Asks : Program → Type 0
Asks q = (f : ℕ) → Awaits q f → Asked q f

pub not_waiting : (q : Program) → is_waiting q.standing ≡ false → Asks q
not_waiting q e f u = never (ap is_waiting u.0) e

pub record LooseIn (P : Progs) (w e : List ℕ) (fav n l : ℕ) : Type 0 where
  pub base : Base P
  pub waits : OnLine w (waits_in P)
  pub helds : OnLine e (held_at P)
  pub asked : (p : ℕ) → Is p → Asks (prog P p)
  pub fav-waits : fav ≢ 0 → Is fav × (waits_in P fav ≡ true)
  pub count : fav ≢ 0 → (l + length (ins P) ≡ n) × (n ≤ 32)
  pub nobody : fav ≡ 0 → (n ≡ 0) × (l ≡ 0)

abbrev pub Loose : Board → Type 0
Loose b = LooseIn b.programs b.waiting b.entry b.favoured b.initial b.leaves

-- No waiter's file can be given.
abbrev pub Stuck : Progs → Type 0
Stuck P = (p : ℕ) → Is p → (f : ℕ) → Awaits (prog P p) f → can P p f ≡ false

-- Nobody favoured means nobody held.
abbrev pub Free : Progs → ℕ → Type 0
Free P fav = fav ≡ 0 → (p : ℕ) → Is p → held_at P p ≡ false

-- p's count
abbrev pub count_in : List ℕ → ℕ → ℕ
count_in C p = get_or C (p - 1) 0

-- "no count above 8, and 0 for all who aren't waiting"
pub record Counted (C : List ℕ) (P : Progs) : Type 0 where
  pub most : (p : ℕ) → Is p → count_in C p ≤ 8
  pub rest : (p : ℕ) → Is p → waits_in P p ≡ false → count_in C p ≡ 0

-- The counts and the records.
pub record CountsIn (C : List ℕ) (P : Progs) : Type 0 where
  pub counted : Counted C P
  pub records : Records P 0 0

abbrev pub Counts : Board → Type 0
Counts b = CountsIn b.passed b.programs

pub record Good (b : Board) : Type 0 where
  pub loose : Loose b
  pub counts : Counts b
  pub stuck : Stuck b.programs
  pub free : Free b.programs b.favoured

-- ── One program is put anew ──

-- A standing that p has neither before nor after.
pub test_put : (T : Standing → Bool) (P : Progs) (p : ℕ) (x : Program) → Sized P → Is p → T x.standing ≡ T (stands P p)
    → (i : ℕ) → Is i → T (stands (put P p x) i) ≡ T (stands P i)
test_put T P p x z c e i k = put_case (λ y. T y.standing ≡ T (stands P i)) P p x z c i k
    (λ d. e ∙ ap (λ j. T (stands P j)) (sym d)) (λ n. refl)

pub test_other : (T : Standing → Bool) (P : Progs) (p : ℕ) (x : Program) → Is p → (i : ℕ) → Is i → i ≢ p
    → T (stands (put P p x) i) ≡ T (stands P i)
test_other T P p x c i k n = ap (λ (y : Program). T y.standing) (put_other P p i x c k n)

pub test_same : (T : Standing → Bool) (P : Progs) (p : ℕ) (x : Program) → Sized P → Is p → T (stands (put P p x) p) ≡ T x.standing
test_same T P p x z c = ap (λ (y : Program). T y.standing) (put_same P p x z c)

-- p waits no longer, and the others are as they were: whoever waits has its file as before.
asked_kept : (P P' : Progs) (p : ℕ) → ((i : ℕ) → Is i → i ≢ p → prog P' i ≡ prog P i) → waits_in P' p ≡ false
    → ((i : ℕ) → Is i → Asks (prog P i)) → (i : ℕ) → Is i → Asks (prog P' i)
asked_kept P P' p same n k i j = by_test (eqb i p)
    (λ t. subst (λ h. Asks (prog P' h)) (sym (eqb-true i p t)) (not_waiting (prog P' p) n))
    (λ t. subst Asks (sym (same i j (eqb-false i p t))) (k i j))

asked-put : (P : Progs) (p : ℕ) (x : Program) → Sized P → Is p → is_waiting x.standing ≡ false
    → ((i : ℕ) → Is i → Asks (prog P i)) → (i : ℕ) → Is i → Asks (prog (put P p x) i)
asked-put P p x z c n = asked_kept P (put P p x) p (λ i k m. put_other P p i x c k m) (test_same is_waiting P p x z c ∙ n)

-- A running program is put anew, running, with no more than it had: close and drop.
pub loose_shrink : (P : Progs) (w e : List ℕ) (fav n l p : ℕ) (x : Program) → Is p → stands P p ≡ Standing.Running
    → x.standing ≡ Standing.Running → Within x (prog P p) → Own x → LooseIn P w e fav n l → LooseIn (put P p x) w e fav n l
loose_shrink P w e fav n l p x c r s d o k = record {
  base = base_shrink P p x c d o (ap is_admitted s ∙ sym (ap is_admitted r)) k.base;
  waits = line_same w _ _ (test_put is_waiting P p x z c (ap is_waiting s ∙ sym (ap is_waiting r))) k.waits;
  helds = line_same e _ _ (test_put is_held P p x z c (ap is_held s ∙ sym (ap is_held r))) k.helds;
  asked = asked-put P p x z c (ap is_waiting s) k.asked;
  fav-waits = λ m. let (i, u) = k.fav-waits m in (i, test_put is_waiting P p x z c (ap is_waiting s ∙ sym (ap is_waiting r)) fav i ∙ u);
  count = λ m. let (i, u) = k.count m in (ap (λ q. l + length q) (ins-same P p x z c (ap is_admitted s ∙ sym (ap is_admitted r))) ∙ i, u);
  nobody = k.nobody;
}
  where
    z : Sized P
    z = k.base.size

-- ── Close ──

pub loose_close : (P : Progs) (w e : List ℕ) (fav n l p f : ℕ) → Is p → stands P p ≡ Standing.Running
    → LooseIn P w e fav n l → LooseIn (put P p (closing (prog P p) f)) w e fav n l
unfolding closing
loose_close P w e fav n l p f c r k = let x = prog P p in let o = k.base.own p c in
    loose_shrink P w e fav n l p (closing x f) c r r (record {
      in_claim = λ m. subst (λ s. s ⊑ claim_of m x) (sym (closing_claim m x f)) (λ g z. z);
      in_open = less x;
    })
    (record {
      inside = λ m. subst (λ s. open_of m (closing x f) ⊑ s) (sym (closing_claim m x f)) (λ g z. o.inside m g (less x m g z));
      apart = o.apart;
      idle = λ z. never {t = true} refl (sym (ap is_admitted r) ∙ z);
      gone = λ z m. closing_claim m x f ∙ o.gone z m;
    }) k
  where
    less : (x : Program) (m : Mode) → open_of m (closing x f) ⊑ open_of m x
    less x m = subst (λ s. s ⊑ open_of m x) (sym (closing_open m x f)) (removing_⊑ (open_of m x) f)

-- ── Drop, of a file that is not open ──

pub loose_drop : (P : Progs) (w e : List ℕ) (fav n l p f : ℕ) → Is p → stands P p ≡ Standing.Running
    → has_open (prog P p) f ≡ false → LooseIn P w e fav n l → LooseIn (put P p (dropping (prog P p) f)) w e fav n l
unfolding dropping
loose_drop P w e fav n l p f c r h k = let x = prog P p in let o = k.base.own p c in
    loose_shrink P w e fav n l p (dropping x f) c r r (record {
      in_claim = less x;
      in_open = λ m. subst (λ s. s ⊑ open_of m x) (sym (dropping_open m x f)) (λ g z. z);
    })
    (record {
      inside = λ m. subst (λ s. s ⊑ claim_of m (dropping x f)) (sym (dropping_open m x f))
          (subst (λ s. open_of m x ⊑ s) (sym (dropping_claim m x f)) (⊑_removing (open_of m x) (claim_of m x) f (o.inside m)
          (no_mode (λ m. member (open_of m x) f) h m)));
      apart = claims_less _ _ _ _ _ _ (less x Write) (less x Read) (less x Inquiry) o.apart;
      idle = λ z. never {t = true} refl (sym (ap is_admitted r) ∙ z);
      gone = λ z. never {t = false} (sym (ap is_absent r) ∙ ap is_absent z) refl;
    }) k
  where
    less : (x : Program) (m : Mode) → claim_of m (dropping x f) ⊑ claim_of m x
    less x m = subst (λ s. s ⊑ claim_of m x) (sym (dropping_claim m x f)) (removing_⊑ (claim_of m x) f)

-- ── Leave ──

pub none_within : (x : Program) → Within no_program x
none_within x = record {
  in_claim = λ m. subst (λ s. s ⊑ claim_of m x) (sym (none_claim m)) (none_⊑ _);
  in_open = λ m. subst (λ s. s ⊑ open_of m x) (sym (none_open m)) (none_⊑ _);
}

pub none_own : Own no_program
none_own = record {
  inside = λ m. subst (λ s. s ⊑ claim_of m no_program) (sym (none_open m)) (none_⊑ _);
  apart = refl;
  idle = λ z. none_open;
  gone = λ z. none_claim;
}

pub loose_leave : (P : Progs) (w e : List ℕ) (fav n l l' p : ℕ) → Is p → stands P p ≡ Standing.Running
    → (fav ≢ 0 → l' ≡ l + 1) → (fav ≡ 0 → l' ≡ l) → LooseIn P w e fav n l → LooseIn (put P p no_program) w e fav n l'
loose_leave P w e fav n l l' p c r up stay k = record {
  base = base_leave P p no_program c (none_within (prog P p)) none_own refl k.base;
  waits = line_same w _ _ (test_put is_waiting P p no_program z c (sym (ap is_waiting r))) k.waits;
  helds = line_same e _ _ (test_put is_held P p no_program z c (sym (ap is_held r))) k.helds;
  asked = asked-put P p no_program z c refl k.asked;
  fav-waits = λ m. let (i, u) = k.fav-waits m in (i, test_put is_waiting P p no_program z c (sym (ap is_waiting r)) fav i ∙ u);
  count = λ m. let (i, u) = k.count m in let d = length_without p (ins P) (ins_once P) (mem-ins P p c (ap is_admitted r)) in
      let q = ap length (ins_out P p no_program z c refl) in let v = up m in (omega arith, u);
  nobody = λ m. let (i, u) = k.nobody m in (i, stay m ∙ u);
}
  where
    z : Sized P
    z = k.base.size

-- ── Cancel ──

-- A waiting program goes; fav', n' and l' are the three numbers of favouring after it.
pub loose_withdraw : (P : Progs) (w e : List ℕ) (fav n l fav' n' l' p f : ℕ) → Is p → stands P p ≡ Standing.Waiting f
    → (fav' ≢ 0 → (fav' ≡ fav) × (fav ≢ p) × (n' ≡ n) × (l' ≡ l + 1)) → (fav' ≡ 0 → (n' ≡ 0) × (l' ≡ 0))
    → LooseIn P w e fav n l → LooseIn (put P p no_program) (padded 0 (without p (names w))) e fav' n' l'
loose_withdraw P w e fav n l fav' n' l' p f c s keep stop k = record {
  base = base_leave P p no_program c (none_within (prog P p)) none_own refl k.base;
  waits = line_less w _ _ p (test_same is_waiting P p no_program z c) (test_other is_waiting P p no_program c) k.waits;
  helds = line_same e _ _ (test_put is_held P p no_program z c (sym (ap is_held s))) k.helds;
  asked = asked-put P p no_program z c refl k.asked;
  fav-waits = λ m. let (d, x, _, _) = keep m in let (i, v) = k.fav-waits (λ q. m (d ∙ q)) in subst (λ j. Is j × (waits_in
      (put P p no_program) j ≡ true)) (sym d) (i, test_other is_waiting P p no_program c fav i x ∙ v);
  count = λ m. let (d, _, x, y) = keep m in let (i, v) = k.count (λ q. m (d ∙ q)) in let a = length_without p (ins P) (ins_once P)
      (mem-ins P p c (ap is_admitted s)) in let q = ap length (ins_out P p no_program z c refl) in (omega arith, omega arith);
  nobody = stop;
}
  where
    z : Sized P
    z = k.base.size

-- A held program goes.
pub loose_unhold : (P : Progs) (w e : List ℕ) (fav n l p : ℕ) → Is p → stands P p ≡ Standing.Held → LooseIn P w e fav n l → LooseIn
    (put P p no_program) w (padded 0 (without p (names e))) fav n l
loose_unhold P w e fav n l p c s k = record {
  base = base_shrink P p no_program c (none_within (prog P p)) none_own (sym
      (ap is_admitted s)) k.base;
  waits = line_same w _ _ (test_put is_waiting P p no_program z c (sym (ap is_waiting s))) k.waits;
  helds = line_less e _ _ p (test_same is_held P p no_program z c) (test_other is_held P p no_program c) k.helds;
  asked = asked-put P p no_program z c refl k.asked;
  fav-waits = λ m. let (i, u) = k.fav-waits m in (i, test_put is_waiting P p no_program z c (sym (ap is_waiting s)) fav i ∙ u);
  count = λ m. let (i, u) = k.count m in (ap (λ q. l + length q) (ins-same P p no_program z c (sym (ap is_admitted s))) ∙ i, u);
  nobody = k.nobody;
}
  where
    z : Sized P
    z = k.base.size

-- ── Nothing becomes givable ──

-- A program is put anew with no fewer files, admitted as before.
pub stuck-put : (P : Progs) (p : ℕ) (x : Program) → Sized P → Is p → Within (prog P p) x → is_admitted x.standing ≡ is_in P p
    → (y g : ℕ) → Is y → (y ≡ p → SameClaims (prog P p) x) → can P y g ≡ false → can (put P p x) y g ≡ false
stuck-put P p x z c d e y g i v n = no_true _ (λ t. never (can_mono P (put P p x) y g z (sized_put P p x z) i (put_less P p x z c d)
    (put_case (λ q. SameClaims (prog P y) q) P p x z c y i (λ k. subst (λ j. SameClaims (prog P j) x) (sym k) (v k)) (λ _ m. refl))
    (λ h o k. (o, subst (λ m. IsOrder h m o) (ins-same P p x z c e) k)) t) n)

-- One more program is admitted.
stuck-admit : (P : Progs) (p : ℕ) (x : Program) → Sized P → Is p → is_in P p ≡ false → Within (prog P p) x
    → (y g : ℕ) → Is y → y ≢ p → can P y g ≡ false → can (put P p x) y g ≡ false
stuck-admit P p x z c out d y g i m n = no_true _ (λ t. never (can_mono P (put P p x) y g z (sized_put P p x z) i (put_less P p x z c d)
    (λ q. ap (claim_of q) (sym (put_other P p y x c i m)))
    (λ h o k. (
      without p o,
      subst (λ q. IsOrder h q (without p o)) (sym (ins-before P p x c out))
          (order-without h (ins (put P p x)) o p k),
    )) t) n)

-- ── Giving a waiter its file ──

-- P with f given to the waiter p, which runs.
abbrev pub served : Progs → ℕ → ℕ → Progs
served P p f = put (give P p f) p (set_standing (prog (give P p f) p) Standing.Running)

module _ (P : Progs) (p f : ℕ) (z : Sized P) (c : Is p) where
  given-prog : prog (give P p f) p ≡ opening (prog P p) f
  unfolding give
  given-prog = put_same P p (opening (prog P p) f) z c

  given-size : Sized (give P p f)
  unfolding give
  given-size = sized_put P p (opening (prog P p) f) z

  -- p keeps its record.
  pub served-item : ((prog (served P p f) p).item ≡ (prog P p).item) × ((prog (served P p f) p).file ≡ (prog P p).file)
  served-item = let e = put_same (give P p f) p (set_standing (prog (give P p f) p) Standing.Running) given-size c in
      let (a, b) = opening_item (prog P p) f in (
        ap (λ (q : Program). q.item) e ∙ ap (λ (q : Program). q.item) given-prog ∙ a,
        ap (λ (q : Program). q.file) e ∙ ap (λ (q : Program). q.file) given-prog ∙ b,
      )

  pub served-runs : stands (served P p f) p ≡ Standing.Running
  served-runs = ap (λ (q : Program). q.standing) (put_same (give P p f) p
      (set_standing (prog (give P p f) p) Standing.Running) given-size c)

  pub served-other : (i : ℕ) → Is i → i ≢ p → prog (served P p f) i ≡ prog P i
  unfolding give
  served-other i k n = put_other (give P p f) p i (set_standing (prog (give P p f) p) Standing.Running) c k n
      ∙ put_other P p i (opening (prog P p) f) c k n

  given-stands : stands (give P p f) p ≡ stands P p
  given-stands = ap (λ (q : Program). q.standing) given-prog ∙ opening_standing (prog P p) f

  pub served-ins : is_in P p ≡ true → ins (served P p f) ≡ ins P
  served-ins a = ins-same (give P p f) p (set_standing (prog (give P p f) p) Standing.Running) given-size c
      (sym (ap is_admitted given-stands ∙ a)) ∙ ins-give P p f z c

  pub served-stuck : is_in P p ≡ true → (y g : ℕ) → Is y → can P y g ≡ false → can (served P p f) y g ≡ false
  unfolding give
  served-stuck a y g i n = stuck-put (give P p f) p (set_standing (prog (give P p f) p) Standing.Running) given-size c
      (within_same _ _ (standing_same _ Standing.Running)) (sym (ap is_admitted given-stands
      ∙ a)) y g i (λ _. (standing_same (prog (give P p f) p) Standing.Running).same_claim)
      (stuck-put P p (opening (prog P p) f) z c (opening_more (prog P p) f)
      (ap is_admitted (opening_standing (prog P p) f)) y g i (λ _. opening-claims (prog P p) f) n)

  pub served-base : claims (prog P p) f ≡ true → is_in P p ≡ true → can P p f ≡ true → Base P → Base (served P p f)
  served-base m a e b = base_shrink (give P p f) p (set_standing (prog (give P p f) p) Standing.Running) c
      (within_same _ _ (same_turn _ _ (standing_same _ Standing.Running)))
      (own_same _ _ (standing_same _ Standing.Running) refl o) (sym (ap is_admitted given-stands ∙ a)) g
    where
      g : Base (give P p f)
      g = base_give P p f c m a e b

      o : Own (prog (give P p f) p)
      o = g.own p c

-- P with the waiter p running: it has what it waited for.
abbrev pub awake : Progs → ℕ → Progs
awake P p = put P p (set_standing (prog P p) Standing.Running)

-- P'' is P, with the waiter p running.
pub record Woken (P P'' : Progs) (p : ℕ) : Type 0 where
  pub w-base : Base P''
  pub w-runs : stands P'' p ≡ Standing.Running
  pub w-other : (i : ℕ) → Is i → i ≢ p → prog P'' i ≡ prog P i
  pub w-ins : ins P'' ≡ ins P
  pub w-stuck : (y g : ℕ) → Is y → can P y g ≡ false → can P'' y g ≡ false

-- A waiter is given its file.
pub woken_served : (P : Progs) (p f : ℕ) → Is p → is_in P p ≡ true → claims (prog P p) f ≡ true → can P p f ≡ true → Base P
    → Woken P (served P p f) p
woken_served P p f c a m u b = record {
  w-base = served-base P p f b.size c m a u b;
  w-runs = served-runs P p f b.size c;
  w-other = served-other P p f b.size c;
  w-ins = served-ins P p f b.size c a;
  w-stuck = served-stuck P p f b.size c a;
}

-- A waiter gets its record.
pub woken_handed : (P : Progs) (p : ℕ) → Is p → is_in P p ≡ true → Base P → Woken P (awake P p) p
woken_handed P p c a b = record {
  w-base = base_shrink P p x c (within_same _ _ (same_turn _ _ d)) (own_same _ _ d refl (b.own p c)) (sym a) b;
  w-runs = ap (λ (q : Program). q.standing) (put_same P p x b.size c);
  w-other = λ i j n. put_other P p i x c j n;
  w-ins = ins-same P p x b.size c (sym a);
  w-stuck = λ y g i. stuck-put P p x b.size c (within_same _ _ d) (sym a) y g i (λ _. d.same_claim);
}
  where
    x : Program
    x = set_standing (prog P p) Standing.Running

    d : SameSets (prog P p) x
    d = standing_same (prog P p) Standing.Running

-- The waiter p runs; fav', n' and l' are the three numbers of favouring after it.
pub loose_wake : (P P'' : Progs) (w e : List ℕ) (fav n l fav' n' l' p : ℕ) → Is p → waits_in P p ≡ true → Woken P P'' p
    → (fav' ≢ 0 → (fav' ≡ fav) × (fav ≢ p) × (n' ≡ n) × (l' ≡ l)) → (fav' ≡ 0 → (n' ≡ 0) × (l' ≡ 0))
    → LooseIn P w e fav n l → LooseIn P'' (padded 0 (without p (names w))) e fav' n' l'
loose_wake P P'' w e fav n l fav' n' l' p c s u keep stop k = record {
  base = u.w-base;
  waits = line_less w _ _ p (ap is_waiting u.w-runs)
      (λ i j m. ap (λ (q : Program). is_waiting q.standing) (u.w-other i j m)) k.waits;
  helds = line_same e _ _ still k.helds;
  asked = asked_kept P P'' p u.w-other (ap is_waiting u.w-runs) k.asked;
  fav-waits = λ m. let (d, x, _, _) = keep m in let (i, v) = k.fav-waits (λ q. m (d ∙ q)) in
      subst (λ j. Is j × (waits_in P'' j ≡ true)) (sym d) (i, ap (λ (q : Program). is_waiting q.standing) (u.w-other fav i x) ∙ v);
  count = λ m. let (d, _, x, y) = keep m in let (i, v) = k.count (λ q. m (d ∙ q)) in let q = ap length u.w-ins in
      (omega arith, omega arith);
  nobody = stop;
}
  where
    unheld : (s : Standing) → is_waiting s ≡ true → is_held s ≡ false
    unheld s e = let (f, d) = waiting_file s e in ap is_held d

    still : (i : ℕ) → Is i → held_at P'' i ≡ held_at P i
    still i j = by_test (eqb i p)
        (λ t. ap (held_at P'') (eqb-true i p t) ∙ ap is_held u.w-runs ∙ sym (unheld (stands P p) s)
        ∙ ap (held_at P) (sym (eqb-true i p t)))
        (λ t. ap (λ (q : Program). is_held q.standing) (u.w-other i j (eqb-false i p t)))

-- ── Open: the file is given ──

pub loose_open : (P : Progs) (w e : List ℕ) (fav n l p f : ℕ) → Is p → stands P p ≡ Standing.Running
    → claims (prog P p) f ≡ true → can P p f ≡ true → LooseIn P w e fav n l → LooseIn (give P p f) w e fav n l
unfolding give
loose_open P w e fav n l p f c r m u k = record {
  base = base_give P p f c m (ap is_admitted r) u k.base;
  waits = line_same w _ _ (test_put is_waiting P p x z c (ap is_waiting o)) k.waits;
  helds = line_same e _ _ (test_put is_held P p x z c (ap is_held o)) k.helds;
  asked = asked-put P p x z c (ap is_waiting (o ∙ r)) k.asked;
  fav-waits = λ m. let (i, v) = k.fav-waits m in (i, test_put is_waiting P p x z c (ap is_waiting o) fav i ∙ v);
  count = λ m. let (i, v) = k.count m in (ap (λ q. l + length q) (ins-same P p x z c (ap is_admitted o)) ∙ i, v);
  nobody = k.nobody;
}
  where
    z : Sized P
    z = k.base.size

    x : Program
    x = opening (prog P p) f

    o : x.standing ≡ stands P p
    o = opening_standing (prog P p) f

pub stuck_open : (P : Progs) (p f : ℕ) → Sized P → Is p → stands P p ≡ Standing.Running → Stuck P → Stuck (give P p f)
unfolding give
stuck_open P p f z c r s y i g = put_case (λ q. Awaits q g → can (put P p x) y g ≡ false) P p x z c y i
    (λ _ u. never {t = false} (sym (ap is_waiting (opening_standing (prog P p) f ∙ r)) ∙ ap is_waiting u.0) refl)
    (λ _ u. stuck-put P p x z c (opening_more (prog P p) f) (ap is_admitted (opening_standing (prog P p) f)) y g i
    (λ _. opening-claims (prog P p) f) (s y i g u))
  where
    x : Program
    x = opening (prog P p) f

-- ── A program waits, or its record changes ──

-- A running program begins to wait.
pub loose_wait : (P : Progs) (w e : List ℕ) (fav n l p : ℕ) (x : Program) → Is p → stands P p ≡ Standing.Running
    → is_waiting x.standing ≡ true → SameSets (prog P p) x → Asks x → LooseIn P w e fav n l
    → LooseIn (put P p x) (padded 0 (names w ++ (p ∷ []))) e fav n l
loose_wait P w e fav n l p x c r s d m k = record {
  base = base_shrink P p x c (within_same _ _ (same_turn _ _ d)) (own_same _ _ d a (k.base.own p c)) (a ∙ sym (ap is_admitted r)) k.base;
  waits = line_more w _ _ p c (ap is_waiting r) (test_same is_waiting P p x z c ∙ s) (test_other is_waiting P p x c) k.waits;
  helds = line_same e _ _ (test_put is_held P p x z c (h ∙ sym (ap is_held r))) k.helds;
  asked = λ i j. put_case Asks P p x z c i j (λ _. m) (λ _. k.asked i j);
  fav-waits = λ v. let (i, u) = k.fav-waits v in (
    i,
    test_other is_waiting P p x c fav i
        (λ d. never u (ap (waits_in P) d ∙ ap is_waiting r)) ∙ u,
  );
  count = λ v. let (i, u) = k.count v in (ap (λ q. l + length q) (ins-same P p x z c (a ∙ sym (ap is_admitted r))) ∙ i, u);
  nobody = k.nobody;
}
  where
    z : Sized P
    z = k.base.size

    a : is_admitted x.standing ≡ true
    a = waiting_in x.standing s

    h : is_held x.standing ≡ false
    h = let (f, d) = waiting_file x.standing s in ap is_held d

-- A running program is put anew with its sets: it waits, or its record changes.
pub stuck-same : (P : Progs) (p : ℕ) (x : Program) → Sized P → Is p → stands P p ≡ Standing.Running → is_admitted x.standing ≡ true
    → SameSets (prog P p) x → ((g : ℕ) → Awaits x g → can P p g ≡ false) → Stuck P → Stuck (put P p x)
stuck-same P p x z c r a d n s y i g = put_case (λ q. Awaits q g → can (put P p x) y g ≡ false) P p x z c y i
    (λ e u. same (ap (λ h. can P h g) e ∙ n g u)) (λ _ u. same (s y i g u))
  where
    same : can P y g ≡ false → can (put P p x) y g ≡ false
    same = stuck-put P p x z c (within_same _ _ d) (a ∙ sym (ap is_admitted r)) y g i (λ _. d.same_claim)

-- ── Enter ──

absent_within : (x y : Program) → Own x → x.standing ≡ Standing.Absent → Within x y
absent_within x y o e = record {
  in_claim = λ m. subst (λ s. s ⊑ claim_of m y) (sym (o.gone e m)) (none_⊑ _);
  in_open = λ m. subst (λ s. s ⊑ open_of m y) (sym (o.idle (ap is_admitted e) m)) (none_⊑ _);
}

-- A program with nothing open runs that was not admitted: one that enters, or one that was held.
pub loose_admit : (P : Progs) (w e e' : List ℕ) (n l p : ℕ) (x : Program) → Is p → is_in P p ≡ false
    → Idle x → x.standing ≡ Standing.Running → Own x
    → OnLine e' (held_at (put P p x)) → LooseIn P w e 0 n l → LooseIn (put P p x) w e' 0 n l
loose_admit P w e e' n l p x c out a s o h k = record {
  base = base_enter P p x c out a o (ap is_admitted s) k.base;
  waits = line_same w _ _ (test_put is_waiting P p x z c (ap is_waiting s ∙ sym idle)) k.waits;
  helds = h;
  asked = asked-put P p x z c (ap is_waiting s) k.asked;
  fav-waits = λ m. absurd (m refl);
  count = λ m. absurd (m refl);
  nobody = k.nobody;
}
  where
    z : Sized P
    z = k.base.size

    idle : waits_in P p ≡ false
    idle = no_true _ (λ u. never (waiting_in (stands P p) u) out)

pub stuck_in : (P : Progs) (p : ℕ) (x : Program) → Sized P → Is p → is_in P p ≡ false → Within (prog P p) x
    → x.standing ≡ Standing.Running → Stuck P → Stuck (put P p x)
stuck_in P p x z c out d s k y i g = put_case (λ q. Awaits q g → can (put P p x) y g ≡ false) P p x z c y i
    (λ _ u. never {t = false} (sym (ap is_waiting s) ∙ ap is_waiting u.0) refl) (λ n u. stuck-admit P p x z c out d y g i n (k y i g u))

-- A newcomer's sets.
pub newcomer_own : (s : Standing) (v q j : FileSet) → claims_meet v q j ≡ false → is_absent s ≡ false → Own (newcomer v q j s)
newcomer_own s v q j m n = record {
  inside = λ k. subst (λ t. t ⊑ claim_of k (newcomer v q j s)) (sym (newcomer_open k v q j s)) (none_⊑ _);
  apart = m;
  idle = λ _ k. newcomer_open k v q j s;
  gone = λ d. never (ap is_absent d) n;
}

-- Enter, with nobody favoured: the program runs.
pub loose_enter : (P : Progs) (w e : List ℕ) (n l p : ℕ) (v q j : FileSet) → Is p → stands P p ≡ Standing.Absent
    → claims_meet v q j ≡ false → LooseIn P w e 0 n l
    → LooseIn (put P p (newcomer v q j Standing.Running)) w e 0 n l
loose_enter P w e n l p v q j c s m k = loose_admit P w e e n l p x c (ap is_admitted s) (λ m. newcomer_open m v q j Standing.Running) refl
    (newcomer_own Standing.Running v q j m refl) (line_same e _ _ (test_put is_held P p x k.base.size c (sym (ap is_held s))) k.helds) k
  where
    x : Program
    x = newcomer v q j Standing.Running

pub stuck-enter : (P : Progs) (p : ℕ) (x : Program) → Base P → Is p → stands P p ≡ Standing.Absent
    → x.standing ≡ Standing.Running → Stuck P → Stuck (put P p x)
stuck-enter P p x b c s r k = stuck_in P p x b.size c (ap is_admitted s) (absent_within (prog P p) x (b.own p c) s) r k

-- Enter, with somebody favoured, or to be: the program is held.
pub loose_hold : (P : Progs) (w e : List ℕ) (fav n l p : ℕ) (v q j : FileSet) → Is p → stands P p ≡ Standing.Absent
    → claims_meet v q j ≡ false → LooseIn P w e fav n l
    → LooseIn (put P p (newcomer v q j Standing.Held)) w (padded 0 (names e ++ (p ∷ []))) fav n l
loose_hold P w e fav n l p v q j c s m k = record {
  base = record {
    size = sized_put P p x z;
    own = λ i a. put_case Own P p x z c i a (λ _. newcomer_own Standing.Held v q j m refl) (λ _. k.base.own i a);
    apart = λ i h a b d. put_case (λ y. conflict y (prog (put P p x) h) ≡ false) P p x z c i a
        (λ _. idle_conflict x (prog (put P p x) h) (λ m. newcomer_open m v q j Standing.Held))
        (λ _. put_case (λ y. conflict (prog P i) y ≡ false) P p x z c h b (λ _. conflict_idle (prog P i) x (λ m. newcomer_open m v q j Standing.Held))
        (λ _. k.base.apart i h a b d));
    order = (
      k.base.order.0,
      subst (λ h. IsOrder (holds (put P p x)) h k.base.order.0)
          (sym (ins-same P p x z c adm)) (order_below (holds P) (holds (put P p x)) (ins P) k.base.order.0
          (λ i j a b d u. sym (ap₂ holds_back (same i a) (same j b)) ∙ u) k.base.order.1),
    );
  };
  waits = line_same w _ _ (test_put is_waiting P p x z c (sym (ap is_waiting s))) k.waits;
  helds = line_more e _ _ p c (ap is_held s) (test_same is_held P p x z c) (test_other is_held P p x c) k.helds;
  asked = asked-put P p x z c refl k.asked;
  fav-waits = λ d. let (i, u) = k.fav-waits d in (i, test_put is_waiting P p x z c (sym (ap is_waiting s)) fav i ∙ u);
  count = λ d. let (i, u) = k.count d in (ap (λ h. l + length h) (ins-same P p x z c adm) ∙ i, u);
  nobody = k.nobody;
}
  where
    z : Sized P
    z = k.base.size

    x : Program
    x = newcomer v q j Standing.Held

    adm : false ≡ is_in P p
    adm = sym (ap is_admitted s)

    same : (i : ℕ) → i ∈ ins P → prog (put P p x) i ≡ prog P i
    same i a = put_other P p i x c (ins-mem P i a).0 (λ d. never (ins-mem P i a).1 (ap (is_in P) d ∙ ap is_admitted s))

pub stuck-hold : (P : Progs) (p : ℕ) (x : Program) → Base P → Is p → stands P p ≡ Standing.Absent
    → x.standing ≡ Standing.Held → Stuck P → Stuck (put P p x)
stuck-hold P p x b c s r k y i g = put_case (λ q. Awaits q g → can (put P p x) y g ≡ false) P p x b.size c y i
    (λ _ u. never {t = false} (sym (ap is_waiting r) ∙ ap is_waiting u.0) refl)
    (λ n u. stuck-put P p x b.size c (absent_within (prog P p) x (b.own p c) s) (ap is_admitted r ∙ sym (ap is_admitted s)) y g i
    (λ e. absurd (n e)) (k y i g u))
