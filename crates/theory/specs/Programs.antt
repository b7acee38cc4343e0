-- The programs of a board: what keeps conflict away and a completion order there.
-- Program p is `prog P p`, which is `at b p` where P is `b.programs`.
-- Assumes nothing.
use Rattle.std.specs.Prelude.{ℕ, zero, suc, ◌≤◌, ◌-◌, ◌≡◌, refl, ◌≢◌, ◌⊎◌, Bool, true, false, not, ◌&&◌, List, [], ◌∷◌, ◌++◌, eqb, leb, length}
use Rattle.std.specs.Prelude.{get_or, set}
use Rattle.std.proofs.Common.{arith, sym, ◌∙◌, ap, ap₂, subst, inl, inr, ⊎_elim, length-set, get_or-set_same, get_or-set_other, eqb-true, ne_eqb}
use Rattle.std.proofs.Common.{leb-true, le-leb}
use Rattle.std.proofs.lemmas.Bool.{eqb-false}
use Rattle.laws.specs.Tests.{by_test, by_option, never, and_left, and_right, and_both, no_true, not_true, true_not, same_test}
use Rattle.files.specs.Sets.{no_files, member, meets}
use Rattle.files.proofs.Laws.{◌⊑◌, meets_at, adding_⊒, adding_⊑, adding_mono, adding-meets}
use Rattle.rules.specs.declared.Standing.{Standing}
use Rattle.rules.specs.declared.Program.{Program}
use Rattle.rules.specs.declared.Board.{Board}
use Rattle.laws.specs.Lists.{any, keep, rising, without, found, first}
use Rattle.rules.specs.declared.Mode.{Mode}
use Rattle.rules.specs.Modes.{claim_of, open_of, claims_meet, mode_of}
use Rattle.rules.specs.Boards.{no_program, is_admitted, is_program, everyone, at, admitted, claims, set_standing, set_item, opened, opening}
use Rattle.rules.specs.Orders.{conflict, holds_back, held_back, carried_from, carried, with_given, in_use, safe, can_give}
use Rattle.laws.specs.Laws.{◌∈◌, Pairs, NoRepeat, by_mem, any_some, some-any, found_some, keep_mem, mem_keep, keep_same}
use Rattle.laws.specs.Laws.{keep_but, Pairs_keep, length_keep, without-mem, mem-without, rising-mem, mem-rising, rising_pairs}
use Rattle.laws.specs.Laws.{length-rising, Pairs-map}
use Rattle.theory.specs.Order.{Names, IsOrder, held_in, search, order_in, order_in_iff, order_in_none, HeldLater, held_not_clear}
use Rattle.theory.specs.Modes.{clashing_turn, by-touching, touching-by, touching_mono, touching_sym, none_touches, touches_none, opened_claim}
use Rattle.theory.specs.Modes.{standing_claim, standing_open, opened_case, opened_both, mode_claims, SameClaims, mode_same}
use Rattle.theory.specs.Modes.{meet_same, item_claim, item_open}
use Rattle.theory.specs.Order.{order_below, order-without, order_last, order_first}

-- p is a program: 1 to 32.
pub record Is (p : ℕ) : Type 0 where
  pub least : 1 ≤ p
  pub most : p ≤ 32

pub is_of : (p : ℕ) → is_program p ≡ true → Is p
is_of p e = record { least = leb-true 1 p (and_left (leb 1 p) (leb p 32) e); most = leb-true p 32 (and_right (leb 1 p) (leb p 32) e) }

pub of_is : (p : ℕ) → Is p → is_program p ≡ true
of_is p c = and_both (leb 1 p) (leb p 32) (le-leb 1 p c.least) (le-leb p 32 c.most)

pub mem-everyone : (p : ℕ) → Is p → p ∈ everyone
unfolding everyone
mem-everyone p c = mem-rising 32 1 p c.least (let m = c.most in omega arith)

pub everyone_is : (p : ℕ) → p ∈ everyone → Is p
unfolding everyone
everyone_is p m = let r = rising-mem 32 1 p m in record { least = r.0; most = let k = r.1 in omega arith }

-- ── More files, more claims ──

pub record Within (x y : Program) : Type 0 where
  pub in_claim : (m : Mode) → claim_of m x ⊑ claim_of m y
  pub in_open : (m : Mode) → open_of m x ⊑ open_of m y

pub within_refl : (x : Program) → Within x x
within_refl x = record { in_claim = λ m f e. e; in_open = λ m f e. e }

pub holds_back_mono : (i j i' j' : Program) → Within i i' → Within j j' → holds_back i j ≡ true → holds_back i' j' ≡ true
holds_back_mono i j i' j' c d = touching_mono _ _ _ _ c.in_open d.in_claim

pub conflict_mono : (i j i' j' : Program) → Within i i' → Within j j' → conflict i j ≡ true → conflict i' j' ≡ true
conflict_mono i j i' j' c d = touching_mono _ _ _ _ c.in_open d.in_open

pub conflict_sym : (i j : Program) → conflict i j ≡ true → conflict j i ≡ true
conflict_sym i j = touching_sym _ _

-- Two in conflict hold back each other, if what is open is claimed.
pub conflict-holds : (i j : Program) → ((m : Mode) → open_of m j ⊑ claim_of m j) → conflict i j ≡ true → holds_back i j ≡ true
conflict-holds i j c = touching_mono _ _ _ _ (λ m f u. u) c

-- Nothing is open.
abbrev pub Idle : Program → Type 0
Idle x = (m : Mode) → open_of m x ≡ no_files

pub idle_holds : (x y : Program) → Idle x → holds_back x y ≡ false
idle_holds x y = none_touches _ _

pub idle_conflict : (x y : Program) → Idle x → conflict x y ≡ false
idle_conflict x y = none_touches _ _

pub conflict_idle : (x y : Program) → Idle y → conflict x y ≡ false
conflict_idle x y = touches_none _ _

-- ── A list of programs, read and written by number ──

abbrev pub Progs : Type 0
Progs = List Program

abbrev pub prog : Progs → ℕ → Program
prog P p = get_or P (p - 1) no_program

abbrev pub put : Progs → ℕ → Program → Progs
put P p x = set P (p - 1) x

-- The board has 32 programs.
abbrev pub Sized : Progs → Type 0
Sized P = length P ≡ 32

pub sized_put : (P : Progs) (p : ℕ) (x : Program) → Sized P → Sized (put P p x)
sized_put P p x z = length-set P (p - 1) x ∙ z

pub put_same : (P : Progs) (p : ℕ) (x : Program) → Sized P → Is p → prog (put P p x) p ≡ x
put_same P p x z c = get_or-set_same P (p - 1) x no_program (let a = c.least in let b = c.most in omega arith)

pub put_other : (P : Progs) (p i : ℕ) (x : Program) → Is p → Is i → i ≢ p → prog (put P p x) i ≡ prog P i
put_other P p i x c d n = get_or-set_other P (p - 1) (i - 1) x no_program (let a = c.least in let b = d.least in λ e. n (omega arith))

pub put_case : (D : Program → Type 0) (P : Progs) (p : ℕ) (x : Program) → Sized P → Is p → (i : ℕ) → Is i
    → (i ≡ p → D x) → (i ≢ p → D (prog P i)) → D (prog (put P p x) i)
put_case D P p x z c i d f g = by_test (eqb i p)
    (λ t. let e = eqb-true i p t in subst D (sym (ap (prog (put P p x)) e ∙ put_same P p x z c)) (f e))
    (λ t. let n = eqb-false i p t in subst D (sym (put_other P p i x c d n)) (g n))

-- ── What the rules say of the board depends on its programs ──

abbrev pub holds : Progs → ℕ → ℕ → Bool
holds P i j = holds_back (prog P i) (prog P j)

abbrev pub is_in : Progs → ℕ → Bool
is_in P p = is_admitted (prog P p).standing

-- the admitted programs, rising
unfoldable pub ins : Progs → List ℕ
ins P = keep (is_in P) everyone

-- P with f given to p
unfoldable pub give : Progs → ℕ → ℕ → Progs
give P p f = put P p (opening (prog P p) f)

-- i is another program, and it and p would conflict with f given to p
abbrev pub clash : Progs → ℕ → ℕ → ℕ → Bool
clash P p f i = not (eqb i p) && conflict (prog P i) (opening (prog P p) f)

unfoldable pub used : Progs → ℕ → ℕ → Bool
used P p f = any (clash P p f) everyone

-- an order comes back
unfoldable pub ordered : Progs → Bool
ordered P = found (order_in (holds P) (ins P))

unfoldable pub can : Progs → ℕ → ℕ → Bool
can P p f = not (used P p f) && ordered (give P p f)

pub admitted_is : (b : Board) → admitted b ≡ ins b.programs
unfolding admitted ins
admitted_is b = refl

pub carried_from_is : (n : ℕ) (b : Board) (l : List ℕ) → carried_from n b l ≡ search (holds b.programs) n l
unfolding carried_from search held_back held_in
carried_from_is zero b l = refl
carried_from_is (suc n) b l = by_option (first (λ p. not (held_in (holds b.programs) l p)) l) (λ u. rw u)
    (λ p u. rw (u, carried_from_is n b (without p l)))

-- The carried order of the board is what the search finds.
pub carried_is : (b : Board) → carried b ≡ order_in (holds b.programs) (ins b.programs)
unfolding carried
carried_is b = carried_from_is (length (admitted b)) b (admitted b) ∙ ap (λ l. search (holds b.programs) (length l) l) (admitted_is b)

pub in_use_is : (b : Board) (p f : ℕ) → in_use b p f ≡ used b.programs p f
unfolding in_use used
in_use_is b p f = refl

pub with_given_is : (b : Board) (p f : ℕ) → (with_given b p f).programs ≡ give b.programs p f
unfolding with_given give
with_given_is b p f = refl

pub safe_is : (b : Board) (p f : ℕ) → safe b p f ≡ ordered (give b.programs p f)
unfolding safe ordered
safe_is b p f = ap found (carried_is (with_given b p f)) ∙ ap ordered (with_given_is b p f)

pub can_give_is : (b : Board) (p f : ℕ) → can_give b p f ≡ can b.programs p f
unfolding can_give can
can_give_is b p f = ap₂ (λ u v. not u && v) (in_use_is b p f) (safe_is b p f)

-- ── Who is admitted ──

pub mem-ins : (P : Progs) (p : ℕ) → Is p → is_in P p ≡ true → p ∈ ins P
unfolding ins
mem-ins P p c e = mem_keep (is_in P) everyone p (mem-everyone p c) e

pub ins-mem : (P : Progs) (p : ℕ) → p ∈ ins P → Is p × (is_in P p ≡ true)
unfolding ins
ins-mem P p m = let r = keep_mem (is_in P) everyone p m in (everyone_is p r.0, r.1)

pub ins_once : (P : Progs) → NoRepeat (ins P)
unfolding ins everyone
ins_once P = Pairs_keep _ (is_in P) everyone (Pairs-map everyone (λ a b m k l d. absurd (omega arith)) (rising_pairs 32 1))

pub length-ins : (P : Progs) → length (ins P) ≤ 32
unfolding ins everyone
length-ins P = let i = length_keep (is_in P) (rising 32 1) in let j = length-rising 32 1 in omega arith

pub ins-same : (P : Progs) (p : ℕ) (x : Program) → Sized P → Is p → is_admitted x.standing ≡ is_in P p → ins (put P p x) ≡ ins P
unfolding ins
ins-same P p x z c e = keep_same (is_in (put P p x)) (is_in P) everyone
    (λ i m. put_case (λ y. is_admitted y.standing ≡ is_in P i) P p x z c i (everyone_is i m) (λ d. e ∙ ap (is_in P) (sym d)) (λ n. refl))

pub ins_out : (P : Progs) (p : ℕ) (x : Program) → Sized P → Is p → is_admitted x.standing ≡ false → ins (put P p x) ≡ without p (ins P)
unfolding ins
ins_out P p x z c e = keep_but (is_in P) (is_in (put P p x)) p everyone (ap (λ (y : Program). is_admitted y.standing)
    (put_same P p x z c) ∙ e) (λ i m n. ap (λ (y : Program). is_admitted y.standing) (put_other P p i x c (everyone_is i m) n))

pub ins-before : (P : Progs) (p : ℕ) (x : Program) → Is p → is_in P p ≡ false → ins P ≡ without p (ins (put P p x))
unfolding ins
ins-before P p x c e = keep_but (is_in (put P p x)) (is_in P) p everyone e
    (λ i m n. ap (λ (y : Program). is_admitted y.standing) (sym (put_other P p i x c (everyone_is i m) n)))

-- ── What holds of the programs of a sound board ──

-- What holds of a program by itself.
pub record Own (x : Program) : Type 0 where
  pub inside : (m : Mode) → open_of m x ⊑ claim_of m x
  pub apart : claims_meet x.writable x.readable x.inquirable ≡ false
  pub idle : is_admitted x.standing ≡ false → Idle x
  pub gone : x.standing ≡ Standing.Absent → (m : Mode) → claim_of m x ≡ no_files

-- Two programs with the same claims and the same open files.
pub record SameSets (x y : Program) : Type 0 where
  pub same_claim : SameClaims x y
  pub same_open : (m : Mode) → open_of m x ≡ open_of m y

pub same-sets : (x : Program) → SameSets x x
same-sets x = record { same_claim = λ m. refl; same_open = λ m. refl }

pub standing_same : (x : Program) (s : Standing) → SameSets x (set_standing x s)
standing_same x s = record { same_claim = λ m. sym (standing_claim m x s); same_open = λ m. sym (standing_open m x s) }

pub item_same : (x : Program) (f r : ℕ) → SameSets x (set_item x f r)
item_same x f r = record { same_claim = λ m. sym (item_claim m x f r); same_open = λ m. sym (item_open m x f r) }

pub same_then : (x y z : Program) → SameSets x y → SameSets y z → SameSets x z
same_then x y z d e = record { same_claim = λ m. d.same_claim m ∙ e.same_claim m; same_open = λ m. d.same_open m ∙ e.same_open m }

pub same_turn : (x y : Program) → SameSets x y → SameSets y x
same_turn x y d = record { same_claim = λ m. sym (d.same_claim m); same_open = λ m. sym (d.same_open m) }

pub within_same : (x y : Program) → SameSets x y → Within x y
within_same x y d = record {
  in_claim = λ m. subst (λ s. claim_of m x ⊑ s) (d.same_claim m) (λ g e. e);
  in_open = λ m. subst (λ s. open_of m x ⊑ s) (d.same_open m) (λ g e. e);
}

-- An admitted program with the sets of another.
pub own_same : (x y : Program) → SameSets x y → is_admitted y.standing ≡ true → Own x → Own y
own_same x y d a o = record {
  inside = λ m. subst (λ s. s ⊑ claim_of m y) (d.same_open m)
      (subst (λ s. open_of m x ⊑ s) (d.same_claim m) (o.inside m));
  apart = meet_same x y d.same_claim ∙ o.apart;
  idle = λ e. never a e;
  gone = λ e. never a (ap is_admitted e);
}

pub record Base (P : Progs) : Type 0 where
  pub size : Sized P
  pub own : (i : ℕ) → Is i → Own (prog P i)
  pub apart : (i j : ℕ) → Is i → Is j → i ≢ j → conflict (prog P i) (prog P j) ≡ false
  pub order : (o : List ℕ) × IsOrder (holds P) (ins P) o

abbrev pub Less : Progs → Progs → Type 0
Less P' P = (i : ℕ) → Is i → Within (prog P' i) (prog P i)

pub less_put : (P : Progs) (p : ℕ) (x : Program) → Sized P → Is p → Within x (prog P p) → Less (put P p x) P
less_put P p x z c d i k = put_case (λ y. Within y (prog P i)) P p x z c i k (λ e. subst
    (λ j. Within x (prog P j)) (sym e) d) (λ n. within_refl (prog P i))

pub put_less : (P : Progs) (p : ℕ) (x : Program) → Sized P → Is p → Within (prog P p) x → Less P (put P p x)
put_less P p x z c d i k = put_case (λ y. Within (prog P i) y) P p x z c i k (λ e. subst
    (λ j. Within (prog P j) x) (sym e) d) (λ n. within_refl (prog P i))

own_put : (P : Progs) (p : ℕ) (x : Program) → Sized P → Is p → ((i : ℕ) → Is i → Own (prog P i)) → Own x → (i : ℕ)
    → Is i → Own (prog (put P p x) i)
own_put P p x z c f o i k = put_case Own P p x z c i k (λ e. o) (λ n. f i k)

apart_less : (P' P : Progs) → Less P' P → ((i j : ℕ) → Is i → Is j → i ≢ j → conflict (prog P i) (prog P j) ≡ false)
    → (i j : ℕ) → Is i → Is j → i ≢ j → conflict (prog P' i) (prog P' j) ≡ false
apart_less P' P l f i j a b n = no_true _ (λ t. never (conflict_mono _ _ _ _ (l i a) (l j b) t) (f i j a b n))

apart_put : (P : Progs) (p : ℕ) (x : Program) → Sized P → Is p
    → ((i j : ℕ) → Is i → Is j → i ≢ j → conflict (prog P i) (prog P j) ≡ false)
    → ((j : ℕ) → Is j → j ≢ p → conflict x (prog P j) ≡ false) → ((j : ℕ) → Is j → j ≢ p → conflict (prog P j) x ≡ false)
    → (i j : ℕ) → Is i → Is j → i ≢ j → conflict (prog (put P p x) i) (prog (put P p x) j) ≡ false
apart_put P p x z c f g h i j a b n = put_case (λ y. conflict y (prog (put P p x) j) ≡ false) P p x z c i a
    (λ e. put_case (λ y. conflict x y ≡ false) P p x z c j b (λ d. absurd (n (e ∙ sym d))) (g j b))
    (λ k. put_case (λ y. conflict (prog P i) y ≡ false) P p x z c j b (λ d. h i a k) (λ _. f i j a b n))

-- ── Close and drop: fewer files, the same standing ──

pub base_shrink : (P : Progs) (p : ℕ) (x : Program) → Is p → Within x (prog P p) → Own x
    → is_admitted x.standing ≡ is_in P p → Base P → Base (put P p x)
base_shrink P p x c d o e b = record {
  size = sized_put P p x b.size;
  own = own_put P p x b.size c b.own o;
  apart = apart_less (put P p x) P l b.apart;
  order = (
    b.order.0,
    rw (ins-same P p x b.size c e) (order_below (holds P) (holds (put P p x)) (ins P)
        b.order.0 (λ i j m k n. holds_back_mono _ _ _ _ (l i (ins-mem P i m).0) (l j (ins-mem P j k).0)) b.order.1),
  );
}
  where
    l : Less (put P p x) P
    l = less_put P p x b.size c d

-- ── Leave ──

pub base_leave : (P : Progs) (p : ℕ) (x : Program) → Is p → Within x (prog P p) → Own x → is_admitted x.standing ≡ false
    → Base P → Base (put P p x)
base_leave P p x c d o e b = record {
  size = sized_put P p x b.size;
  own = own_put P p x b.size c b.own o;
  apart = apart_less (put P p x) P l b.apart;
  order = (
    without p b.order.0,
    rw (ins_out P p x b.size c e) (order_below (holds P) (holds (put P p x)) _ _
        (λ i j m k n. holds_back_mono _ _ _ _ (l i (is i m)) (l j (is j k))) (order-without (holds P) (ins P)
        b.order.0 p b.order.1)),
  );
}
  where
    l : Less (put P p x) P
    l = less_put P p x b.size c d

    is : (i : ℕ) → i ∈ without p (ins P) → Is i
    is i m = (ins-mem P i (without-mem p (ins P) i m).0).0

-- ── Enter: a program with nothing open ──

pub base_enter : (P : Progs) (p : ℕ) (x : Program) → Is p → is_in P p ≡ false → Idle x
    → Own x → is_admitted x.standing ≡ true → Base P → Base (put P p x)
base_enter P p x c out a o e b = record {
  size = sized_put P p x z;
  own = own_put P p x z c b.own o;
  apart = apart_put P p x z c b.apart (λ j k n. idle_conflict x (prog P j) a) (λ j k n. conflict_idle (prog P j) x a);
  order = (
    b.order.0 ++ (p ∷ []),
    order_last (holds P') (ins P) (ins P') b.order.0 p new old mine (λ m. never (ins-mem P p m).1 out)
        (λ i m. ap (λ y. holds_back y (prog P' i)) (put_same P p x z c) ∙ idle_holds x (prog P' i) a)
        (order_below (holds P) (holds P') (ins P) b.order.0 (λ i j m k n u. sym (ap₂ holds_back (same i m) (same j k))
        ∙ u) b.order.1),
  );
}
  where
    z : Sized P
    z = b.size

    P' : Progs
    P' = put P p x

    same : (i : ℕ) → i ∈ ins P → prog P' i ≡ prog P i
    same i m = put_other P p i x c (ins-mem P i m).0 (λ d. never (ins-mem P i m).1 (ap (is_in P) d ∙ out))

    was : ins P ≡ without p (ins P')
    was = ins-before P p x c out

    mine : p ∈ ins P'
    mine = mem-ins P' p c (ap (λ (y : Program). is_admitted y.standing) (put_same P p x z c) ∙ e)

    old : (i : ℕ) → i ∈ ins P → i ∈ ins P'
    old i m = (without-mem p (ins P') i (subst (λ l. i ∈ l) was m)).0

    new : (i : ℕ) → i ∈ ins P' → (i ≡ p) ⊎ (i ∈ ins P)
    new i m = by_test (eqb i p) (λ t. inl (eqb-true i p t))
        (λ t. inr (subst (λ l. i ∈ l) (sym was) (mem-without p (ins P') i m (eqb-false i p t))))

-- ── Giving a file ──

pub opening_standing : (x : Program) (f : ℕ) → (opening x f).standing ≡ x.standing
unfolding opening
opening_standing x f = refl

pub opening_item : (x : Program) (f : ℕ) → ((opening x f).item ≡ x.item) × ((opening x f).file ≡ x.file)
unfolding opening
opening_item x f = (refl, refl)

pub opening-claims : (x : Program) (f : ℕ) → SameClaims x (opening x f)
unfolding opening
opening-claims x f m = sym (opened_claim (mode_of x f) m x f)

pub opening_more : (x : Program) (f : ℕ) → Within x (opening x f)
unfolding opening
opening_more x f = record {
  in_claim = λ m. subst (λ s. claim_of m x ⊑ s) (opening-claims x f m) (λ g e. e);
  in_open = λ m. opened_case ◌⊑◌ (mode_of x f) m x f (λ _. adding_⊒ (open_of m x) f) (λ g e. e);
}

pub opening_own : (x : Program) (f : ℕ) → claims x f ≡ true → is_admitted x.standing ≡ true → Own x → Own (opening x f)
unfolding opening
opening_own x f m a o = record {
  inside = λ n. subst (λ s. open_of n (opened (mode_of x f) x f) ⊑ s) (opening-claims x f n)
      (opened_case (λ s t. s ⊑ claim_of n x → t ⊑ claim_of n x) (mode_of x f) n x f
      (λ d u. adding_⊑ (open_of n x) (claim_of n x) f u
      (subst (λ k. member (claim_of k x) f ≡ true) (sym d) (mode_claims x f m)))
      (λ u. u) (o.inside n));
  apart = meet_same x (opening x f) (opening-claims x f) ∙ o.apart;
  idle = λ e. never a e;
  gone = λ d n. sym (opening-claims x f n) ∙ o.gone d n;
}

pub ins-give : (P : Progs) (p f : ℕ) → Sized P → Is p → ins (give P p f) ≡ ins P
unfolding give
ins-give P p f z c = ins-same P p (opening (prog P p) f) z c (ap is_admitted (opening_standing (prog P p) f))

pub unused : (P : Progs) (p f : ℕ) → used P p f ≡ false → (i : ℕ) → Is i → i ≢ p → conflict (prog P i) (opening (prog P p) f) ≡ false
unfolding used
unused P p f e i c n =
    no_true _ (λ t. never (some-any (clash P p f) everyone i (mem-everyone i c) (and_both (not (eqb i p)) _
    (true_not (eqb i p) (ne_eqb i p n)) t)) e)

pub used_by_lem : (P : Progs) (p f : ℕ) → used P p f ≡ true → (i : ℕ) × Is i × (i ≢ p) × (conflict (prog P i) (opening (prog P p) f) ≡ true)
unfolding used
used_by_lem P p f e = let (i, m, u) = any_some (clash P p f) everyone e in (
  i,
  everyone_is i m,
  eqb-false i p
      (not_true (eqb i p) (and_left (not (eqb i p)) (conflict (prog P i) (opening (prog P p) f)) u)),
  and_right (not (eqb i p)) (conflict (prog P i) (opening (prog P p) f)) u,
)

pub by_used : (P : Progs) (p f i : ℕ) → Is i → i ≢ p → conflict (prog P i) (opening (prog P p) f) ≡ true → used P p f ≡ true
by_used P p f i c n t = by_test (used P p f) (λ e. e) (λ e. never t (unused P p f e i c n))

pub can-unused : (P : Progs) (p f : ℕ) → can P p f ≡ true → used P p f ≡ false
unfolding can
can-unused P p f e = not_true (used P p f) (and_left (not (used P p f)) (ordered (give P p f)) e)

pub ordered-order : (P : Progs) → ordered P ≡ true → (o : List ℕ) × IsOrder (holds P) (ins P) o
unfolding ordered
ordered-order P e = (order_in_iff (holds P) (ins P) (ins_once P)).0 (found_some (order_in (holds P) (ins P)) e)

pub order-ordered : (P : Progs) (o : List ℕ) → IsOrder (holds P) (ins P) o → ordered P ≡ true
unfolding ordered
order-ordered P o c = let r = (order_in_iff (holds P) (ins P) (ins_once P)).1 (o, c) in rw r.1

pub can-order : (P : Progs) (p f : ℕ) → can P p f ≡ true → (o : List ℕ) × IsOrder (holds (give P p f)) (ins (give P p f)) o
unfolding can
can-order P p f e = ordered-order (give P p f) (and_right (not (used P p f)) (ordered (give P p f)) e)

pub can_of : (P : Progs) (p f : ℕ) → used P p f ≡ false → (o : List ℕ) → IsOrder (holds (give P p f)) (ins (give P p f)) o
    → can P p f ≡ true
unfolding can
can_of P p f e o c = rw (e, order-ordered (give P p f) o c)

pub base_give : (P : Progs) (p f : ℕ) → Is p → claims (prog P p) f ≡ true → is_in P p ≡ true → can P p f ≡ true → Base P → Base (give P p f)
unfolding give
base_give P p f c m a e b = record {
  size = sized_put P p _ b.size;
  own = own_put P p _ b.size c b.own (opening_own (prog P p) f m a (b.own p c));
  apart = apart_put P p _ b.size c b.apart (λ j k n. no_true (conflict (opening (prog P p) f) (prog P j))
      (λ t. never (conflict_sym (opening (prog P p) f) (prog P j) t) (unused P p f (can-unused P p f e) j k n)))
      (λ j k n. unused P p f (can-unused P p f e) j k n);
  order = can-order P p f e;
}

-- ── Giving makes nothing givable ──

pub opening_mono : (x y : Program) (f : ℕ) → Within x y → SameClaims x y → Within (opening x f) (opening y f)
unfolding opening
opening_mono x y f d e = subst (λ k. Within (opened (mode_of x f) x f) (opened k y f)) (mode_same x y f e) (record {
  in_claim = λ m. subst (λ s. claim_of m (opened k x f) ⊑ s) (sym (opened_claim k m y f))
      (subst (λ s. s ⊑ claim_of m y) (sym (opened_claim k m x f)) (d.in_claim m));
  in_open = λ m. opened_both ◌⊑◌ k m x y f (adding_mono (open_of m x) (open_of m y) f (d.in_open m)) (d.in_open m);
})
  where
    k : Mode
    k = mode_of x f

less_give : (P P' : Progs) (y g : ℕ) → Sized P → Sized P' → Is y → Less P P' → SameClaims (prog P y) (prog P' y)
    → Less (give P y g) (give P' y g)
unfolding give
less_give P P' y g z z' c l e i k = put_case (λ w. Within w (prog (give P' y g) i)) P y _ z c i k
    (λ d. put_case (λ w. Within (opening (prog P y) g) w) P' y _ z' c i k (λ _. opening_mono _ _ g (l y c) e) (λ n. absurd (n d)))
    (λ n. put_case (λ w. Within (prog P i) w) P' y _ z' c i k (λ d. absurd (n d)) (λ _. l i k))

used_mono : (P P' : Progs) (y g : ℕ) → Is y → Less P P' → SameClaims (prog P y) (prog P' y) → used P y g ≡ true → used P' y g ≡ true
used_mono P P' y g c l e u = let (i, k, n, t) = used_by_lem P y g u in by_used P' y g i k n (conflict_mono _ _ _ _ (l i k)
    (opening_mono _ _ g (l y c) e) t)

-- More open files, more claims of others or more programs make nothing givable.
pub can_mono : (P P' : Progs) (y g : ℕ) → Sized P → Sized P' → Is y → Less P P' → SameClaims (prog P y) (prog P' y)
    → ((h : ℕ → ℕ → Bool) (o : List ℕ) → IsOrder h (ins P') o → (o' : List ℕ) × IsOrder h (ins P) o')
    → can P' y g ≡ true → can P y g ≡ true
can_mono P P' y g z z' c l e f u =
    let s = can-order P' y g u in
    let t = f (holds (give P' y g)) s.0 (subst (λ m. IsOrder (holds (give P' y g)) m s.0)
    (ins-give P' y g z' c) s.1) in
    can_of P y g (no_true _ (λ w. never (used_mono P P' y g c l e w) (can-unused P' y g u))) t.0
    (subst (λ m. IsOrder (holds (give P y g)) m t.0) (sym (ins-give P y g z c))
    (order_below (holds (give P' y g)) (holds (give P y g)) (ins P) t.0 (λ i j m k n. holds_back_mono _ _ _ _
    (less_give P P' y g z z' c l e i (ins-mem P i m).0) (less_give P P' y g z z' c l e j (ins-mem P j k).0)) t.1))

-- ── The first of an order can be given what it claims ──

-- What stands in the way of giving a claimed file is a conflict already there, or a program that holds back.
claimed_use : (x y : Program) (f : ℕ) → claims x f ≡ true → conflict (opening x f) y ≡ true → (conflict x y ≡ true) ⊎ (holds_back y x ≡ true)
unfolding opening
claimed_use x y f m e = by-touching (λ n. open_of n (opened k x f)) (λ n. open_of n y) e
    (λ a b c u. opened_case (λ s t. meets t (open_of b y) ≡ true → (conflict x y ≡ true) ⊎ (holds_back y x ≡ true)) k a x f
    (λ d v. adding-meets (open_of a x) (open_of b y) f v (λ w. inl (touching-by _ _ a b c w))
    (λ w. inr (touching-by _ _ b a (clashing_turn b a ∙ c) (meets_at _ _ f w
    (subst (λ n. member (claim_of n x) f ≡ true) (sym d) (mode_claims x f m))))))
    (λ v. inl (touching-by _ _ a b c v)) u)
  where
    k : Mode
    k = mode_of x f

pub holds_back-claims : (x y : Program) (f : ℕ) → holds_back x (opening y f) ≡ holds_back x y
holds_back-claims x y f = same_test _ _
    (touching_mono _ _ _ _ (λ m g e. e) (λ m. subst (λ s. s ⊑ claim_of m y) (opening-claims y f m) (λ g e. e)))
    (touching_mono _ _ _ _ (λ m g e. e) (λ m. subst (λ s. claim_of m y ⊑ s) (opening-claims y f m) (λ g e. e)))

-- The first of an order stays the first when it is given a file: nobody but it holds back more than before.
pub first_stays : (P : Progs) (p f : ℕ) (o : List ℕ) → Sized P → Is p → IsOrder (holds P) (ins P) (p ∷ o)
    → IsOrder (holds (give P p f)) (ins (give P p f)) (p ∷ o)
unfolding give
first_stays P p f o z c r =
    subst (λ l. IsOrder (holds (give P p f)) l (p ∷ o)) (sym (ins-give P p f z c))
    (order_first (holds P) (holds (give P p f)) (ins P) o p (λ i j k l n _ u. less i j (ins-mem P i k).0 (ins-mem P j l).0 n u) r)
  where
    given : Program
    given = opening (prog P p) f

    less : (i j : ℕ) → Is i → Is j → i ≢ p → holds (give P p f) i j ≡ true → holds P i j ≡ true
    less i j k l n u =
        put_case (λ w. holds_back (prog P i) w ≡ true → holds P i j ≡ true) P p given z c j l
        (λ d v. ap (holds P i) d ∙ sym (holds_back-claims (prog P i) (prog P p) f) ∙ v)
        (λ _ v. v)
        (ap (λ w. holds_back w (prog (give P p f) j)) (sym (put_other P p i given c k n)) ∙ u)

pub first_can : (P : Progs) (p f : ℕ) (o : List ℕ) → Base P → Is p → IsOrder (holds P) (ins P) (p ∷ o)
    → claims (prog P p) f ≡ true → can P p f ≡ true
unfolding Pairs
first_can P p f o b c r m = can_of P p f (no_true _ (λ t. let (i, k, n, u) = used_by_lem P p f t in bad i k n u)) (p ∷ o)
    (first_stays P p f o b.size c r)
  where
    bad : (i : ℕ) → Is i → i ≢ p → conflict (prog P i) (opening (prog P p) f) ≡ true → ⊥
    bad i k n u = ⊎_elim (λ z. never z (b.apart p i c k (λ d. n (sym d))))
        (λ z. by_test (is_in P i) (λ a. by_mem (r.all i (mem-ins P i k a)) n (λ q. never z (r.clear.0 i q)))
        (λ a. never z (idle_holds (prog P i) (prog P p) ((b.own i k).idle a))))
        (claimed_use (prog P p) (prog P i) f m (conflict_sym (prog P i) (opening (prog P p) f) u))

-- ── An open waits exactly if the file is in conflicting use, or no list of the admitted programs is an order with the file given ──

-- Every list that names each admitted program exactly once has one that a later one holds back.
abbrev pub NoOrder : Progs → Type 0
NoOrder P = (o : List ℕ) → Names (ins P) o → HeldLater (holds P) o

pub unordered_none : (P : Progs) → ordered P ≡ false → NoOrder P
unfolding ordered
unordered_none P e o n = by_option (order_in (holds P) (ins P)) (λ u. order_in_none (holds P) (ins P) o (ins_once P) u n)
    (λ q u. never {t = true} refl (rw u at e))

pub none_unordered : (P : Progs) → NoOrder P → ordered P ≡ false
none_unordered P n = no_true (ordered P) (λ e. let (o, c) = ordered-order P e in held_not_clear (holds P) o c.clear
    (n o (record { all = c.all; only = c.only; once = c.once })))
