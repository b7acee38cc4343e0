-- A file given, decided from the sets alone: those that hold the program back are found one after another. Assumes nothing.
use mathlib.Core.Path.{◌≡◌, sym, ap, ap₂, subst, ◌∙◌}
use mathlib.Core.Logic.{◌≢◌}
use mathlib.Core.Bool.{Bool, true, false, not, ◌&&◌, ◌||◌}
use Prim.Native.Nat.{ℕ, ◌≤◌}
use native.Mathlib.Omega.{arith}
use lib.Dec.{eqb}
use borrow.Author.Tests.{eqb-true, eqb-false}
use Rattle.laws.specs.Tests.{by_test, never, and_left, and_right, and_both, and_false, or_cases, or_left, or_right, not_true, true_not}
use Rattle.files.specs.Sets.{member}
use Rattle.files.proofs.Bits.{is_number_lem, has-number, least, most, without-number-same, without-number-other}
use Rattle.rules.specs.declared.Board.{Board}
use Rattle.laws.specs.Lists.{found}
use Rattle.rules.specs.declared.Mode.{Mode}
use Rattle.rules.specs.Modes.{clashing, some_mode, claim_of, mode_of}
use Rattle.rules.specs.Boards.{at, is_program}
use Rattle.rules.specs.Orders.{holds_back, carried, safe}
use Rattle.theory.specs.Reach.{is_other, ReachesOn, no_back, reaches-direct, reaches-through, given_holds, unsafe-by_reach}
use Rattle.theory.proofs.Reach.{safe-by-closed}
use Rattle.tables.specs.declared.ProgramSet.{ProgramSet}
use Rattle.tables.specs.ProgramSets.{has_program, without_program, union_of, less_of}
use Rattle.store.specs.Sets.{Sets, SetsOf, mode_at, holds_one, claims_at}
use Rattle.tables.specs.Tables.{packed, holders_of}
use Rattle.tables.proofs.Laws.{packed-has, union_has, less_has}
use Rattle.tables.proofs.Walk.{rest_more}
use Rattle.store.proofs.Laws.{holds-is, claims-is, mode-at}
use Rattle.tables.specs.Boards.{admits, admitted_set}
use Rattle.search.proofs.Laws.{low, high}

-- x, among the others, holds p back, or one that does so in turn
pub data Back (sets : Sets) (among : ProgramSet) (p : ℕ) : ℕ → Type 0 where
  nearest : {x : ℕ} → has_program among x ≡ true → holds_one sets p x ≡ true → Back sets among p x
  further : {x y : ℕ} → has_program among x ≡ true → holds_one sets y x ≡ true → Back sets among p y → Back sets among p x

-- Those not in the rest are found. Who holds back p, or one of them that is no longer in `found`, is found too; those no longer in `found`
-- do not claim f.
pub record Closing (sets : Sets) (among : ProgramSet) (p f : ℕ) (mode : Mode) (found rest : ProgramSet) : Type 0 where
  pub backs : (x : ℕ) → has_program among x ≡ true → has_program rest x ≡ false → Back sets among p x
  pub base : (x : ℕ) → has_program among x ≡ true → holds_one sets p x ≡ true → has_program rest x ≡ false
  pub step : (x y : ℕ) → has_program among x ≡ true → has_program among y ≡ true → has_program rest y ≡ false → has_program found y ≡ false
      → holds_one sets y x ≡ true → has_program rest x ≡ false
  pub clear : (y : ℕ) → has_program among y ≡ true → has_program rest y ≡ false → has_program found y ≡ false → claims_at sets f mode y ≡ false
  pub inside : (x : ℕ) → has_program found x ≡ true → (has_program among x ≡ true) × (has_program rest x ≡ false)
  pub within : (x : ℕ) → has_program rest x ≡ true → has_program among x ≡ true

module _ (sets : Sets) (p : ℕ) (s : ProgramSet) where
  -- those of s that hold p back
  abbrev pub more : ProgramSet
  more = packed (holders_of sets p s) 32

  in_more : (x : ℕ) → has_program s x ≡ true → holds_one sets p x ≡ true → has_program more x ≡ true
  in_more x m e = packed-has (holders_of sets p s) 32 x (omega arith) (low s x m) (high s x m) ∙ and_both (has_program s x) (holds_one sets p x) m e

  pub of-more : (x : ℕ) → has_program more x ≡ true → (has_program s x ≡ true) × (holds_one sets p x ≡ true)
  of-more x e = let u = sym (packed-has (holders_of sets p s) 32 x (omega arith) (low more x e) (high more x e)) ∙ e in
      (and_left (has_program s x) (holds_one sets p x) u, and_right (has_program s x) (holds_one sets p x) u)

  -- who holds p back is not in s without them
  gone : (x : ℕ) → holds_one sets p x ≡ true → has_program (less_of s more) x ≡ false
  gone x e = less_has s more x ∙ by_test (has_program s x) (λ t. rw (t, in_more x t e)) (λ t. rw t)

  pub still-gone : (x : ℕ) → has_program s x ≡ false → has_program (less_of s more) x ≡ false
  still-gone x e = less_has s more x ∙ rw e

  pub more-gone : (x : ℕ) → has_program more x ≡ true → has_program (less_of s more) x ≡ false
  more-gone x e = less_has s more x ∙ rw e (and_false (has_program s x))

  -- whoever is of s, but not without them, is one of them
  was-more : (x : ℕ) → has_program s x ≡ true → has_program (less_of s more) x ≡ false → has_program more x ≡ true
  was-more x m e = by_test (has_program more x) (λ t. t) (λ t. never (less_has s more x ∙ rw (m, t)) e)

  pub of-less : (x : ℕ) → has_program (less_of s more) x ≡ true → has_program s x ≡ true
  of-less x e = and_left (has_program s x) (not (has_program more x)) (sym (less_has s more x) ∙ e)

module _ (sets : Sets) (among : ProgramSet) (p f : ℕ) (mode : Mode) where
  pub closing-start : Closing sets among p f mode (more sets p among) (less_of among (more sets p among))
  closing-start = record {
    backs = λ x m n. let (_, e) = of-more sets p among x (was-more sets p among x m n) in Back.nearest m e;
    base = λ x m e. gone sets p among x e;
    step = λ x y m l n t e. never (was-more sets p among y l n) t;
    clear = λ y l n t. never (was-more sets p among y l n) t;
    inside = λ x e. ((of-more sets p among x e).0, more-gone sets p among x e);
    within = λ x e. of-less sets p among x e;
  }

  module _ (found rest : ProgramSet) (k : Closing sets among p f mode found rest) where
    -- all were asked: who holds p back was found, and does not claim f
    pub closing-done : ((x : ℕ) → has_program found x ≡ false) → (x : ℕ) → Back sets among p x → claims_at sets f mode x ≡ false
    closing-done n x b = k.clear x (back-among b) (is_found x b) (n x)
      where
        back-among : {x : ℕ} → Back sets among p x → has_program among x ≡ true
        back-among (Back.nearest m e) = m
        back-among (Back.further m e c) = m

        is_found : (x : ℕ) → Back sets among p x → has_program rest x ≡ false
        is_found x (Back.nearest m e) = k.base x m e
        is_found x (Back.further {y = y} m e c) = k.step x y m (back-among c) (is_found y c) (n y) e

    -- q is asked about
    module _ (q : ℕ) (e : has_program found q ≡ true) (c : claims_at sets f mode q ≡ false) where
      abbrev next : ProgramSet
      next = union_of (without_program found q) (more sets q rest)

      -- whoever is not in the next and not q was not in the last
      was_not : (y : ℕ) → y ≢ q → has_program next y ≡ false → has_program found y ≡ false
      was_not y d n = by_test (has_program found y)
          (λ t. never (union_has (without_program found q) (more sets q rest) y
          ∙ or_left (has_program (without_program found q) y) _ (without-number-other 32 found.bits q y d ∙ t)) n) (λ t. t)

      -- and was not in the rest
      rest_not : (y : ℕ) → has_program (less_of rest (more sets q rest)) y ≡ false → has_program next y ≡ false → has_program rest y ≡ false
      rest_not y l n = by_test (has_program rest y)
          (λ t. never (union_has (without_program found q) (more sets q rest) y
          ∙ or_right (has_program (without_program found q) y) (has_program (more sets q rest) y) (was-more sets q rest y t l)) n) (λ t. t)

      closing-more : Closing sets among p f mode next (less_of rest (more sets q rest))
      closing-more = record {
        backs = λ x m n. by_test (has_program rest x)
            (λ t. let (i, r) = k.inside q e in
            Back.further m (of-more sets q rest x (was-more sets q rest x t n)).1 (k.backs q i r)) (λ t. k.backs x m t);
        base = λ x m d. still-gone sets q rest x (k.base x m d);
        step = λ x y m l r n d. by_test (eqb y q)
            (λ t. gone sets q rest x (ap (λ (z : ℕ). holds_one sets z x) (sym (eqb-true y q t)) ∙ d))
            (λ t. still-gone sets q rest x (k.step x y m l (rest_not y r n) (was_not y (eqb-false y q t) n) d));
        clear = λ y l r n. by_test (eqb y q) (λ t. ap (claims_at sets f mode) (eqb-true y q t) ∙ c)
            (λ t. k.clear y l (rest_not y r n) (was_not y (eqb-false y q t) n));
        inside = λ x d. or_cases (has_program (without_program found q) x) (has_program (more sets q rest) x)
            (sym (union_has (without_program found q) (more sets q rest) x) ∙ d)
            (λ t. let (i, r) = k.inside x (rest_more found found q (λ z w. w) x t) in (i, still-gone sets q rest x r))
            (λ t. (k.within x (of-more sets q rest x t).0, more-gone sets q rest x t));
        within = λ x d. k.within x (of-less sets q rest x d);
      }

      -- by what was found then, and the rest then
      pub closing-next : (l r : ProgramSet) → l ≡ next → r ≡ less_of rest (more sets q rest) → Closing sets among p f mode l r
      closing-next l r i j = rw (i, j) closing-more

module _ (b : Board) (sets : Sets) (p f : ℕ) (s : SetsOf b sets) (h : 1 ≤ p) (k : p ≤ 32) (a : admits b p ≡ true) (o : found (carried b) ≡ true) where
  abbrev among : ProgramSet
  among = without_program (admitted_set b) p

  abbrev mode : Mode
  mode = mode_at sets p f

  is-program : is_program p ≡ true
  is-program = is_number_lem 32 p h k

  in_among : (x : ℕ) → is_other b p x ≡ true → has_program among x ≡ true
  unfolding admitted_set
  in_among x e =
      let u = and_left (is_program x && admits b x) (not (eqb x p)) e in
      let i = and_left (is_program x) (admits b x) u in
      without-number-other 32 (admitted_set b).bits p x (eqb-false x p (not_true (eqb x p) (and_right (is_program x && admits b x) _ e)))
      ∙ packed-has (admits b) 32 x (omega arith) (least 32 x i) (most 32 x i) ∙ and_right (is_program x) (admits b x) u

  of-among : (x : ℕ) → has_program among x ≡ true → is_other b p x ≡ true
  unfolding admitted_set
  of-among x e =
      let i = has-number 32 among.bits x e in
      by_test (eqb x p)
      (λ t. let z : x ≡ p = eqb-true x p t in never (rw z at e) (without-number-same 32 (admitted_set b).bits p))
      (λ t. and_both (is_program x && admits b x) (not (eqb x p)) (and_both (is_program x) (admits b x) i
      (sym (packed-has (admits b) 32 x (omega arith) (least 32 x i) (most 32 x i))
      ∙ sym (without-number-other 32 (admitted_set b).bits p x (eqb-false x p t)) ∙ e)) (true_not (eqb x p) t))

  back-among : (x : ℕ) → Back sets among p x → has_program among x ≡ true
  back-among x (Back.nearest m e) = m
  back-among x (Back.further m e c) = m

  back-reaches : (x : ℕ) → Back sets among p x → ReachesOn b p x
  back-reaches x (Back.nearest m e) = reaches-direct b p x (of-among x m) (sym (holds-is b sets s x p (low among x m) (high among x m) h k) ∙ e)
  back-reaches x (Back.further {y = y} m e c) =
      let n = back-among y c in let r = back-reaches y c in
      by_test (eqb x y) (λ t. subst (ReachesOn b p) (sym (eqb-true x y t)) r)
      (λ t. reaches-through b p x y (of-among x m) t
      (sym (holds-is b sets s x y (low among x m) (high among x m) (low among y n) (high among y n)) ∙ e) r)

  -- who claims f is whom p would hold back by it
  claimed-is : (x : ℕ) → 1 ≤ x → x ≤ 32
      → claims_at sets f mode x ≡ some_mode (λ n. clashing (mode_of (at b p) f) n && member (claim_of n (at b x)) f)
  claimed-is x l m = ap (λ (z : Mode). claims_at sets f z x) (mode-at b sets s p f h k) ∙ claims-is b sets s f x (mode_of (at b p) f) l m

  -- one that holds p back claims f
  pub back-unsafe : (x : ℕ) → Back sets among p x → claims_at sets f mode x ≡ true → safe b p f ≡ false
  back-unsafe x c d = let m = back-among x c in
      unsafe-by_reach b p f is-program a x (back-reaches x c)
      (given_holds (at b p) (at b x) f ∙ or_right (holds_back (at b p) (at b x)) _ (sym (claimed-is x (low among x m) (high among x m)) ∙ d))

  -- those of `all` are all that hold p back, and none claims f
  pub back-safe : (all : ProgramSet) → ((x : ℕ) → has_program all x ≡ true → Back sets among p x) → ((x : ℕ) → Back sets among p x → has_program all x ≡ true)
      → ((x : ℕ) → has_program all x ≡ true → claims_at sets f mode x ≡ false) → safe b p f ≡ true
  back-safe all g c n = safe-by-closed b p f is-program a (has_program all) o (record {
    base = λ x u w. let m = in_among x u in c x (Back.nearest m (holds-is b sets s x p (low among x m) (high among x m) h k ∙ w));
    step = λ x y u i _ t w. let m = in_among x u in let l = in_among y i in
        c x (Back.further m (holds-is b sets s x y (low among x m) (high among x m) (low among y l) (high among y l) ∙ w) (g y t));
  }) (λ x u t. let m = in_among x u in
      given_holds (at b p) (at b x) f ∙ ap₂ (λ (i j : Bool). i || j)
      (no_back b p x is-program a o (back-reaches x (g x t)))
      (sym (claimed-is x (low among x m) (high among x m)) ∙ n x t))
