-- What the table of modes gives: conflict and holding back grow with the sets, conflict goes both ways, and whoever has nothing open does
-- neither. Each law is shown once, over the table.
-- Assumes nothing.
use Rattle.std.specs.Prelude.{ℕ, ◌≡◌, refl, Bool, true, false, cond, ◌&&◌, ◌||◌}
use Rattle.std.proofs.Common.{sym, ◌∙◌, ap, ap₂, subst, subst₂}
use Rattle.laws.specs.Tests.{by_test, never, or_cases, or_left, or_right, and_left, and_right, and_both, no_true, same_test}
use Rattle.files.specs.declared.FileSet.{FileSet}
use Rattle.files.specs.Sets.{no_files, member, meets, adding, removing}
use Rattle.files.proofs.Laws.{◌⊑◌, member_file, meets_mono, meets_sym, meets_at, none-meets, meets-none, adding-same, adding_⊒, adding-meets}
use Rattle.rules.specs.declared.Standing.{Standing}
use Rattle.rules.specs.declared.Program.{Program}
use Rattle.rules.specs.declared.Mode.{Mode}
use Rattle.rules.specs.declared.Mode.TheVariants.{Write, Read, Inquiry}
use Rattle.rules.specs.Modes.{clashing, some_mode, each_mode, claim_of, open_of, touching, touching_is, claims_meet}
use Rattle.rules.specs.Modes.{mode_of, is_mode}
use Rattle.rules.specs.Boards.{no_program, claims, set_standing, set_item, set_claims, set_open, opened, closing, dropping}
use Rattle.rules.specs.Calls.{newcomer}

-- ── Tests over the modes ──

pub some_mode_lem : (t : Mode → Bool) (m : Mode) → t m ≡ true → some_mode t ≡ true
some_mode_lem t Write e = or_left (t Write || t Read) (t Inquiry) (or_left (t Write) (t Read) e)
some_mode_lem t Read e = or_left (t Write || t Read) (t Inquiry) (or_right (t Write) (t Read) e)
some_mode_lem t Inquiry e = or_right (t Write || t Read) (t Inquiry) e

pub by_mode_lem : {C : Type 0} (t : Mode → Bool) → some_mode t ≡ true → ((m : Mode) → t m ≡ true → C) → C
by_mode_lem t e k = or_cases (t Write || t Read) (t Inquiry) e (λ u. or_cases (t Write) (t Read) u (k Write) (k Read)) (k Inquiry)

pub no_mode : (t : Mode → Bool) → some_mode t ≡ false → (m : Mode) → t m ≡ false
no_mode t e m = no_true (t m) (λ u. never (some_mode_lem t m u) e)

pub same_mode : (t u : Mode → Bool) → ((m : Mode) → t m ≡ u m) → some_mode t ≡ some_mode u
same_mode t u e = ap₂ ◌||◌ (ap₂ ◌||◌ (e Write) (e Read)) (e Inquiry)

pub each_mode_lem : (t : Mode → Bool) → ((m : Mode) → t m ≡ true) → each_mode t ≡ true
each_mode_lem t f = and_both (t Write && t Read) (t Inquiry) (and_both (t Write) (t Read) (f Write) (f Read)) (f Inquiry)

pub mode_each : (t : Mode → Bool) → each_mode t ≡ true → (m : Mode) → t m ≡ true
mode_each t e Write = and_left (t Write) (t Read) (and_left (t Write && t Read) (t Inquiry) e)
mode_each t e Read = and_right (t Write) (t Read) (and_left (t Write && t Read) (t Inquiry) e)
mode_each t e Inquiry = and_right (t Write && t Read) (t Inquiry) e

-- ── The table ──

-- Modes that clash do so both ways.
pub clashing_turn : (m n : Mode) → clashing m n ≡ clashing n m
clashing_turn Write Write = refl
clashing_turn Write Read = refl
clashing_turn Read Write = refl
clashing_turn Read Read = refl
clashing_turn Write Inquiry = refl
clashing_turn Read Inquiry = refl
clashing_turn Inquiry Write = refl
clashing_turn Inquiry Read = refl
clashing_turn Inquiry Inquiry = refl

module _ (s t : Mode → FileSet) where
  pub by-touching : {C : Type 0} → touching s t ≡ true → ((m n : Mode) → clashing m n ≡ true → meets (s m) (t n) ≡ true → C) → C
  unfolding touching
  by-touching e k = by_mode_lem (λ m. some_mode (λ n. clashing m n && meets (s m) (t n))) e
      (λ m u. by_mode_lem (λ n. clashing m n && meets (s m) (t n)) u
      (λ n v. k m n (and_left (clashing m n) (meets (s m) (t n)) v) (and_right (clashing m n) (meets (s m) (t n)) v)))

  pub touching-by : (m n : Mode) → clashing m n ≡ true → meets (s m) (t n) ≡ true → touching s t ≡ true
  unfolding touching
  touching-by m n c e = some_mode_lem (λ m. some_mode (λ n. clashing m n && meets (s m) (t n))) m
      (some_mode_lem (λ n. clashing m n && meets (s m) (t n)) n (and_both (clashing m n) (meets (s m) (t n)) c e))

-- Larger sets touch no less.
pub touching_mono : (s t s' t' : Mode → FileSet) → ((m : Mode) → s m ⊑ s' m) → ((m : Mode) → t m ⊑ t' m)
    → touching s t ≡ true → touching s' t' ≡ true
touching_mono s t s' t' f g e = by-touching s t e (λ m n c u. touching-by s' t' m n c (meets_mono (s m) (t n) (s' m) (t' n) (f m) (g n) u))

pub touching_sym : (s t : Mode → FileSet) → touching s t ≡ true → touching t s ≡ true
touching_sym s t e = by-touching s t e (λ m n c u. touching-by t s n m (clashing_turn n m ∙ c) (meets_sym (s m) (t n) u))

-- Empty sets touch nothing.
pub none_touches : (s t : Mode → FileSet) → ((m : Mode) → s m ≡ no_files) → touching s t ≡ false
none_touches s t f = no_true _ (λ e. by-touching s t e (λ m n c u. never u (none-meets (s m) (t n) (f m))))

pub touches_none : (s t : Mode → FileSet) → ((m : Mode) → t m ≡ no_files) → touching s t ≡ false
touches_none s t f = no_true _ (λ e. by-touching s t e (λ m n c u. never u (meets-none (s m) (t n) (f n))))

pub touching_turn : (s t : Mode → FileSet) → touching s t ≡ touching t s
touching_turn s t = same_test _ _ (touching_sym s t) (touching_sym t s)

pub touching-same : (s t s' t' : Mode → FileSet) → ((m : Mode) → s m ≡ s' m) → ((m : Mode) → t m ≡ t' m) → touching s t ≡ touching s' t'
touching-same s t s' t' f g = touching_is s t ∙ rw (f Write, f Read, f Inquiry, g Write, g Read, g Inquiry) (sym (touching_is s' t'))

-- ── Programs with one part changed ──

pub claim_set : (m : Mode) (x : Program) (c : Mode → FileSet) → claim_of m (set_claims x c) ≡ c m
claim_set Write x c = refl
claim_set Read x c = refl
claim_set Inquiry x c = refl

pub open_set : (m : Mode) (x : Program) (o : Mode → FileSet) → open_of m (set_open x o) ≡ o m
open_set Write x o = refl
open_set Read x o = refl
open_set Inquiry x o = refl

pub open_claims : (m : Mode) (x : Program) (c : Mode → FileSet) → open_of m (set_claims x c) ≡ open_of m x
open_claims Write x c = refl
open_claims Read x c = refl
open_claims Inquiry x c = refl

pub claim_open : (m : Mode) (x : Program) (o : Mode → FileSet) → claim_of m (set_open x o) ≡ claim_of m x
claim_open Write x o = refl
claim_open Read x o = refl
claim_open Inquiry x o = refl

pub standing_claim : (m : Mode) (x : Program) (s : Standing) → claim_of m (set_standing x s) ≡ claim_of m x
standing_claim Write x s = refl
standing_claim Read x s = refl
standing_claim Inquiry x s = refl

pub standing_open : (m : Mode) (x : Program) (s : Standing) → open_of m (set_standing x s) ≡ open_of m x
standing_open Write x s = refl
standing_open Read x s = refl
standing_open Inquiry x s = refl

pub closing_claim : (m : Mode) (x : Program) (f : ℕ) → claim_of m (closing x f) ≡ claim_of m x
unfolding closing
closing_claim m x f = claim_open m x (λ n. removing (open_of n x) f)

pub closing_open : (m : Mode) (x : Program) (f : ℕ) → open_of m (closing x f) ≡ removing (open_of m x) f
unfolding closing
closing_open m x f = open_set m x (λ n. removing (open_of n x) f)

pub dropping_claim : (m : Mode) (x : Program) (f : ℕ) → claim_of m (dropping x f) ≡ removing (claim_of m x) f
unfolding dropping
dropping_claim m x f = claim_set m x (λ n. removing (claim_of n x) f)

pub dropping_open : (m : Mode) (x : Program) (f : ℕ) → open_of m (dropping x f) ≡ open_of m x
unfolding dropping
dropping_open m x f = open_claims m x (λ n. removing (claim_of n x) f)

pub none_claim : (m : Mode) → claim_of m no_program ≡ no_files
none_claim Write = refl
none_claim Read = refl
none_claim Inquiry = refl

pub none_open : (m : Mode) → open_of m no_program ≡ no_files
none_open Write = refl
none_open Read = refl
none_open Inquiry = refl

pub newcomer_open : (m : Mode) (v q j : FileSet) (s : Standing) → open_of m (newcomer v q j s) ≡ no_files
newcomer_open Write v q j s = refl
newcomer_open Read v q j s = refl
newcomer_open Inquiry v q j s = refl

pub item_claim : (m : Mode) (x : Program) (f r : ℕ) → claim_of m (set_item x f r) ≡ claim_of m x
item_claim Write x f r = refl
item_claim Read x f r = refl
item_claim Inquiry x f r = refl

pub item_open : (m : Mode) (x : Program) (f r : ℕ) → open_of m (set_item x f r) ≡ open_of m x
item_open Write x f r = refl
item_open Read x f r = refl
item_open Inquiry x f r = refl

-- Claims that share nothing share nothing when they are smaller.
pub claims_less : (v q j v' q' j' : FileSet) → v ⊑ v' → q ⊑ q' → j ⊑ j' → claims_meet v' q' j' ≡ false → claims_meet v q j ≡ false
claims_less v q j v' q' j' a b c e = no_true _ (λ u. or_cases (meets v q || meets v j) (meets q j) u
    (λ t. or_cases (meets v q) (meets v j) t
    (λ w. never (or_left (meets v' q' || meets v' j') (meets q' j') (or_left (meets v' q') (meets v' j') (meets_mono v q v' q' a b w))) e)
    (λ w. never (or_left (meets v' q' || meets v' j') (meets q' j') (or_right (meets v' q') (meets v' j') (meets_mono v j v' j' a c w))) e))
    (λ w. never (or_right (meets v' q' || meets v' j') (meets q' j') (meets_mono q j q' j' b c w)) e))

-- ── A file opened in a mode ──

pub mode_is : (m k : Mode) → is_mode m k ≡ true → m ≡ k
mode_is Write Write e = refl
mode_is Write Read e = never {t = false} e refl
mode_is Write Inquiry e = never {t = false} e refl
mode_is Read Write e = never {t = false} e refl
mode_is Read Read e = refl
mode_is Read Inquiry e = never {t = false} e refl
mode_is Inquiry Write e = never {t = false} e refl
mode_is Inquiry Read e = never {t = false} e refl
mode_is Inquiry Inquiry e = refl

pub mode_itself : (m : Mode) → is_mode m m ≡ true
mode_itself Write = refl
mode_itself Read = refl
mode_itself Inquiry = refl

pub opened_claim : (k m : Mode) (x : Program) (f : ℕ) → claim_of m (opened k x f) ≡ claim_of m x
opened_claim k m x f = claim_open m x (λ n. cond (is_mode n k) (adding (open_of n x) f) (open_of n x))

pub opened_open : (k m : Mode) (x : Program) (f : ℕ) → open_of m (opened k x f) ≡ cond (is_mode m k) (adding (open_of m x) f) (open_of m x)
opened_open k m x f = open_set m x (λ n. cond (is_mode n k) (adding (open_of n x) f) (open_of n x))

-- What is open in each mode: f is added in the mode k, and nothing changes in the others.
pub opened_case : (D : FileSet → FileSet → Type 0) (k m : Mode) (x : Program) (f : ℕ)
    → (m ≡ k → D (open_of m x) (adding (open_of m x) f)) → D (open_of m x) (open_of m x) → D (open_of m x) (open_of m (opened k x f))
opened_case D k m x f u v = subst (D (open_of m x)) (sym (opened_open k m x f)) (by_test (is_mode m k)
    (λ t. rw t (u (mode_is m k t))) (λ t. rw t v))

pub opened-same : (k : Mode) (x : Program) (f : ℕ) → open_of k (opened k x f) ≡ adding (open_of k x) f
opened-same k x f = opened_open k k x f ∙ rw (mode_itself k)

-- What touches, with f open in the mode k: what did, and what has f in a mode that clashes with k.
pub touching-opened : (k : Mode) (x : Program) (f : ℕ) (t : Mode → FileSet)
    → touching (λ m. open_of m (opened k x f)) t ≡ touching (λ m. open_of m x) t || some_mode (λ n. clashing k n && member (t n) f)
touching-opened k x f t = same_test _ (was || now)
    (λ e. by-touching (λ m. open_of m (opened k x f)) t e (λ a b c u. opened_case
    (λ s s'. meets s' (t b) ≡ true → was || now ≡ true) k a x f
    (λ d v. adding-meets (open_of a x) (t b) f v (λ w. or_left was now (touching-by _ t a b c w))
    (λ w. or_right was now (some_mode_lem (λ n. clashing k n && member (t n) f) b
    (and_both (clashing k b) (member (t b) f) (ap (λ n. clashing n b) (sym d) ∙ c) w))))
    (λ v. or_left was now (touching-by _ t a b c v)) u))
    (λ e. or_cases was now e
    (touching_mono (λ m. open_of m x) t (λ m. open_of m (opened k x f)) t (λ m. opened_case ◌⊑◌ k m x f (λ _. adding_⊒ (open_of m x) f) (λ g u. u))
    (λ m g u. u))
    (λ u. by_mode_lem (λ n. clashing k n && member (t n) f) u (λ n v. let w = and_right (clashing k n) (member (t n) f) v in
    touching-by _ t k n (and_left (clashing k n) (member (t n) f) v) (meets_at _ (t n) f
    (ap (λ s. member s f) (opened-same k x f) ∙ adding-same (open_of k x) f (member_file (t n) f w)) w))))
  where
    was : Bool
    was = touching (λ m. open_of m x) t

    now : Bool
    now = some_mode (λ n. clashing k n && member (t n) f)

-- The same for two programs.
pub opened_both : (D : FileSet → FileSet → Type 0) (k m : Mode) (x y : Program) (f : ℕ)
    → D (adding (open_of m x) f) (adding (open_of m y) f) → D (open_of m x) (open_of m y) → D (open_of m (opened k x f)) (open_of m (opened k y f))
opened_both D k m x y f u v = subst₂ D (sym (opened_open k m x f)) (sym (opened_open k m y f)) (by_test (is_mode m k)
    (λ t. rw t u) (λ t. rw t v))

-- A claimed file is in the claim of the mode in which it is opened.
pub mode_claims : (x : Program) (f : ℕ) → claims x f ≡ true → member (claim_of (mode_of x f) x) f ≡ true
mode_claims x f e = by_test (member x.writable f) (λ t. rw t t)
    (λ t. by_test (member x.readable f) (λ u. rw (t, u) u)
    (λ u. rw (t, u) (by_mode_lem (λ m. member (claim_of m x) f) e (only t u))))
  where
    only : member x.writable f ≡ false → member x.readable f ≡ false → (m : Mode) → member (claim_of m x) f ≡ true
        → member x.inquirable f ≡ true
    only t u Write v = never v t
    only t u Read v = never v u
    only t u Inquiry v = v

-- Two programs with the same claims open a file in the same mode.
abbrev pub SameClaims : Program → Program → Type 0
SameClaims x y = (m : Mode) → claim_of m x ≡ claim_of m y

pub mode_same : (x y : Program) (f : ℕ) → SameClaims x y → mode_of x f ≡ mode_of y f
mode_same x y f e = ap₂ (λ s t. cond (member s f) Write (cond (member t f) Read Inquiry)) (e Write) (e Read)

pub meet_same : (x y : Program) → SameClaims x y → claims_meet y.writable y.readable y.inquirable ≡ claims_meet x.writable
    x.readable x.inquirable
meet_same x y e = ap₂ (λ s t. claims_meet s t y.inquirable) (sym (e Write)) (sym (e Read))
    ∙ ap (λ s. claims_meet x.writable x.readable s) (sym (e Inquiry))
