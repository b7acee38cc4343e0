-- From the arrays to boards: conflicting use, and what can be given. Assumes nothing.
use mathlib.Core.Path.{◌≡◌, sym, ap, ap₂, subst, ◌∙◌}
use mathlib.Core.Bool.{Bool, true, false, not, ◌&&◌}
use mathlib.Core.List.{List}
use Prim.Native.Nat.{ℕ, ◌≤◌}
use lib.Dec.{eqb}
use Rattle.files.specs.declared.FileSet.{FileSet}
use Rattle.files.specs.Sets.{member}
use Rattle.files.specs.Words.{set_of}
use Rattle.files.proofs.Bits.{is_number_lem}
use Rattle.rules.specs.declared.Mode.{Mode}
use Rattle.rules.specs.Modes.{clashing, open_of}
use Rattle.rules.specs.Boards.{is_program, everyone, at}
use Rattle.rules.specs.Orders.{can_give}
use Rattle.laws.specs.Tests.{never, no_true}
use Rattle.laws.specs.Laws.{any_same}
use Rattle.theory.specs.Modes.{same_mode, some_mode_lem}
use Rattle.theory.specs.Programs.{everyone_is}
use Rattle.theory.specs.Used.{open_by_other, used_is}
use Rattle.store.specs.Sets.{Sets}
use Rattle.tables.specs.Shared.{open_in, open_row}
use Rattle.store.proofs.Laws.{open_is, mode-at}
use Rattle.tables.proofs.Sharing.{open_in_lem, some-member}
use Rattle.tables.proofs.NoRow.{open_words}
use Rattle.search.specs.declared.Uses.{Uses}
use Rattle.search.specs.Gives.{used_in, give_in, UsedFor, GivenFor}
use Rattle.search.proofs.Backers.{safe_for}

-- on boards: a file in conflicting use, by what is open
pub used_for : (sets : Sets) (u : Uses) (p f : ℕ) → 1 ≤ p → p ≤ 32 → UsedFor sets u p f (used_in sets u p f)
used_for sets u p f h k b s e n o =
    same_mode _ _ (λ m. ap₂ (λ (x : Mode) (y : Bool). clashing x m && y) (mode-at b sets s p f h k) (open_by m)) ∙ sym (used_is b p f c n)
  where
    c : is_program p ≡ true
    c = is_number_lem 32 p h k

    shut : (m : Mode) → member (set_of (open_row sets m p)) f ≡ false
    shut m = ap (λ (z : FileSet). member z f) (open_is b sets s p h k m)
        ∙ no_true (member (open_of m (at b p)) f) (λ t. never (some_mode_lem (λ m. member (open_of m (at b p)) f) m t) o)

    open_by : (m : Mode) → member (set_of (open_in m u.files)) f ≡ open_by_other b p f m
    open_by m = ap (λ (z : Uses). member (set_of (open_in m z.files)) f) e
        ∙ ap (λ (z : List ℕ). member (set_of z) f) (open_in_lem sets m)
        ∙ some-member (open_row sets m) p c (λ q l n. open_words sets s.0 q l n m) f (shut m)
        ∙ any_same _ _ everyone (λ i l. let r = everyone_is i l in
        ap (λ (z : FileSet). not (eqb i p) && member z f) (open_is b sets s i r.least r.most m))

-- on boards: whether an open would give the file
pub give_for : (sets : Sets) (u : Uses) (p f : ℕ) → 1 ≤ p → p ≤ 32 → GivenFor sets u p f (give_in sets u p f)
unfolding can_give
give_for sets u p f h k b s e n o a z =
    ap₂ (λ (x y : Bool). not x && y) (used_for sets u p f h k b s e n z)
    (safe_for sets u.admitted p f h k b s (ap (λ (y : Uses). y.admitted) e) a o)

-- the same of a result that the contracts equate with these
pub used_by_lem : (sets : Sets) (u : Uses) (p f : ℕ) (r : Bool) → 1 ≤ p → p ≤ 32 → r ≡ used_in sets u p f → UsedFor sets u p f r
used_by_lem sets u p f r h k e = subst (UsedFor sets u p f) (sym e) (used_for sets u p f h k)

pub give_by : (sets : Sets) (u : Uses) (p f : ℕ) (r : Bool) → 1 ≤ p → p ≤ 32 → r ≡ give_in sets u p f → GivenFor sets u p f r
give_by sets u p f r h k e = subst (GivenFor sets u p f) (sym e) (give_for sets u p f h k)
