-- A file in conflicting use, by the files that are open: on a board without conflict another program has f in conflicting use exactly
-- if it has f open in a mode that clashes with the one in which f would be opened.
-- Assumes nothing.
use Rattle.std.specs.Prelude.{ℕ, ◌≡◌, ◌≢◌, Bool, true, false, not, ◌&&◌, ◌||◌, eqb}
use Rattle.std.proofs.Common.{◌∙◌, ap, eqb-true}
use Rattle.std.proofs.lemmas.Bool.{eqb-false}
use Rattle.laws.specs.Tests.{by_test, or_cases, and_left, and_right, and_both, not_true, same_test}
use Rattle.files.specs.Sets.{member}
use Rattle.rules.specs.declared.Program.{Program}
use Rattle.rules.specs.declared.Board.{Board}
use Rattle.laws.specs.Lists.{any, all}
use Rattle.rules.specs.declared.Mode.{Mode}
use Rattle.rules.specs.Modes.{clashing, some_mode, open_of, mode_of}
use Rattle.rules.specs.Boards.{is_program, everyone, at, opening}
use Rattle.rules.specs.Orders.{conflict, in_use}
use Rattle.rules.specs.Soundness.{no_conflict}
use Rattle.laws.specs.Laws.{◌∈◌, any_some, some-any, any_same, all-each}
use Rattle.theory.specs.Modes.{some_mode_lem, by_mode_lem, touching_turn, touching-opened}
use Rattle.theory.specs.Programs.{is_of, mem-everyone}

-- another program than p has f open in the mode
abbrev pub open_by_other : Board → ℕ → ℕ → Mode → Bool
open_by_other b p f m = any (λ i. not (eqb i p) && member (open_of m (at b i)) f) everyone

-- What conflicts with q once it has f: what conflicts with q, and what has f open in a mode that clashes.
pub given-conflict : (i q : Program) (f : ℕ) → conflict i q ≡ false
    → conflict i (opening q f) ≡ some_mode (λ m. clashing (mode_of q f) m && member (open_of m i) f)
unfolding opening
given-conflict i q f e = touching_turn _ _ ∙ touching-opened (mode_of q f) q f (λ m. open_of m i)
    ∙ ap (λ t. t || some_mode (λ m. clashing (mode_of q f) m && member (open_of m i) f)) (touching_turn _ _ ∙ e)

-- programs that are different do not conflict
pub apart_of : (b : Board) (i p : ℕ) → no_conflict b ≡ true → i ∈ everyone → p ∈ everyone → i ≢ p → conflict (at b i) (at b p) ≡ false
unfolding no_conflict
apart_of b i p e m k n =
    let row = all-each (λ i. all (λ j. eqb i j || not (conflict (at b i) (at b j))) everyone) everyone e i m in
    let one = all-each (λ j. eqb i j || not (conflict (at b i) (at b j))) everyone row p k in
    or_cases (eqb i p) (not (conflict (at b i) (at b p))) one (λ t. absurd (n (eqb-true i p t))) (not_true (conflict (at b i) (at b p)))

-- What p itself has open does not count.
pub used_is : (b : Board) (p f : ℕ) → is_program p ≡ true → no_conflict b ≡ true
    → in_use b p f ≡ some_mode (λ m. clashing (mode_of (at b p) f) m && open_by_other b p f m)
unfolding in_use
used_is b p f c e = any_same _ uses everyone each ∙ same_test (any uses everyone) (some_mode (λ m. clashing k m && open_by_other b p f m))
    (λ t. let (i, q, u) = any_some uses everyone t in let n = and_left (not (eqb i p)) (clashes i) u in
    by_mode_lem (λ m. clashing k m && member (open_of m (at b i)) f) (and_right (not (eqb i p)) (clashes i) u)
    (λ m v. some_mode_lem (λ m. clashing k m && open_by_other b p f m) m (and_both (clashing k m) (open_by_other b p f m)
    (and_left (clashing k m) (member (open_of m (at b i)) f) v)
    (some-any (λ i. not (eqb i p) && member (open_of m (at b i)) f) everyone i q
    (and_both (not (eqb i p)) (member (open_of m (at b i)) f) n (and_right (clashing k m) (member (open_of m (at b i)) f) v))))))
    (λ t. by_mode_lem (λ m. clashing k m && open_by_other b p f m) t (λ m v.
    let (i, q, u) = any_some (λ i. not (eqb i p) && member (open_of m (at b i)) f) everyone (and_right (clashing k m) (open_by_other b p f m) v) in
    some-any uses everyone i q (and_both (not (eqb i p)) (clashes i) (and_left (not (eqb i p)) (member (open_of m (at b i)) f) u)
    (some_mode_lem (λ m. clashing k m && member (open_of m (at b i)) f) m (and_both (clashing k m) (member (open_of m (at b i)) f)
    (and_left (clashing k m) (open_by_other b p f m) v) (and_right (not (eqb i p)) (member (open_of m (at b i)) f) u))))))
  where
    k : Mode
    k = mode_of (at b p) f

    -- i has f open in a mode that clashes
    clashes : ℕ → Bool
    clashes i = some_mode (λ m. clashing k m && member (open_of m (at b i)) f)

    uses : ℕ → Bool
    uses i = not (eqb i p) && clashes i

    each : (i : ℕ) → i ∈ everyone → (not (eqb i p) && conflict (at b i) (opening (at b p) f)) ≡ uses i
    each i m = by_test (eqb i p) (λ t. rw t) (λ t. rw t
        (given-conflict (at b i) (at b p) f (apart_of b i p e m (mem-everyone p (is_of p c)) (eqb-false i p t))))
