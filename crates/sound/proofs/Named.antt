-- Laws of the places of a line that are not 0. Assumes nothing.
use mathlib.Core.Path.{◌≡◌, refl, sym, ap, ◌∙◌}
use mathlib.Core.Logic.{◌≢◌}
use mathlib.Core.Bool.{Bool, ◌&&◌}
use mathlib.Core.List.{List, [], ◌∷◌, ◌++◌}
use Prim.Native.Nat.{ℕ, suc, ◌-◌, ◌<◌, ◌^◌}
use Rattle.rules.specs.Boards.{everyone}
use Rattle.rules.specs.Soundness.{line_sound}
use Rattle.tables.specs.declared.ProgramSet.{ProgramSet}
use Rattle.tables.specs.ProgramSets.{has_program}
use Rattle.sound.proofs.Taken.{takes_is, takes_count}
use native.Mathlib.Omega.{arith}
use lib.Dec.{eqb}
use Rattle.std.specs.Prelude.{count_by, filter}
use Rattle.std.proofs.lemmas.List.Sums.{length-filter}
use lib.ListN.{length, replicate}
use borrow.Author.Tests.{eq-eqb, ne_eqb, eqb-true, eqb-false}
use Rattle.laws.specs.Tests.{by_test}
use Rattle.laws.specs.Lists.{keep, names, same, padded}
use Rattle.sound.specs.Parts.{is_name, takes}

filtered : (l : List ℕ) → filter is_name l ≡ keep is_name l
unfolding keep
filtered [] = refl
filtered (x ∷ l) = by_test (eqb x 0) (λ t. rw t (filtered l)) (λ t. rw t (ap (λ (y : List ℕ). x ∷ y) (filtered l)))

-- the places that are not 0, counted
pub named_count : (l : List ℕ) → count_by is_name l ≡ length (keep is_name l)
named_count l = sym (length-filter is_name l) ∙ ap length (filtered l)

eqb_suc : (i j : ℕ) → eqb (suc i) (suc j) ≡ eqb i j
eqb_suc i j = by_test (eqb i j) (λ t. let z : i ≡ j = eqb-true i j t in eq-eqb (suc i) (suc j) (ap suc z) ∙ sym t)
    (λ t. let z : i ≢ j = eqb-false i j t in ne_eqb (suc i) (suc j) (λ d. z (omega arith)) ∙ sym t)

-- no place is named if all are 0
none_named : (l : List ℕ) → eqb (length (keep is_name l)) 0 ≡ same l (replicate (length l) 0)
unfolding keep same
none_named [] = refl
none_named (x ∷ l) = by_test (eqb x 0) (λ t. rw t (none_named l))
    (λ t. rw t (ne_eqb (suc (length (keep is_name l))) 0 (λ d. omega arith)))

-- the line is 0 after its names if no other places are named
after-names : (l : List ℕ) → eqb (length (keep is_name l)) (length (names l)) ≡ same l (names l ++ replicate (length l - length (names l)) 0)
unfolding keep names same
after-names [] = refl
after-names (x ∷ l) = by_test (eqb x 0)
    (λ t. let z : suc (length l) - 0 ≡ suc (length l) = omega arith in
    rw (t, z) (none_named l ∙ ap (λ (y : Bool). y && same l (replicate (length l) 0)) (sym t)))
    (λ t. let z : suc (length l) - suc (length (names l)) ≡ length l - length (names l) = omega arith in
    rw (t, z, eq-eqb x x refl) (eqb_suc (length (keep is_name l)) (length (names l)) ∙ after-names l))

pub named_is : (l : List ℕ) → length l ≡ 32 → eqb (length (keep is_name l)) (length (names l)) ≡ same l (padded 0 (names l))
unfolding padded
named_is l n = after-names l ∙ ap (λ (x : ℕ). same l (names l ++ replicate (x - length (names l)) 0)) n

-- the line is sound if its names are the programs of the set, each once, and as many places are not 0
pub named_line : (l : List ℕ) (s : ProgramSet) → s.bits < 2 ^ 32 → length l ≡ 32
    → (takes (names l) s && eqb (length (keep is_name l)) (length (keep (has_program s) everyone))) ≡ line_sound l (has_program s)
unfolding line_sound
named_line l s h n =
    let alike : (takes (names l) s && eqb (length (keep is_name l)) (length (keep (has_program s) everyone)))
    ≡ (takes (names l) s && same l (padded 0 (names l))) = by_test (takes (names l) s)
    (λ t. rw t (ap (eqb (length (keep is_name l))) (sym (takes_count (names l) s t)) ∙ named_is l n)) (λ t. rw t refl) in
    alike ∙ ap (λ (x : Bool). x && same l (padded 0 (names l))) (takes_is (names l) s h)
