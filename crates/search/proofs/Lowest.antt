-- Laws of the lowest program whose count is 0, by the set of those that are not tried yet. Assumes nothing.
use mathlib.Core.Path.{◌≡◌, sym, ap, ◌∙◌}
use mathlib.Core.Logic.{◌≢◌}
use mathlib.Core.Bool.{true, false}
use mathlib.Core.List.{List}
use mathlib.Core.Option.{Option}
use Rattle.std.specs.Prelude.{None, Some}
use Prim.Native.Nat.{ℕ, ◌-◌}
use native.Mathlib.Omega.{arith}
use lib.Dec.{eqb}
use borrow.Author.Tests.{eqb-true, eqb-false}
use Rattle.laws.specs.Tests.{by_test, never, no_true, and_right, and_both}
use Rattle.files.specs.Bits.{has_bit}
use Rattle.files.proofs.Bits.{zero_has, has-bit, without-number-same, without-number-other}
use Rattle.laws.specs.Lists.{with_found}
use Rattle.rules.specs.Boards.{everyone}
use Rattle.tables.specs.declared.ProgramSet.{ProgramSet}
use Rattle.tables.specs.ProgramSets.{has_program, without_program, IsLowest}
use Rattle.tables.proofs.Laws.{first_at, first_no}
use Rattle.search.specs.Counts.{count_of, at_zero, lowest}

module _ (counts : List ℕ) (left : ProgramSet) where
  -- whoever has the count 0 is not tried yet, and whoever is not tried yet is left
  abbrev pub Untried : ProgramSet → Type 0
  Untried rest = ((q : ℕ) → at_zero counts left q ≡ true → has_program rest q ≡ true) × ((q : ℕ) → has_program rest q ≡ true → has_program left q ≡ true)

  pub untried_more : (rest : ProgramSet) (p : ℕ) → Untried rest → eqb (count_of counts p) 0 ≡ false → Untried (without_program rest p)
  untried_more rest p (f, g) n = (
    λ q e. by_test (eqb q p)
        (λ t. let z : q ≡ p = eqb-true q p t in
        never (and_right (has_program left q) (eqb (count_of counts q) 0) e) (ap (λ (x : ℕ). eqb (count_of counts x) 0) z ∙ n))
        (λ t. let z : q ≢ p = eqb-false q p t in without-number-other 32 rest.bits p q z ∙ f q e),
    λ q e. by_test (eqb q p)
        (λ t. let z : q ≡ p = eqb-true q p t in
        never e (ap (has_program (without_program rest p)) z ∙ without-number-same 32 rest.bits p))
        (λ t. let z : q ≢ p = eqb-false q p t in g q (sym (without-number-other 32 rest.bits p q z) ∙ e)),
  )

  -- the lowest that is not tried yet, if its count is 0
  pub lowest-at : (rest : ProgramSet) (p : ℕ) → Untried rest → IsLowest rest p → eqb (count_of counts p) 0 ≡ true → Some p ≡ lowest counts left
  unfolding lowest everyone
  lowest-at rest p (f, g) (a, b, h, l) n = sym (ap (λ (x : Option ℕ). with_found x None Some) (first_at (at_zero counts left) 32 1 p a (omega arith)
      (and_both (has_program left p) (eqb (count_of counts p) 0) (g p h) n)
      (λ q k m. no_true (at_zero counts left q) (λ e. never (f q e) (l q m)))))

  -- all are tried
  pub lowest-no : (rest : ProgramSet) → Untried rest → rest.bits ≡ 0 → None ≡ lowest counts left
  unfolding lowest everyone
  lowest-no rest (f, g) z = sym (ap (λ (x : Option ℕ). with_found x None Some) (first_no (at_zero counts left) 32 1
      (λ q. no_true (at_zero counts left q) (λ e. never (has-bit 32 rest.bits q (f q e)) (ap (λ (m : ℕ). has_bit m (q - 1)) z ∙ zero_has (q - 1))))))
