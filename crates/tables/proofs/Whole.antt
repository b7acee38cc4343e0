-- What stands in the rows by the sets; on a board they are its rows. Assumes nothing.
use mathlib.Core.Path.{◌≡◌, sym, ap, ◌∙◌}
use mathlib.Core.Bool.{Bool, not, cond, ◌&&◌}
use mathlib.Core.List.{List}
use Prim.Native.Nat.{ℕ, suc, ◌+◌, ◌-◌, ◌≤◌}
use native.Mathlib.Omega.{arith}
use lib.Dec.{eqb}
use lib.ListN.{get_or, replicate, get_or-replicate}
use borrow.Author.Tests.{eqb-true, eqb-false}
use Rattle.files.specs.Bits.{has_number}
use Rattle.files.proofs.Bits.{without-number-same, without-number-other}
use Rattle.laws.specs.Tests.{by_test, and_false}
use Rattle.rules.specs.declared.Board.{Board}
use Rattle.store.specs.Sets.{Sets, SetsOf, holds_one}
use Rattle.store.proofs.Laws.{holds-is}
use Rattle.tables.specs.declared.ProgramSet.{ProgramSet}
use Rattle.tables.specs.ProgramSets.{has_program, without_program}
use Rattle.tables.specs.Tables.{held_by, rows_of, row_of, RowsOf, packed}
use Rattle.tables.proofs.Laws.{places-at, places_same, packed-has, none_has}
use Rattle.tables.proofs.Walk.{WroteTo, wrote-done}

-- the row of i has x if both are of a, are different, and i holds x back
pub row_has : (sets : Sets) (a : ProgramSet) (i x : ℕ) → 1 ≤ i → i ≤ 32 → 1 ≤ x → x ≤ 32
    → has_program (row_of (rows_of sets a) i) x ≡ ((has_program a i && has_program a x) && (not (eqb i x) && holds_one sets x i))
unfolding rows_of
row_has sets a i x h k l m = ap (λ (n : ℕ). has_number 32 n x) row ∙ by_test (has_program a i)
    (λ e. rw e (packed-has (held_by sets i (without_program a i)) 32 x (omega arith) l m ∙ by_test (eqb i x)
    (λ t. let z : i ≡ x = eqb-true i x t in
    rw t (ap (λ (w : Bool). w && holds_one sets x i) (ap (has_program (without_program a i)) (sym z) ∙ without-number-same 32 a.bits i)
    ∙ sym (and_false (has_program a x))))
    (λ t. rw t (ap (λ (w : Bool). w && holds_one sets x i) (without-number-other 32 a.bits i x (λ d. eqb-false i x t (sym d)))))))
    (λ e. rw e (none_has x))
  where
    row : get_or (rows_of sets a) (i - 1) 0 ≡ cond (has_program a i) (packed (held_by sets i (without_program a i)) 32).bits 0
    row = let z : suc (0 + (i - 1)) ≡ i = omega arith in places-at _ 32 0 (i - 1) (omega arith)
        ∙ ap (λ (y : ℕ). cond (has_program a y) (packed (held_by sets y (without_program a y)) 32).bits 0) z

-- the row of program i + 1, as a number
abbrev pub row_bits : Sets → ProgramSet → ℕ → ℕ
row_bits sets a i = (packed (held_by sets (suc i) (without_program a (suc i))) 32).bits

-- what was written for each of the set are its rows
pub rows_written : (sets : Sets) (a : ProgramSet) (before after : List ℕ) (rest : ProgramSet) → before ≡ replicate 32 0 → rest.bits ≡ 0
    → WroteTo a (row_bits sets a) before rest after → after ≡ rows_of sets a
unfolding rows_of
rows_written sets a before after rest z e w = wrote-done a (row_bits sets a) before rest after e w
    ∙ places_same _ _ 32 0 (λ i h m. ap (cond (has_program a (suc i)) (row_bits sets a i))
    (ap (λ (x : List ℕ). get_or x i 0) z ∙ get_or-replicate 32 i 0 0 (omega arith)))

-- the rows by the sets of a board
pub rows_for : (b : Board) (sets : Sets) (a : ProgramSet) → SetsOf b sets → RowsOf b a (rows_of sets a)
rows_for b sets a s i x h k l m = row_has sets a i x h k l m
    ∙ ap (λ (w : Bool). (has_program a i && has_program a x) && (not (eqb i x) && w)) (holds-is b sets s i x h k l m)
