-- Counts, rows and stages of a small board, computed. Assumes nothing.
use mathlib.Core.Path.{◌≡◌, refl}
use mathlib.Core.Bool.{true, false}
use mathlib.Core.List.{List, [], ◌∷◌, ◌++◌, map}
use mathlib.Core.Option.{some, none}
use Rattle.std.specs.Prelude.{None}
use Prim.Native.Nat.{ℕ}
use lib.ListN.{replicate}
use Rattle.rules.specs.Modes.{touching}
use Rattle.rules.specs.Boards.{everyone}
use Rattle.laws.specs.Lists.{rising, keep, first}
use Rattle.files.specs.Words.{bits_of}
use Rattle.store.specs.Sets.{Sets}
use Rattle.tables.specs.declared.ProgramSet.{ProgramSet}
use Rattle.tables.specs.ProgramSets.{lowest_of}
use Rattle.tables.specs.Tables.{places, packed, rows_of}
use Rattle.search.specs.Counts.{held_count, counts_of, lowered, lowest}
use Rattle.search.specs.Rows.{order_from}
use Rattle.search.specs.Stages.{stage, tests}

-- 1 may write 1 and 4, and has 1 open; 2 may write 1 and 2, and has 2 open; 3 may read 2, and has nothing open; 4 is held, and may write 1.
-- So 1 holds back 2, and 2 holds back 3.
abbrev sets : Sets
sets = map (λ w. w ∷ []) ((9 ∷ 3 ∷ 0 ∷ 1 ∷ replicate 28 0) ++ ((0 ∷ 0 ∷ 2 ∷ replicate 29 0) ++ (replicate 32 0 ++ ((1 ∷ 2 ∷ replicate 30 0) ++ replicate 64 0))))

abbrev set : ℕ → ProgramSet
set n = record { bits = n }

-- ---- the rows and the counts

-- the row of 1 has 2, and that of 2 has 3; the held program is in none
abbrev rows : List ℕ
rows = 2 ∷ 4 ∷ replicate 30 0

rows-computed : rows_of sets (set 7) ≡ rows
unfolding rows_of places packed touching bits_of
rows-computed = refl

-- how many of 1, 2 and 3 hold back each
counts : (held_count rows (set 7) 1 ≡ 0) × (held_count rows (set 7) 2 ≡ 1) × (held_count rows (set 7) 3 ≡ 1)
unfolding keep everyone rising
counts = (refl, refl, refl)

counts-computed : counts_of rows (set 7) ≡ (0 ∷ 1 ∷ 1 ∷ replicate 29 0)
unfolding counts_of places keep everyone rising
counts-computed = refl

-- 1 is taken: the count of 2 is lowered, that of 3 is not
counts-after : (held_count rows (set 6) 2 ≡ 0) × (held_count rows (set 6) 3 ≡ 1)
unfolding keep everyone rising
counts-after = (refl, refl)

lowered-computed : lowered (set 2) (0 ∷ 1 ∷ 1 ∷ replicate 29 0) ≡ (0 ∷ 0 ∷ 1 ∷ replicate 29 0)
unfolding lowered places
lowered-computed = refl

-- the order: 1, 2, 3
order : order_from 3 rows (set 7) ≡ some (1 ∷ 2 ∷ 3 ∷ [])
unfolding order_from first keep everyone rising
order = refl

-- 1 held back by 3 too: none has the count 0, and there is no order
stuck : (order_from 3 (2 ∷ 4 ∷ 1 ∷ replicate 29 0) (set 7) ≡ none) × (lowest (1 ∷ 1 ∷ 1 ∷ replicate 29 0) (set 7) ≡ None)
unfolding order_from lowest first keep everyone rising
stuck = (refl, refl)

-- ---- a decision for 3

-- first 3 is asked about, then 2, then 1; then nobody is left to ask about
found : ((stage sets (set 7) 3 0).found ≡ set 4) × ((stage sets (set 7) 3 1).found ≡ set 2) × ((stage sets (set 7) 3 2).found ≡ set 1)
    × ((stage sets (set 7) 3 3).found ≡ set 0)
unfolding stage packed touching bits_of lowest_of first everyone rising
found = (refl, refl, refl, refl)

rest : ((stage sets (set 7) 3 0).rest ≡ set 3) × ((stage sets (set 7) 3 1).rest ≡ set 1) × ((stage sets (set 7) 3 2).rest ≡ set 0)
unfolding stage packed touching bits_of lowest_of first everyone rising
rest = (refl, refl, refl)

-- whether 1 holds back 3 is tested by the first asking, and by no other; that 2 holds back 3 is not tested again
tested : (tests sets (set 7) 3 0 1 3 ≡ true) × (tests sets (set 7) 3 0 2 3 ≡ true) × (tests sets (set 7) 3 1 1 2 ≡ true)
    × (tests sets (set 7) 3 1 1 3 ≡ false) × (tests sets (set 7) 3 1 2 3 ≡ false) × (tests sets (set 7) 3 2 2 1 ≡ false)
unfolding stage packed touching bits_of lowest_of first everyone rising
tested = (refl, refl, refl, refl, refl, refl)
