-- 02, CR 3, "Test each ordered pair at most once per search", for the search of a decision whether a file can be given: which pairs it tests.
-- Assumes nothing.
use Rattle.std.specs.Prelude.{ℕ, zero, suc, ◌≡◌, ◌≢◌, Bool, true, ◌&&◌, eqb}
use Rattle.store.specs.Sets.{Sets}
use Rattle.tables.specs.declared.ProgramSet.{ProgramSet}
use Rattle.tables.specs.ProgramSets.{no_programs, has_program, with_program, without_program, union_of, less_of, lowest_of}
use Rattle.tables.specs.Tables.{packed, holders_of}
use Rattle.search.specs.Counts.{Among}

-- how far the decision is: those found of whom it has not asked yet who holds them back, and the rest, not found
pub record Stage : Type 0 where
  pub found : ProgramSet
  pub rest : ProgramSet

-- who holds back q, one of those found: whoever of the rest does is found too
abbrev pub asked : Sets → ℕ → Stage → Stage
asked sets q s = let more = packed (holders_of sets q s.rest) 32 in
    record { found = union_of (without_program s.found q) more; rest = less_of s.rest more }

-- what comes of a program and a set is who of the set holds the program back: for p and each of a, and sets of other ones of a
abbrev pub TellsHolders : Sets → ProgramSet → ℕ → (ℕ → ProgramSet → ProgramSet → Type 0) → Type 0
TellsHolders sets a p comes = (q : ℕ) (s r : ProgramSet) → has_program (with_program a p) q ≡ true → Among s (without_program a q)
    → comes q s r → r ≡ packed (holders_of sets q s) 32

-- after k askings, each of the lowest found; first of p itself, with all other admitted ones not found
unfoldable pub stage : Sets → ProgramSet → ℕ → ℕ → Stage
stage sets a p zero = record { found = with_program no_programs p; rest = without_program a p }
stage sets a p (suc k) = let s = stage sets a p k in asked sets (lowest_of s.found) s

-- asking k + 1 tests whether x holds back q
abbrev pub tests : Sets → ProgramSet → ℕ → ℕ → ℕ → ℕ → Bool
tests sets a p k x q = let s = stage sets a p k in
    (has_program s.found q && eqb q (lowest_of s.found)) && has_program s.rest x

-- no ordered pair is tested by two askings, and none of a program and itself
abbrev pub TestedOnce : Sets → ProgramSet → ℕ → Type 0
TestedOnce sets a p = ((j k x q : ℕ) → tests sets a p j x q ≡ true → tests sets a p k x q ≡ true → j ≡ k)
    × ((k x q : ℕ) → tests sets a p k x q ≡ true → x ≢ q)
