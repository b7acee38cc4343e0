-- The loop that decides whether giving is safe, whether those that hold back are found by the sets or by the rows. Assumes nothing.
use mathlib.Core.Path.{◌≡◌, sym, ap, ap₂, ◌∙◌}
use mathlib.Core.Logic.{◌≢◌}
use mathlib.Core.Bool.{Bool, true, false, ◌&&◌}
use mathlib.Core.List.{List}
use Prim.Native.Nat.{ℕ, suc, ◌≤◌, ◌<◌}
use lib.ListN.{length}
use lib.Dec.{eqb}
use borrow.Author.Tests.{ne_eqb, eqb-true, eqb-false}
use Rattle.files.proofs.Bits.{has-number, is_number_lem, with_number-same, with_number-other, without-number-same, without-number-other}
use Rattle.laws.specs.Tests.{by_test, never, no_true}
use Rattle.laws.specs.Lists.{keep}
use Rattle.rules.specs.declared.Mode.{Mode}
use Rattle.rules.specs.Boards.{everyone}
use Rattle.tables.specs.declared.ProgramSet.{ProgramSet}
use Rattle.tables.specs.ProgramSets.{has_program, with_program, without_program, union_of, less_of, lowest_of}
use Rattle.tables.specs.Tables.{packed, holders_of, rows_of}
use Rattle.store.specs.Sets.{Sets, mode_at, claims_at}
use Rattle.tables.proofs.Given.{packed-same}
use Rattle.tables.proofs.Walk.{none_left, rest_more}
use Rattle.tables.proofs.Whole.{row_has}
use Rattle.search.specs.Gives.{holders_in, safe_in}
use Rattle.search.specs.Counts.{Among}
use Rattle.search.specs.Stages.{asked, stage, TellsHolders}
use Rattle.search.proofs.Laws.{low, high}
use Rattle.search.proofs.Closing.{Closing, more, closing-start, closing-next, closing-done}
use Rattle.search.proofs.Backers.{unsafe_in_lem, safe_in_lem}
use Rattle.search.proofs.Stages.{to_ask, fewer_to_ask, stage-first, stage-next}

-- ---- p and those of a

with_more : (a : ProgramSet) (p q : ℕ) → has_program a q ≡ true → has_program (with_program a p) q ≡ true
with_more a p q e = by_test (eqb q p)
    (λ t. let z : q ≡ p = eqb-true q p t in ap (has_program (with_program a p)) z
    ∙ with_number-same 32 a.bits p (has-number 32 a.bits p (ap (has_program a) (sym z) ∙ e)))
    (λ t. with_number-other 32 a.bits p q (eqb-false q p t) ∙ e)

with_less : (a : ProgramSet) (p q : ℕ) → has_program a p ≡ true → has_program (with_program a p) q ≡ true → has_program a q ≡ true
with_less a p q e d = by_test (eqb q p) (λ t. ap (has_program a) (eqb-true q p t) ∙ e)
    (λ t. sym (with_number-other 32 a.bits p q (eqb-false q p t)) ∙ d)

-- ---- those that hold back, by the rows

-- q and those of s are of a, and q is not of s: by the rows of a they are the same as by the sets
pub holders_in_lem : (sets : Sets) (rows : List ℕ) (a : ProgramSet) (q : ℕ) (s : ProgramSet) → rows ≡ rows_of sets a → has_program a q ≡ true
    → Among s a → has_program s q ≡ false → packed (holders_in rows q s) 32 ≡ more sets q s
holders_in_lem sets rows a q s e m w n = rw e (packed-same (holders_in (rows_of sets a) q s) (holders_of sets q s) 32
    (λ x h k. by_test (has_program s x)
    (λ t. let d : x ≢ q = λ z. never (ap (has_program s) (sym z) ∙ t) n in
    ap (λ (y : Bool). has_program s x && y) (row_has sets a x q h k (low a q m) (high a q m) ∙ rw (w x t, m, ne_eqb x q d)))
    (λ t. rw t)))

-- so they tell it
pub rows_tell : (sets : Sets) (rows : List ℕ) (a : ProgramSet) (p : ℕ) → rows ≡ rows_of sets a → has_program a p ≡ true
    → TellsHolders sets a p (λ q s r. r ≡ packed (holders_in rows q s) 32)
rows_tell sets rows a p e m q s r w n c = c ∙ holders_in_lem sets rows a q s e (with_less a p q m w)
    (λ x u. rest_more a a q (λ y v. v) x (n x u))
    (no_true (has_program s q) (λ u. never (n q u) (without-number-same 32 a.bits q)))

-- ---- one loop

-- a stage of the decision with the programs a admitted
pub record Here (sets : Sets) (a : ProgramSet) (p f : ℕ) (mode : Mode) (found rest : ProgramSet) : Type 0 where
  pub closing : Closing sets (without_program a p) p f mode found rest
  pub asks : ℕ
  pub is_found : found ≡ (stage sets a p (suc asks)).found
  pub is-rest : rest ≡ (stage sets a p (suc asks)).rest

module _ (sets : Sets) (a : ProgramSet) (p f : ℕ) where
  -- p itself was asked about
  pub here-start : 1 ≤ p → p ≤ 32 → (mode : Mode) (found rest : ProgramSet) → found ≡ more sets p (without_program a p)
      → rest ≡ less_of (without_program a p) found → Here sets a p f mode found rest
  here-start h k mode found rest e d = let (i, r) = stage-first sets a p h k in record {
    closing = rw (d, e) (closing-start sets (without_program a p) p f mode);
    asks = 0;
    is_found = e ∙ sym i;
    is-rest = d ∙ ap (less_of (without_program a p)) e ∙ sym r;
  }

  -- those that hold back p
  pub told_first : 1 ≤ p → p ≤ 32 → (comes : ℕ → ProgramSet → ProgramSet → Type 0) → TellsHolders sets a p comes → (s r : ProgramSet)
      → s ≡ without_program a p → comes p s r → r ≡ more sets p (without_program a p)
  told_first h k comes t s r e c = t p s r (with_number-same 32 a.bits p (is_number_lem 32 p h k)) (λ x u. ap (λ (y : ProgramSet). has_program y x) (sym e) ∙ u) c
      ∙ ap (more sets p) e

  module _ (mode : Mode) (found rest : ProgramSet) (k : Here sets a p f mode found rest) where
    -- whoever is found is admitted
    pub here-admitted : (q : ℕ) → has_program found q ≡ true → has_program a q ≡ true
    here-admitted q e = rest_more a a p (λ x t. t) q (k.closing.inside q e).0

    -- those of the rest that hold back q, which is found
    pub told_next : (comes : ℕ → ProgramSet → ProgramSet → Type 0) → TellsHolders sets a p comes → (q : ℕ) (r : ProgramSet)
        → has_program found q ≡ true → comes q rest r → r ≡ more sets q rest
    told_next comes t q r e c = let m = here-admitted q e in t q rest r
        (with_more a p q m)
        (λ x u. let d : x ≢ q = λ z. never (ap (has_program rest) (sym z) ∙ u) (k.closing.inside q e).1 in
        without-number-other 32 a.bits q x d ∙ rest_more a a p (λ y v. v) x (k.closing.within x u)) c

    -- one that is found claims f
    pub here-unsafe : mode ≡ mode_at sets p f → (q : ℕ) → has_program found q ≡ true → claims_at sets f mode q ≡ true → safe_in sets a p f ≡ false
    here-unsafe m q e c = let (i, r) = k.closing.inside q e in
        unsafe_in_lem sets a p f q (k.closing.backs q i r) (ap (λ (z : Mode). claims_at sets f z q) (sym m) ∙ c)

    -- all that were found were asked about
    pub here-safe : mode ≡ mode_at sets p f → found.bits ≡ 0 → safe_in sets a p f ≡ true
    here-safe m e = safe_in_lem sets a p f (λ x w. ap (λ (z : Mode). claims_at sets f z x) (sym m)
        ∙ closing-done sets (without_program a p) p f mode found rest k.closing (λ y. none_left found y e) x w)

    -- q, the lowest that is found, is asked about: those of the rest that hold it back are found, and the others are the rest
    module _ (q : ℕ) (w : q ≡ lowest_of found) (e : has_program found q ≡ true) (m l r : ProgramSet) (c : m ≡ more sets q rest)
        (d : l ≡ union_of (without_program found (lowest_of found)) m) (z : r ≡ less_of rest m) where
      next-found : l ≡ (asked sets q (record { found = found; rest = rest })).found
      next-found = d ∙ ap₂ union_of (ap (without_program found) (sym w)) c

      next-rest : r ≡ (asked sets q (record { found = found; rest = rest })).rest
      next-rest = z ∙ ap (less_of rest) c

      pub here-next : claims_at sets f mode q ≡ false → Here sets a p f mode l r
      here-next n = let (i, j) = stage-next sets a p (suc k.asks) found rest q k.is_found k.is-rest w in record {
        closing = closing-next sets (without_program a p) p f mode found rest k.closing q e n l r next-found next-rest;
        asks = suc k.asks;
        is_found = next-found ∙ i;
        is-rest = next-rest ∙ j;
      }

      -- fewer may still be asked about
      pub here-fewer : length (keep (to_ask (record { found = l; rest = r })) everyone) < length (keep (to_ask (record { found = found; rest = rest })) everyone)
      here-fewer = fewer_to_ask sets q (record { found = found; rest = rest }) (λ x t. (k.closing.inside x t).1) e l r next-found next-rest
