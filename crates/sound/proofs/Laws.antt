-- Laws of the parts of soundness. Assumes nothing.
use mathlib.Core.Path.{◌≡◌, sym, ap, ◌∙◌}
use mathlib.Core.Logic.{◌≢◌}
use mathlib.Core.Bool.{true, false, not, ◌&&◌, ◌||◌}
use mathlib.Core.List.{List}
use Prim.Native.Nat.{ℕ, suc, ◌≤◌, ◌<◌}
use native.Mathlib.Omega.{arith}
use lib.ListN.{length, get_or, drop}
use Rattle.laws.specs.Tests.{and_left, and_right}
use Rattle.rules.specs.declared.Board.{Board}
use Rattle.laws.specs.Lists.{all, keep, listed, distinct, same, names, padded}
use Rattle.rules.specs.Soundness.{line_sound}
use Rattle.rules.specs.Boards.{is_program, everyone, at, admitted, claims, has_open}
use Rattle.theory.specs.Loose.{waiting_in}
use Rattle.lines.proofs.Laws.{all-names-on, program_range}
use Rattle.store.specs.Sets.{Sets, SetsOf, claim_at, open_at, claims_at, opens_at}
use Rattle.store.proofs.Laws.{claim_is, open_is}
use Rattle.theory.specs.Modes.{same_mode}
use Rattle.rules.specs.declared.Mode.TheVariants.{Write}
use Rattle.rules.specs.Modes.{claim_of, open_of}
use Rattle.files.specs.declared.FileSet.{FileSet}
use Rattle.files.specs.Sets.{member}
use Rattle.tables.proofs.Laws.{admitted-those}
use Rattle.tables.specs.Boards.{admits, admitted_set}
use Rattle.tables.specs.ProgramSets.{has_program}
use Rattle.tables.proofs.Laws.{packed-has}
use Rattle.search.specs.declared.Uses.{Uses}
use Rattle.search.specs.Gives.{uses_of}
use Rattle.sound.specs.Parts.{stands_at, stand_set, right_name}
use Rattle.sound.proofs.Taken.{line-packed}
use Rattle.tables.specs.declared.ProgramSet.{ProgramSet}

-- a name of a line of waiting programs is that of an admitted program
pub waiter_named : (b : Board) (l : List ℕ) (k : ℕ) → k < length l → get_or l k 0 ≢ 0 → all (right_name b false) (names (drop k l)) ≡ true
    → ((1 ≤ get_or l k 0) × (get_or l k 0 ≤ 32)) × (admits b (get_or l k 0) ≡ true)
waiter_named b l k h ne e =
    let n = and_left (right_name b false (get_or l k 0)) (all (right_name b false) (names (drop (suc k) l)))
    (sym (all-names-on l k (right_name b false) h ne) ∙ e) in (
      program_range (get_or l k 0) (and_left (is_program (get_or l k 0)) _ n),
      waiting_in (at b (get_or l k 0)).standing (and_right (is_program (get_or l k 0)) _ n),
    )

-- an admitted program is of those that the uses say are admitted
pub in_admitted : (b : Board) (u : Uses) (sets : Sets) (p : ℕ) → u ≡ uses_of b sets → 1 ≤ p → p ≤ 32 → admits b p ≡ true → has_program u.admitted p ≡ true
unfolding admitted_set
in_admitted b u sets p e h k a = ap (λ (x : Uses). has_program x.admitted p) e ∙ packed-has (admits b) 32 p (omega arith) h k ∙ a

-- the names of a line that is sound with the waiting programs are theirs
pub named_waiting : (b : Board) (l : List ℕ) (s : ProgramSet) → s ≡ stand_set b false → line_sound l (has_program s) ≡ true
    → all (right_name b false) (names l) ≡ true
unfolding line_sound
named_waiting b l s z e =
    let x = all (right_name b false) (names l) in
    let y = all (λ p. not (stands_at b false p) || listed p (names l)) everyone in
    let d = distinct (names l) in
    let w = sym (line-packed l (stands_at b false)) ∙ ap (λ (r : ProgramSet). line_sound l (has_program r)) (sym z) ∙ e in
    and_left x y (and_left (x && y) d (and_left (x && y && d) (same l (padded 0 (names l))) w))

-- the programs of the set of the admitted, counted
pub counted : (b : Board) → length (keep (has_program (admitted_set b)) everyone) ≡ length (admitted b)
counted b = ap length (admitted-those b)

-- ---- what p claims and has open, by the sets

module _ (b : Board) (sets : Sets) (s : SetsOf b sets) (p : ℕ) (h : 1 ≤ p) (k : p ≤ 32) (f : ℕ) where
  pub claimed_is : claims_at sets f Write p ≡ claims (at b p) f
  claimed_is = same_mode (λ m. member (claim_at sets p m) f) (λ m. member (claim_of m (at b p)) f)
      (λ m. ap (λ (x : FileSet). member x f) (claim_is b sets s p h k m))

  pub opened_is : opens_at sets f p ≡ has_open (at b p) f
  opened_is = same_mode (λ m. member (open_at sets p m) f) (λ m. member (open_of m (at b p)) f)
      (λ m. ap (λ (x : FileSet). member x f) (open_is b sets s p h k m))
