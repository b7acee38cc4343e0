-- Laws of the counts. Assumes nothing.
use mathlib.Core.Path.{◌≡◌, sym, ◌∙◌}
use mathlib.Core.Logic.{◌≢◌}
use mathlib.Core.Bool.{Bool, cond}
use mathlib.Core.List.{List}
use Prim.Native.Nat.{ℕ, suc, ◌+◌, ◌-◌, ◌≤◌, ◌<◌}
use native.Mathlib.Omega.{arith}
use lib.ListN.{length, get_or, set}
use lib.Seq.{get_or-set_same, get_or-set_other, ext_get_or}
use lib.Dec.{eqb}
use borrow.Author.Tests.{eqb-true, eqb-false}
use Rattle.laws.specs.Tests.{by_test}
use Rattle.rules.specs.declared.Board.{Board}
use Rattle.rules.specs.Boards.{is_waiting, passed_by, tallied}
use Rattle.theory.specs.Counts.{tallied-at}
use Rattle.theory.specs.Sizes.{tallied_32}
use Rattle.store.specs.Sets.{in_place}
use Rattle.settling.specs.Writing.{CountsFew}

-- the count of p is 8
abbrev pub due : Board → ℕ → Bool
due b p = eqb (passed_by b p) 8

-- what the count in a place comes to when one more is admitted
abbrev pub raised_at : Board → ℕ → ℕ
raised_at b i = cond (is_waiting (in_place b i).standing) (get_or b.passed i 0 + 1) 0

-- the first n counts are raised
abbrev pub TalliedTo : Board → ℕ → List ℕ → Type 0
TalliedTo b n counts = (i : ℕ) → i < n → get_or counts i 0 ≡ raised_at b i

pub few_here : (counts : List ℕ) (i : ℕ) → i < 32 → CountsFew counts → get_or counts i 0 < 255
few_here counts i h f =
    let e : suc i - 1 ≡ i = omega arith in
    let m : get_or counts i 0 ≤ 8 = rw e at (f (suc i) (record { least = omega arith; most = omega arith })) in omega arith

pub tally_more : (b : Board) (i : ℕ) (counts : List ℕ) (n : ℕ) → i < 32 → length counts ≡ 32 → TalliedTo b i counts
    → n ≡ raised_at b i → TalliedTo b (i + 1) (set counts i n)
tally_more b i counts n h m t e j k = by_test (eqb j i)
    (λ u. let z : j ≡ i = eqb-true j i u in rw z (get_or-set_same counts i n 0 (omega arith) ∙ e))
    (λ u. let z : j ≢ i = eqb-false j i u in get_or-set_other counts i j n 0 z ∙ t j (omega arith))

pub tally_all : (b : Board) (counts : List ℕ) → length counts ≡ 32 → TalliedTo b 32 counts → counts ≡ tallied b
tally_all b counts m t = ext_get_or 0 counts (tallied b) (m ∙ sym (tallied_32 b)) (λ i h.
    t i (omega arith) ∙ sym (let e : suc i - 1 ≡ i = omega arith in
    rw e at (tallied-at b (suc i) (record { least = omega arith; most = omega arith }))))
