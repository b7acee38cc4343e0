-- Conflict and holding back, as 01 and 02 write them out.
-- Assumes nothing.
use Rattle.std.specs.Prelude.{◌≡◌, refl, Bool, true, false, ◌||◌}
use Rattle.std.proofs.Common.{◌∙◌}
use Rattle.rules.specs.declared.Program.{Program}
use Rattle.files.specs.Sets.{meets}
use Rattle.files.proofs.Laws.{meets_turn}
use Rattle.rules.specs.Modes.{claim_of, open_of, touching_is}
use Rattle.rules.specs.Orders.{conflict, holds_back}

-- the same tests in two orders
regrouped : (a b c d e f g : Bool) → ((a || b || c) || (d || e) || (f || g)) ≡ ((a || b || d) || (f || g) || (c || e))
regrouped true b c d e f g = refl
regrouped false true c d e f g = refl
regrouped false false true true e f g = refl
regrouped false false false true e f g = refl
regrouped false false true false e true g = refl
regrouped false false true false e false true = refl
regrouped false false true false e false false = refl
regrouped false false false false true true g = refl
regrouped false false false false true false true = refl
regrouped false false false false true false false = refl
regrouped false false false false false true g = refl
regrouped false false false false false false true = refl
regrouped false false false false false false false = refl

-- "They conflict if W of one meets W or R of the other"; "I of one conflicts with W and R of another, never with I."
pub conflict_01 : (i j : Program)
    → conflict i j
    ≡ ((meets i.writing j.writing || meets i.writing j.reading || meets j.writing i.reading)
    || (meets i.inquiring j.writing || meets i.inquiring j.reading)
    || (meets j.inquiring i.writing || meets j.inquiring i.reading))
conflict_01 i j =
    touching_is (λ m. open_of m i) (λ n. open_of n j)
    ∙ regrouped (meets i.writing j.writing) (meets i.writing j.reading) (meets i.writing j.inquiring)
    (meets i.reading j.writing) (meets i.reading j.inquiring) (meets i.inquiring j.writing)
    (meets i.inquiring j.reading)
    ∙ rw (meets_turn i.reading j.writing, meets_turn i.writing j.inquiring, meets_turn i.reading j.inquiring) refl

-- "i holds back j if W of i meets V or Q of j, or R of i meets V of j", "also if I of i meets V or Q of j, or W or R of i meets J of j."
pub holds_back_01 : (i j : Program)
    → holds_back i j
    ≡ ((meets i.writing j.writable || meets i.writing j.readable || meets i.reading j.writable)
    || (meets i.inquiring j.writable || meets i.inquiring j.readable)
    || (meets i.writing j.inquirable || meets i.reading j.inquirable))
holds_back_01 i j =
    touching_is (λ m. open_of m i) (λ n. claim_of n j)
    ∙ regrouped (meets i.writing j.writable) (meets i.writing j.readable) (meets i.writing j.inquirable)
    (meets i.reading j.writable) (meets i.reading j.inquirable) (meets i.inquiring j.writable)
    (meets i.inquiring j.readable)
