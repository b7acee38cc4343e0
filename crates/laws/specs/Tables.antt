-- Tables: rows of numbers, all of one length.
-- Assumes nothing.
use Rattle.std.specs.Prelude.{ℕ, ◌<◌, ◌≡◌, List, [], eqb, length, get_or, set, replicate}
use Rattle.std.proofs.Common.{arith, ap, ◌∙◌, length-set, get_or-set_same, get_or-set_other, eqb-true}
use Rattle.std.proofs.lemmas.List.{length-replicate, get_or-replicate}
use Rattle.std.proofs.lemmas.Bool.{eqb-false}
use Rattle.laws.specs.Tests.{by_test}

-- n places, and in each a row of w numbers
pub record IsTable (n w : ℕ) (rows : List (List ℕ)) : Type 0 where
  pub places_are : length rows ≡ n
  pub words_are : (k : ℕ) → k < n → length (get_or rows k []) ≡ w

module _ (n w : ℕ) where
  -- rows of zeros
  pub fresh-table : IsTable n w (replicate n (replicate {A = ℕ} w 0))
  fresh-table = record {
    places_are = length-replicate n (replicate {A = ℕ} w 0);
    words_are = λ k h. ap length (get_or-replicate n k (replicate {A = ℕ} w 0) [] h) ∙ length-replicate {A = ℕ} w 0;
  }

  -- a row is put in a place
  pub put_in : (rows : List (List ℕ)) (k : ℕ) (r : List ℕ) → IsTable n w rows → length r ≡ w → IsTable n w (set rows k r)
  put_in rows k r s e = record {
    places_are = length-set rows k r ∙ s.places_are;
    words_are = λ j h. by_test (eqb j k)
        (λ t. let z : j ≡ k = eqb-true j k t in let l : k < length rows = omega (arith, h, s.places_are) in
        ap (λ (x : ℕ). length (get_or (set rows k r) x [])) z ∙ ap length (get_or-set_same rows k r [] l) ∙ e)
        (λ t. ap length (get_or-set_other rows k j r [] (eqb-false j k t)) ∙ s.words_are j h);
  }
