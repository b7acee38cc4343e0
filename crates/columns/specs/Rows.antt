-- Rows of bytes: the rows of a list one after another, and a row put in its place.
-- Assumes nothing.
use Rattle.std.specs.Prelude.{ℕ, ◌+◌, List, [], ◌∷◌, ◌++◌, length, take, drop}

-- the rows of a list of things, one after another
unfoldable pub flat : {A : Type 0} → (A → List ℕ) → List A → List ℕ
flat f [] = []
flat f (a ∷ as') = f a ++ flat f as'

-- the row from the place on; all other bytes as before
unfoldable pub put_at : ℕ → List ℕ → List ℕ → List ℕ
put_at at row l = take at l ++ (row ++ drop (at + length row) l)
