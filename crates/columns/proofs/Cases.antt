-- Columns that are a number and columns that are none, in three, four and five columns, both ways: antt computes each from the definitions.
-- Assumes nothing.
use mathlib.Core.Path.{◌≡◌, refl}
use mathlib.Core.List.{[], ◌∷◌, map}
use Rattle.std.specs.Prelude.{Some, None}
use Rattle.columns.specs.Columns.{leading, columns_of, read_all, number_of}

-- "zero written with two blanks"; 7, 64 and 407
written : map (columns_of 3) (0 ∷ 7 ∷ 64 ∷ 407 ∷ [])
    ≡ (32 ∷ 32 ∷ 48 ∷ []) ∷ (32 ∷ 32 ∷ 55 ∷ []) ∷ (32 ∷ 54 ∷ 52 ∷ []) ∷ (52 ∷ 48 ∷ 55 ∷ []) ∷ []
unfolding leading columns_of
written = refl

-- 1,024 in four columns, 7 and 65,535 in five
wider : columns_of 4 1024 ∷ columns_of 5 7 ∷ columns_of 5 65535 ∷ []
    ≡ (49 ∷ 48 ∷ 50 ∷ 52 ∷ []) ∷ (32 ∷ 32 ∷ 32 ∷ 32 ∷ 55 ∷ []) ∷ (54 ∷ 53 ∷ 53 ∷ 51 ∷ 53 ∷ []) ∷ []
unfolding leading columns_of
wider = refl

-- from 0 to 64: 0, 7, 64; then 65, blanks alone, leading zeros, a blank after a digit, a sign, a tab, two columns and four
read : map (number_of 3 0 64) (
    (32 ∷ 32 ∷ 48 ∷ [])
    ∷ (32 ∷ 32 ∷ 55 ∷ [])
    ∷ (32 ∷ 54 ∷ 52 ∷ [])
    ∷ (32 ∷ 54 ∷ 53 ∷ [])
    ∷ (32 ∷ 32 ∷ 32 ∷ [])
    ∷ (32 ∷ 48 ∷ 55 ∷ [])
    ∷ (48 ∷ 48 ∷ 48 ∷ [])
    ∷ (55 ∷ 32 ∷ 32 ∷ [])
    ∷ (32 ∷ 43 ∷ 55 ∷ [])
    ∷ (9 ∷ 32 ∷ 55 ∷ [])
    ∷ (32 ∷ 55 ∷ [])
    ∷ (32 ∷ 32 ∷ 32 ∷ 55 ∷ [])
    ∷ [])
    ≡ Some 0 ∷ Some 7 ∷ Some 64 ∷ None ∷ None ∷ None ∷ None ∷ None ∷ None ∷ None
    ∷ None ∷ None ∷ []
unfolding read_all number_of
read = refl

-- in four columns and in five
read-wider : number_of 4 1 1024 (49 ∷ 48 ∷ 50 ∷ 52 ∷ []) ∷ number_of 4 1 1024 (49 ∷ 48 ∷ 50 ∷ 53 ∷ [])
    ∷ number_of 5 1 65535 (54 ∷ 53 ∷ 53 ∷ 51 ∷ 53 ∷ []) ∷ number_of 5 1 65535 (32 ∷ 48 ∷ 53 ∷ 51 ∷ 53 ∷ []) ∷ []
    ≡ Some 1024 ∷ None ∷ Some 65535 ∷ None ∷ []
unfolding read_all number_of
read-wider = refl
