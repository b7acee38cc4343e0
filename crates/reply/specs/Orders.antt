-- The number of programs in an order. Assumes nothing.
use Rattle.std.specs.Prelude.{ℕ}
use Rattle.search.specs.declared.Search.{Search}

-- how many programs an order of this kind names
abbrev pub placed_in : Search → ℕ
placed_in (Search.Found n) = n
placed_in Search.Stuck = 0
