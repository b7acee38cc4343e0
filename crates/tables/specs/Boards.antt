-- Who is admitted, as a set, and whether a record is in use.
-- Assumes nothing.
use Rattle.std.specs.Prelude.{ℕ, Bool, not, ◌&&◌, eqb}
use Rattle.rules.specs.declared.Board.{Board}
use Rattle.laws.specs.Lists.{any}
use Rattle.rules.specs.Boards.{everyone, at, is_admitted}
use Rattle.store.specs.declared.Seat.{Seat}
use Rattle.store.specs.declared.Rest.{Rest}
use Rattle.store.specs.Store.{seat_at, standing_at, seat_uses}
use Rattle.tables.specs.declared.ProgramSet.{ProgramSet}
use Rattle.tables.specs.Tables.{packed}

-- p is admitted
abbrev pub admits : Board → ℕ → Bool
admits b p = is_admitted (at b p).standing

-- the admitted programs
unfoldable pub admitted_set : Board → ProgramSet
admitted_set b = packed (admits b) 32

-- p is admitted, by its seat
abbrev pub seat_admits : Rest → ℕ → Bool
seat_admits r p = is_admitted (standing_at r p)

-- the admitted programs, by their seats
unfoldable pub admitted_seats : Rest → ProgramSet
admitted_seats r = packed (seat_admits r) 32

-- program i, in this seat, is another than p and has the record r of f in use
abbrev pub other_uses : Seat → ℕ → ℕ → ℕ → ℕ → Bool
other_uses s i p f r = not (eqb i p) && seat_uses s f r

-- another program than p has the record r of f in use
abbrev pub taken_in : Rest → ℕ → ℕ → ℕ → Bool
taken_in rest p f r = any (λ i. other_uses (seat_at rest i) i p f r) everyone
