-- Records in use, by the seats. Assumes nothing.
use Prim.Native.Nat.{ℕ}
use mathlib.Core.Path.{◌≡◌, sym, ap}
use mathlib.Core.Bool.{Bool, not, ◌&&◌}
use lib.Dec.{eqb}
use Rattle.laws.specs.Laws.{◌∈◌, any_same}
use Rattle.rules.specs.declared.Program.{Program}
use Rattle.rules.specs.Boards.{everyone, at, uses}
use Rattle.rules.specs.Orders.{taken}
use Rattle.theory.specs.Programs.{everyone_is}
use Rattle.store.specs.declared.Rest.{Rest}
use Rattle.store.specs.Sets.{Sets}
use Rattle.store.specs.Store.{seat_at, seat_uses, board_of}
use Rattle.store.proofs.Boards.{board-at}
use Rattle.tables.specs.Boards.{taken_in}

module _ (sets : Sets) (r : Rest) where
  -- a use, by the seat
  pub seat_uses_lem : (i f n : ℕ) → i ∈ everyone → uses (at (board_of sets r) i) f n ≡ seat_uses (seat_at r i) f n
  seat_uses_lem i f n m = let c = everyone_is i m in ap (λ (q : Program). uses q f n) (board-at sets r i c.least c.most)

  -- the seats say whether another has it
  pub seats_taken : (p f n : ℕ) → taken_in r p f n ≡ taken (board_of sets r) p f n
  unfolding taken
  seats_taken p f n = any_same _ _ everyone (λ i m. ap (λ (t : Bool). not (eqb i p) && t) (sym (seat_uses_lem i f n m)))
