-- The admitted programs of a board, by their seats. Assumes nothing.
use mathlib.Core.Path.{◌≡◌, refl, sym, ap, ap₂}
use mathlib.Core.Bool.{Bool}
use Prim.Native.Nat.{ℕ, zero, suc, ◌≤◌}
use native.Mathlib.Omega.{arith}
use Rattle.rules.specs.declared.Program.{Program}
use Rattle.rules.specs.Boards.{is_admitted}
use Rattle.store.specs.declared.Rest.{Rest}
use Rattle.store.specs.Sets.{Sets}
use Rattle.store.specs.Store.{board_of}
use Rattle.store.proofs.Boards.{board-at}
use Rattle.tables.specs.declared.ProgramSet.{ProgramSet}
use Rattle.tables.specs.Tables.{joined, packed}
use Rattle.tables.specs.Boards.{admits, admitted_set, seat_admits, admitted_seats}

pub packed-same : (t u : ℕ → Bool) (n : ℕ) → ((x : ℕ) → 1 ≤ x → x ≤ n → t x ≡ u x) → packed t n ≡ packed u n
unfolding packed
packed-same t u zero g = refl
packed-same t u (suc n) g = ap₂ (λ (s : ProgramSet) (y : Bool). joined s (suc n) y) (packed-same t u n (λ x h k. g x h (omega arith)))
    (g (suc n) (omega arith) (omega arith))

-- the seats say who is admitted
pub seats_admitted : (sets : Sets) (r : Rest) → admitted_seats r ≡ admitted_set (board_of sets r)
unfolding admitted_set admitted_seats
seats_admitted sets r = packed-same (seat_admits r) (admits (board_of sets r)) 32
    (λ p h k. ap (λ (q : Program). is_admitted q.standing) (sym (board-at sets r p h k)))
