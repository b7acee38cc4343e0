use native.Mathlib.Omega.{arith}
use native.Mathlib.Nat.{add-sub_cancel_left}
use lib.ListN.{length-take, length-drop}
use Rattle.image.proofs.row.Goals as goal

pub returns : goal.returns
returns c = record { value = simp add-sub_cancel_left; len = simp (add-sub_cancel_left, length-take, length-drop) (omega arith) }
