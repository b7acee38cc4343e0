use native.Mathlib.Omega.{arith}
use native.Mathlib.Nat.{add-sub_cancel_left}
use lib.ListN.{length-take, length-drop}
use lib.Seq.{drop-drop}
use Rattle.image.proofs.inquiry.Goals as goal

pub returns : goal.returns
returns c = record { value = simp (add-sub_cancel_left, drop-drop); len = simp (add-sub_cancel_left, length-take, length-drop) (omega arith) }
