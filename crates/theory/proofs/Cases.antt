-- The table of cases (rules/proofs/Cases), for direct calls, each of which tests first that the board it is handed is sound.
-- Assumes nothing.
use Prim.Native.Nat.{ℕ}
use mathlib.Core.Path.{◌≡◌, refl, sym, ap, ◌∙◌}
use mathlib.Core.List.{List, [], ◌∷◌}
use mathlib.Core.Option
use lib.ListN.{get_or}
use Rattle.rules.specs.declared.Board.{Board}
use Rattle.rules.specs.declared.Reply.{Reply}
use Rattle.rules.specs.Boards.{empty_board}
use Rattle.rules.specs.Orders.{carried}
use Rattle.rules.specs.Replies.{lines_of, order_of}
use Rattle.rules.specs.Calls.{Call, apply, direct}
use Rattle.rules.proofs.Cases.{Case, told_by, outcome_is, a, table, calls, table-holds}
use Rattle.theory.specs.Loose.{Good}
use Rattle.theory.specs.Calls.{apply_stepped}
use Rattle.theory.specs.Sound.{sound_iff, good_sound}
use Rattle.theory.specs.Worked.{empty_good, direct_is_apply}

told_direct : (b : Board) (o : List ℕ) (cs : List Call) → Good b → told_by direct b o cs ≡ told_by apply b o cs
unfolding told_by
told_direct b o [] g = refl
told_direct b o (c ∷ cs) g =
    ap (λ (r : Reply). next r (told_by direct r.board (order_of r) cs)) (direct_is_apply b c ((sound_iff b).1 (good_sound b g)))
    ∙ ap (next (apply b c)) (told_direct (apply b c).board (order_of (apply b c)) cs (apply_stepped b c g).good)
  where
    next : Reply → Case → Case
    next r k =
        record { told = record { call = c; answer = r.answer; lines = lines_of r } ∷ k.told; order = k.order; favoured = k.favoured }

-- each case of the table is what its calls come to as direct calls, the first handed the empty board (past the end of the table stands case a)
table-direct : (i : ℕ) → told_by direct empty_board (Option.get_or (carried empty_board) []) (calls (get_or table i a)) ≡ get_or table i a
table-direct i = told_direct empty_board (Option.get_or (carried empty_board) []) (calls (get_or table i a)) empty_good
    ∙ sym (outcome_is (calls (get_or table i a))) ∙ table-holds i
