use Rattle.std.proofs.Common.{◌≡◌, drop}
use Rattle.laws.specs.Lists.{names}
use Rattle.store.specs.Store.{board_of}
use Rattle.settling.specs.Writing.{written_in}
use Rattle.settling.proofs.Admitting.{Admitting}
use Rattle.settling.proofs.admit_held.Given as goal

-- those from this place of the entry line on are still held
abbrev pub invariant-loop-p : goal.invariant-loop-p
invariant-loop-p l = Admitting (written_in l.fn.sets l.fn.lines l.fn.w) (written_in l.sets l.lines l.s)
    × (names (board_of l.sets l.s.rest).entry ≡ names (drop l.p-index l.p-items))
