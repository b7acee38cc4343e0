use Rattle.store.specs.Store.{board_of}
use Rattle.whole.proofs.board.Goals as goal

pub returns : goal.returns
unfolding board_of
returns c = rw c.programs-programs.ensures
