use Rattle.std.proofs.Common.{arith}
use Rattle.store.specs.Store.{board_of}
use Rattle.apply.proofs.Laws.{open-fits, close-fits, fetch-fits}
use Rattle.apply.proofs.accept.Goals as goal

pub overflow_cast-a : goal.overflow_cast-a
overflow_cast-a c = let h = open-fits (board_of c.args.sets.now c.args.rest) c.args.p c.args.a.file (rw c.in-Open.is at c.requires.2) in omega arith

pub overflow_cast-a-in-Close : goal.overflow_cast-a-in-Close
overflow_cast-a-in-Close c = let h = close-fits (board_of c.args.sets.now c.args.rest) c.args.p c.args.a.file (rw c.in-Close.is at c.requires.2) in omega arith

pub overflow_cast-a-in-Drop : goal.overflow_cast-a-in-Drop
overflow_cast-a-in-Drop c = let h = open-fits (board_of c.args.sets.now c.args.rest) c.args.p c.args.a.file (rw c.in-Drop.is at c.requires.2) in omega arith

pub overflow_cast-a-in-Fetch : goal.overflow_cast-a-in-Fetch
overflow_cast-a-in-Fetch c = let h = fetch-fits (board_of c.args.sets.now c.args.rest) c.args.p c.args.a.file c.args.a.item (rw c.in-Fetch.is at c.requires.2) in omega arith

pub overflow_cast-a-in-Fetch-2 : goal.overflow_cast-a-in-Fetch-2
overflow_cast-a-in-Fetch-2 c = let h = fetch-fits (board_of c.args.sets.now c.args.rest) c.args.p c.args.a.file c.args.a.item (rw c.in-Fetch.is at c.requires.2) in omega arith
