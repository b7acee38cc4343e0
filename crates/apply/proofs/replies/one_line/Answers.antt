use Rattle.rules.specs.Settling.{line_of}
use Rattle.store.specs.Store.{board_of}
use Rattle.apply.proofs.Laws.{wrote_first}
use Rattle.apply.proofs.replies.one_line.Goals as goal

pub returns-clause-result_after : goal.returns-clause-result_after
returns-clause-result_after c = let a = c.args in
    wrote_first (board_of a.sets.now a.rest) a.lines.now c.line_of.result (line_of a.word a.p a.f a.n) c.line_of.ensures c.requires
