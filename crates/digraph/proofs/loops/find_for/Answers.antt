use Rattle.std.proofs.Common.{sym, ◌∙◌}
use Rattle.digraph.proofs.AnswerLaws.{waiter_found}
use Rattle.digraph.proofs.loops.find_for.Goals as goal

pub returns : goal.returns
returns c = waiter_found c.args.b c.args.p c.awaited.result c.find_given.result c.requires.1 (record { least = c.requires.0.0; most = c.requires.0.1 })
    (sym c.is_waiting.ensures ∙ c.if-not-is_waiting.false) c.if-q-ne0.false c.awaited.ensures c.find_given.ensures
