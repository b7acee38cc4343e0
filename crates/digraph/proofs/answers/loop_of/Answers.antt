use Rattle.std.proofs.Common.{sym, ◌∙◌}
use Rattle.digraph.proofs.AnswerLaws.{carries_loop}
use Rattle.digraph.proofs.answers.loop_of.Goals as goal

pub returns-then-is_unsafe : goal.returns-then-is_unsafe
returns-then-is_unsafe c = carries_loop c.args.b c.args.r c.loop_with.result (sym c.is_unsafe.ensures ∙ c.if-is_unsafe.true) c.loop_with.ensures
