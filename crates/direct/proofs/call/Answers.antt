use mathlib.Core.Logic.{inl}
use Rattle.rules.specs.Calls.{call_of}
use Rattle.direct.proofs.call.Goals as goal

pub returns-clause-carries_value : goal.returns-clause-carries_value
returns-clause-carries_value c = c.loop_of-carries.ensures (call_of c.args.a) (inl c.reply_to-reply.ensures)
