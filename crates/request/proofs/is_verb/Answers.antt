use Rattle.std.proofs.Common.{◌∙◌}
use Rattle.request.proofs.Laws.{verb_starts}
use Rattle.request.proofs.is_verb.Goals as goal

pub returns : goal.returns
returns c = c.starts_with.ensures.value ∙ verb_starts c.args.v c.args.line.now _ c.verb_bytes.ensures
