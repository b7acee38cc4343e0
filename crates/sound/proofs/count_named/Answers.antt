use Rattle.std.proofs.Common.{◌≡◌, ◌∙◌, count_by, rules}
use Rattle.sound.specs.Parts.{is_name}
use Rattle.sound.proofs.Named.{named_count}
use Rattle.sound.proofs.count_named.Goals as goal

pub returns : goal.returns
returns c = let counted : c.count.result ≡ count_by is_name c.args.line = search rules in counted ∙ named_count c.args.line
