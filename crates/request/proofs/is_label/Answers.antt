use Rattle.std.proofs.Common.{rules, tests, ◌∙◌}
use Rattle.std.proofs.lemmas.Iterator.{YieldsList-from_slice}
use Rattle.std.proofs.lemmas.Iterator.Search.{all_from_yields_List}
use Rattle.request.specs.Requests.{label_byte}
use Rattle.request.proofs.Laws.{all_is}
use Rattle.request.proofs.is_label.Goals as goal

pub returns : goal.returns
returns c =
    let l = c.args.part.now in
    all_from_yields_List label_byte _ _ _ c.all.ensures.ran (YieldsList-from_slice l cc) (λ x b q k. search (rules, tests)) ∙ all_is label_byte l
