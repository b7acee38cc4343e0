use Rattle.std.proofs.Common.{rules, tests, ◌∙◌}
use Rattle.std.proofs.lemmas.Iterator.{YieldsList-from_slice}
use Rattle.std.proofs.lemmas.Iterator.Search.{find_from_yields_List}
use Rattle.request.specs.Verbs.{verbs}
use Rattle.request.specs.Requests.{begins, verb_of}
use Rattle.request.proofs.Laws.{first_is}
use Rattle.request.proofs.verb_of.Goals as goal

pub returns : goal.returns
unfolding verb_of
returns c =
    c.copied.ensures
    ∙ find_from_yields_List (λ v. begins v c.args.line.now) _ _ _ c.find.ensures.ran (YieldsList-from_slice verbs cc) (λ x b q k. search (rules, tests))
    ∙ first_is (λ v. begins v c.args.line.now) verbs
