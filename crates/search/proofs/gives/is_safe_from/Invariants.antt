-- In the loop of `is_safe_from` what is found and the rest are a stage of the decision; fewer may still be asked about. Assumes nothing.
use Rattle.std.proofs.Common.{length}
use Rattle.laws.specs.Lists.{keep}
use Rattle.rules.specs.Boards.{everyone}
use Rattle.search.proofs.Stages.{to_ask}
use Rattle.search.proofs.Deciding.{Here}
use Rattle.search.proofs.gives.is_safe_from.Given as goal

abbrev pub invariant-loop-found : goal.invariant-loop-found
invariant-loop-found g l = Here l.sets l.fn.admitted l.p l.f l.mode l.found l.rest

abbrev pub decreases-loop-found : goal.decreases-loop-found
decreases-loop-found g l = length (keep (to_ask (record { found = l.found; rest = l.rest })) everyone)
