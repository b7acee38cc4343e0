use Rattle.std.proofs.Common.{sym, ap, subst, ◌∙◌}
use Rattle.rules.specs.Boards.{set_program, tallied}
use Rattle.rules.specs.Calls.{admit}
use Rattle.store.specs.declared.Rest.{Rest}
use Rattle.store.specs.Store.{board_of}
use Rattle.settling.specs.Writing.{CountsFew}
use Rattle.store.proofs.Boards.{with_passed_lem}
use Rattle.apply.proofs.put_running.Goals as goal

pub tally-requires : goal.tally-requires
unfolding board_of
tally-requires c = subst (λ (r : Rest). CountsFew r.passed) (sym c.put-c.ensures.value.0) c.requires.1.counts.counted.most

pub returns : goal.returns
unfolding admit
returns c = let a = c.args in
    let e = c.put-c.ensures.result_after ∙ ap (set_program (board_of a.sets.now a.rest) a.p) c.new_program-runs.ensures in
    with_passed_lem _ c.put-c.result _ e _ _ (c.tally.ensures ∙ ap tallied e)
