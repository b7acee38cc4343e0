use Rattle.std.proofs.Common.{◌∙◌}
use Rattle.store.specs.Store.{board_of}
use Rattle.apply.proofs.Laws.{good_of, passes, fails, none_entries}
use Rattle.apply.proofs.call.Goals as goal

pub accept-c-requires : goal.accept-c-requires
accept-c-requires c = let a = c.args in let m = passes (board_of a.sets.now a.rest) a.a c.in-Ok.p c.in-Ok.ensures in
    (m.0, good_of a.sets.now a.rest c.requires.0, m.1, c.requires.1)

pub returns-in-Ok-clause-comes_to : goal.returns-in-Ok-clause-comes_to
returns-in-Ok-clause-comes_to c = let a = c.args in let m = passes (board_of a.sets.now a.rest) a.a c.in-Ok.p c.in-Ok.ensures in
    c.accept-c.ensures.comes_to ∙ m.2

pub returns-in-Err-clause-comes_to : goal.returns-in-Err-clause-comes_to
returns-in-Err-clause-comes_to c = let a = c.args in
    c.refused.ensures.comes_to ∙ fails (board_of a.sets.now a.rest) a.a c.in-Err.refusal c.in-Err.ensures

pub returns-in-Err-clause-in_form : goal.returns-in-Err-clause-in_form
returns-in-Err-clause-in_form c = (c.sized-in-Err.ensures, none_entries c.args.lines.now c.requires.1, c.refused.ensures.carries)
