use Rattle.std.proofs.Common.{sym, subst, ◌∙◌}
use Rattle.theory.specs.Worked.{direct_is_apply}
use Rattle.rules.specs.Calls.{call_of}
use Rattle.parts.specs.Entries.{IsEntries}
use Rattle.parts.proofs.Lined.{fresh_entries}
use Rattle.store.specs.Store.{board_of}
use Rattle.linecall.specs.LineCall.{reply_to}
use Rattle.linecall.proofs.known.reply_to.Goals as goal

pub returns-in-Ok-clause-comes_to : goal.returns-in-Ok-clause-comes_to
unfolding reply_to
returns-in-Ok-clause-comes_to c =
    let a = c.args in
    rw c.in-Ok.is (c.call.ensures.comes_to ∙ sym (direct_is_apply (board_of a.sets.now a.rest) (call_of c.in-Ok.asked) c.requires.0))

pub returns-in-Err-clause-comes_to : goal.returns-in-Err-clause-comes_to
unfolding reply_to
returns-in-Err-clause-comes_to c = rw c.in-Err.is c.refused.ensures.comes_to

pub returns-in-Err-clause-in_form : goal.returns-in-Err-clause-in_form
returns-in-Err-clause-in_form c = (c.sized.ensures, subst IsEntries (sym c.requires.1) fresh_entries, c.refused.ensures.carries)
