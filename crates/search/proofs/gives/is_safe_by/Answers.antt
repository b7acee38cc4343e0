-- `is_safe_by` meets its contract. Assumes nothing.
use Rattle.std.proofs.Common.{◌≡◌, rules}
use Rattle.tables.specs.Tables.{packed}
use Rattle.search.specs.Gives.{holders_in}
use Rattle.search.proofs.Deciding.{rows_tell}
use Rattle.search.proofs.gives.is_safe_by.Goals as goal

pub is_safe_from-requires-clause-tells : goal.is_safe_from-requires-clause-tells
is_safe_from-requires-clause-tells c q s r w n e =
    let a = c.args in let d : r ≡ packed (holders_in a.rows.now q s) 32 = search (rules, e) in
    rows_tell a.sets.now a.rows.now a.admitted a.p c.requires.2 c.requires.1 q s r w n d
