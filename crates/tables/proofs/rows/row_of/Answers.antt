-- `row_of` meets its contract. Assumes nothing.
use Rattle.std.proofs.Common.{◌≡◌, false}
use Rattle.files.specs.Sets.{meets}
use Rattle.files.specs.Words.{set_of}
use Rattle.tables.specs.Shared.{others_of, claimed_at, opened_at}
use Rattle.tables.proofs.NoRow.{row-none}
use Rattle.tables.proofs.rows.row_of.Goals as goal

pub returns-then-not-meets : goal.returns-then-not-meets
returns-then-not-meets c =
    let a = c.args in
    let z : meets (set_of (opened_at a.sets.now a.p)) (set_of (others_of a.claimed (claimed_at a.sets.now a.p))) ≡ false = cc in
    row-none a.sets.now c.requires.3 a.admitted a.claimed c.requires.2 a.p c.requires.1 z
