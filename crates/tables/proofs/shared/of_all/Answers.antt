-- `of_all` meets its contract. Assumes nothing.
use Rattle.std.proofs.Common.{ℕ, refl, ap, ◌∙◌, arith, rules}
use Rattle.std.specs.Int.Bits.{bit_or}
use Rattle.files.specs.Words.{wordwise}
use Rattle.store.specs.Sets.{row_in}
use Rattle.tables.specs.Shared.{shared_to, open_row}
use Rattle.tables.proofs.Sharing.{once_more}
use Rattle.tables.proofs.shared.of_all.Goals as goal

pub loop-p-init : goal.loop-p-init
unfolding shared_to
loop-p-init c = (refl, refl)

pub loop-p-preserved : goal.loop-p-preserved
loop-p-preserved c = (
  search rules,
  let a = c.args in c.join.ensures
      ∙ ap (λ (k : ℕ). wordwise bit_or c.loop-p.files (row_in a.sets.now k)) c.open_at.ensures.0
      ∙ once_more (open_row a.sets.now a.mode) c.loop-p.p c.loop-p.files (omega arith) c.loop-p.invariant.1,
)
