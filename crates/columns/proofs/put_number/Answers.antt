use Rattle.std.proofs.Common.{◌≡◌, ◌+◌, ◌-◌, ◌/◌, ◌%◌, ℕ, length, take, arith, refl, ap, ◌∙◌}
use lib.ListN.{set, length-take, length-set}
use Rattle.columns.specs.Columns.{leading}
use Rattle.columns.proofs.Laws.{columns_put}
use Rattle.columns.proofs.put_number.Goals as goal

pub returns : goal.returns
returns c =
    let l = c.args.part.now in
    let m : length (take (length l - 1) (set l (length l - 1) (48 + c.args.n % 10))) ≡ length l - 1 = simp (length-take, length-set) (omega arith) in
    columns_put c.args.n (length l - 1) l _ _ (omega arith) refl (c.put_leading.ensures ∙ ap (λ (w : ℕ). leading w (c.args.n / 10)) m)
