use Rattle.std.proofs.Common.{rules, ◌≡◌}
use Rattle.files.specs.Bits.{with_number}
use Rattle.files.proofs.Bits.{with_number_fits}
use Rattle.files.proofs.numbers.with.Goals as goal

pub returns-then-is_number-clause-fits : goal.returns-then-is_number-clause-fits
returns-then-is_number-clause-fits c h =
    let e : c.with_bit.result ≡ with_number c.args.top c.args.bits c.args.n = search rules in
    rw e (with_number_fits c.args.top c.args.bits c.args.n h)
