use Rattle.files.proofs.Bits.{mask_le, mask_less}
use Rattle.files.proofs.numbers.without_bit.Goals as goal

pub overflow_sub-result : goal.overflow_sub-result
overflow_sub-result c = mask_le 64 c.args.bits c.args.i c.requires

pub returns : goal.returns
returns c = mask_less 64 c.args.bits c.args.i c.requires
