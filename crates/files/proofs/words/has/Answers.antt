use Rattle.std.proofs.Common.{◌-◌, ◌≡◌, true}
use Rattle.files.specs.Bits.{is_number}
use Rattle.files.proofs.Rows.{has_words}
use Rattle.files.proofs.words.has.Goals as goal

pub returns : goal.returns
returns c =
    let is_file : is_number 64 c.args.f ≡ true = cc in
    rw is_file (let h = has_words c.args.s.now (c.args.f - 1) in cc)
