use Rattle.std.proofs.Common.{◌≡◌, length, rules}
use Rattle.settling.proofs.Storing.{admit-done}
use Rattle.settling.proofs.admit_one.Goals as goal

pub returns : goal.returns
returns c = let a = c.args in let m : length a.w.rest.seats ≡ 32 = search rules in
    rw (c.write_line.ensures.value, c.write_line.ensures.lines_after) (admit-done a.sets.now a.lines.now a.w.rest a.w.count a.p c.line_of.result c.seated-rest.result c.remove-rest.result c.tally-rest.result
    c.requires.3 m c.requires.0.0 c.requires.0.1 c.line_of.ensures c.seated-rest.ensures c.remove-rest.ensures c.tally-rest.ensures)
