use Rattle.std.proofs.Common.{◌≡◌, length, rules}
use Rattle.settling.proofs.Storing.{give-done}
use Rattle.settling.proofs.give.Goals as goal

pub returns-clause-result_after : goal.returns-clause-result_after
returns-clause-result_after c = let a = c.args in let w = a.w in let m : length w.rest.seats ≡ 32 = search rules in
    rw (c.write_line.ensures.value, c.write_line.ensures.lines_after) (give-done a.sets.now a.lines.now w.rest w.count a.p c.line_of.result c.give.new.sets c.served.result a.f
    c.requires.1 c.requires.3 m c.requires.0 c.line_of.ensures c.give.ensures c.served.ensures)
