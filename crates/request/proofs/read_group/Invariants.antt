-- What the fields so far and those that are left come to.
use Rattle.std.proofs.Common.{◌≡◌, ◌+◌, ◌-◌, ◌*◌, drop}
use Rattle.columns.specs.Columns.{file_width}
use Rattle.request.specs.Groups.{no_group, group_from}
use Rattle.request.proofs.read_group.Given as goal

abbrev pub invariant-loop-i : goal.invariant-loop-i
invariant-loop-i l = group_from l.count (drop l.start l.line) no_group ≡ group_from (l.count - l.i) (drop (l.start + file_width * l.i) l.line) l.g
