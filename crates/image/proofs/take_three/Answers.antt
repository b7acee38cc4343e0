use Rattle.image.specs.Image.{set_section}
use Rattle.image.proofs.Stored.{three-taken}
use Rattle.image.proofs.take_three.Goals as goal

pub returns : goal.returns
returns c =
    let a = c.args in
    three-taken a.k (set_section.read a.a.now) (set_section.read a.b.now) (set_section.read a.c.now) c.requires.k_bound c.sized.ensures
    (record { puts = c.take_set.ensures.sets_after; reads = c.take_set.ensures.s_value })
    (record { puts = c.take_set-2.ensures.sets_after; reads = c.take_set-2.ensures.s_value })
    (record { puts = c.take_set-3.ensures.sets_after; reads = c.take_set-3.ensures.s_value })
