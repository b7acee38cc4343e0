use Rattle.std.proofs.Common.{rules}
use Rattle.store.proofs.Laws.{three-put}
use Rattle.store.proofs.sets.put_three.Goals as goal

pub returns : goal.returns
returns c = rw (c.put_set-3.ensures.row, c.put_set-2.ensures.row, c.put_set.ensures.row)
    (three-put c.args.k c.args.x c.args.y c.args.z c.args.sets.now _ _ _ c.requires c.sized.ensures
    c.put_set.ensures.value c.put_set-2.ensures.value c.put_set-3.ensures.value
    (search rules) (search rules) (search rules))
