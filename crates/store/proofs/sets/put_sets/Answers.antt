use Rattle.store.proofs.Laws.{rows-put}
use Rattle.store.proofs.sets.put_sets.Goals as goal

pub returns : goal.returns
returns c = rows-put c.args.q c.args.i c.args.sets.now c.put_three.new.sets c.put_three-2.new.sets c.requires c.put_three.ensures c.put_three-2.ensures
