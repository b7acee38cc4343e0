use Rattle.store.proofs.Laws.{sets_more}
use Rattle.store.proofs.sets.take_sets.Goals as goal

pub loop-i-preserved : goal.loop-i-preserved
loop-i-preserved c = sets_more c.args.b c.loop-i.i c.loop-i.sets c.put_sets.new.sets c.loop-i-test.true c.put_sets.ensures c.loop-i.invariant
