-- Each call of `walk_back` has one step less to go. Assumes nothing.
use Rattle.digraph.proofs.loops.+walk_back.Given as goal

abbrev pub decreases-walk_back : goal.decreases-walk_back
decreases-walk_back l = l.n
