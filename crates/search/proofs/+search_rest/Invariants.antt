-- Each call of `search_rest` leaves one program less. Assumes nothing.
use Rattle.search.proofs.+search_rest.Given as goal

abbrev pub decreases-search_rest : goal.decreases-search_rest
decreases-search_rest l = l.n
