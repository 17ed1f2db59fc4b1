-- `ratio` goes down a level at each min and max, so the levels left fall.
use Rattle.scope.proofs.+ratio.Given as goal

abbrev pub decreases-ratio : goal.decreases-ratio
decreases-ratio l = l.levels
