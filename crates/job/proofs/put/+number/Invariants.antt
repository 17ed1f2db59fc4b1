-- `put::number` writes a number's digits: the number falls to its tenth.
use Rattle.job.proofs.put.+number.Given as goal

abbrev pub decreases-number : goal.decreases-number
decreases-number l = l.n
