-- `gcd` ends: the second number falls to the remainder.
use Rattle.value.proofs.+gcd.Given as goal

abbrev pub decreases-gcd : goal.decreases-gcd
decreases-gcd l = l.b
