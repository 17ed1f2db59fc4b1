use mathlib.Core.Bool.{cond}
use mathlib.Core.Path.{sym, ap, ◌∙◌}
use Rattle.reader.proofs.LeafLaws.{large_is}
use Rattle.reader.proofs.constant_cause.Goals as goal

pub returns-then-a : goal.returns-then-a
returns-then-a c = sym (ap (λ t. cond t 10 11) c.if-a.true) ∙ large_is c.args.a c.ranges.a.fits

pub returns-else-a : goal.returns-else-a
returns-else-a c = sym (ap (λ t. cond t 10 11) c.if-a.false) ∙ large_is c.args.a c.ranges.a.fits
