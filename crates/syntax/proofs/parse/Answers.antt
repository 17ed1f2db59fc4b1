use mathlib.Core.Path.{◌∙◌}
use Rattle.syntax.proofs.Whole.{formed-is}
use Rattle.syntax.proofs.parse.Goals as goal

pub returns : goal.returns
returns c = record { formed = c.well_formed-formed.ensures ∙ formed-is c.args.s.now; question = c.read_blocks-q.ensures }
