-- The number and the byte.
use Rattle.job.proofs.WroteLaws.{wrote_then}
use Rattle.job.proofs.put.figure.Goals as goal

pub returns : goal.returns
returns c = wrote_then c.number-next.ensures
    c.byte.ensures
