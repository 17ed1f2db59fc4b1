-- The space and the value.
use Rattle.job.proofs.WroteLaws.{wrote_then}
use Rattle.job.proofs.put.field.Goals as goal

pub returns : goal.returns
returns c = wrote_then c.gap-next.ensures
    c.value.ensures
