-- The letters from the first byte on.
use Rattle.job.proofs.WroteLaws.{printed-bytes, printed-count}
use Rattle.job.proofs.print_bad.Goals as goal

pub returns : goal.returns
returns c = let w = c.letters.ensures in record { bytes = printed-bytes w; count = printed-count w }
