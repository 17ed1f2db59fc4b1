-- The letters and the number.
use Rattle.job.proofs.WroteLaws.{wrote_then}
use Rattle.job.proofs.RowLaws.{no_is}
use Rattle.job.proofs.put.no_line.Goals as goal

pub returns : goal.returns
returns c = no_is c.args.n (rw c.from.ensures at (wrote_then c.letters-first.ensures c.figure.ensures))
