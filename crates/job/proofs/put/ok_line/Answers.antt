-- The letters and the three numbers.
use Rattle.job.proofs.WroteLaws.{wrote_then}
use Rattle.job.proofs.RowLaws.{ok_is}
use Rattle.job.proofs.put.ok_line.Goals as goal

pub returns : goal.returns
returns c =
    let a = c.args in
    ok_is a.rows a.columns a.trials
    (wrote_then (wrote_then (wrote_then c.letters-first.ensures
    c.figure-second.ensures)
    c.figure-third.ensures) c.figure.ensures)
