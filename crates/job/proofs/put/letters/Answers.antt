use Rattle.std.proofs.Common.{arith}
use Rattle.job.proofs.WroteLaws.{letters-more}
use Rattle.job.proofs.put.letters.Goals as goal

pub loop-b-preserved : goal.loop-b-preserved
loop-b-preserved c =
    letters-more c.loop-b.b-index c.args.t.now c.loop-b.invariant (omega arith) c.byte-next.ensures
