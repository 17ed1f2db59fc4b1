use Rattle.std.proofs.Common.{arith}
use Rattle.job.proofs.WroteLaws.{wrote_none}
use Rattle.job.proofs.RowLaws.{line_none, line-more, line-end}
use Rattle.job.proofs.put.line.Goals as goal

pub loop-j-init : goal.loop-j-init
loop-j-init c = let a = c.args in line_none a.words.now a.p (wrote_none a.at a.out.now c.requires.0)

pub loop-j-preserved : goal.loop-j-preserved
loop-j-preserved c = line-more c.args.words.now c.args.p c.loop-j.j c.loop-j.invariant c.field-next.ensures

pub returns : goal.returns
returns c =
    let a = c.args in
    line-end a.words.now a.p c.loop-j.j c.loop-j.invariant a.columns (omega arith) c.byte.ensures
