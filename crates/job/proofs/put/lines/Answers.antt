use Rattle.std.proofs.Common.{arith}
use Rattle.job.proofs.WroteLaws.{wrote_none}
use Rattle.job.proofs.RowLaws.{lines_none, lines_more, lines_end}
use Rattle.job.proofs.put.lines.Goals as goal

pub loop-r-init : goal.loop-r-init
loop-r-init c = let a = c.args in lines_none a.words.now a.columns (wrote_none a.at a.out.now c.requires.0)

pub loop-r-preserved : goal.loop-r-preserved
loop-r-preserved c =
    let l = c.loop-r in lines_more c.args.words.now c.args.columns l.r l.invariant c.line-next.ensures

pub returns-then-next-out : goal.returns-then-next-out
returns-then-next-out c =
    let l = c.loop-r in
    lines_end c.args.words.now c.args.columns l.r l.invariant c.args.n (omega arith) (omega arith)
