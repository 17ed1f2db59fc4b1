-- After r turns the first r rows are put.
use Rattle.job.specs.Texts.{Wrote, lines_text}
use Rattle.job.proofs.put.lines.Given as goal

abbrev pub invariant-loop-r : goal.invariant-loop-r
invariant-loop-r l = Wrote l.at (lines_text l.words l.columns l.r) l.initial.out l.out l.next
