-- After i turns the first i letters are put.
use Rattle.std.proofs.Common.{take}
use Rattle.job.specs.Texts.{Wrote}
use Rattle.job.proofs.put.letters.Given as goal

abbrev pub invariant-loop-b : goal.invariant-loop-b
invariant-loop-b l = Wrote l.at (take l.b-index l.t) l.initial.out l.out l.next
