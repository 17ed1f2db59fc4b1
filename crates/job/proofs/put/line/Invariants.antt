-- After j turns the first j fields are put.
use Rattle.job.specs.Texts.{Wrote, fields_text}
use Rattle.job.proofs.put.line.Given as goal

abbrev pub invariant-loop-j : goal.invariant-loop-j
invariant-loop-j l = Wrote l.at (fields_text l.words l.p l.j) l.initial.out l.out l.next
