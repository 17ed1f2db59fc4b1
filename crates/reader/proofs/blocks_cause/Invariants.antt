use Rattle.reader.proofs.BlockLoops.{Walked}
use Rattle.reader.proofs.blocks_cause.Given as goal

abbrev pub invariant-loop-j : goal.invariant-loop-j
invariant-loop-j l = Walked l.words l.s l.q l.twice l.n l.j l.least
