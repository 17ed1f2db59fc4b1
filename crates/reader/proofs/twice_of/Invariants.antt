use Rattle.reader.proofs.MaskLoops.{Seen}
use Rattle.syntax.specs.Described.{blocks_in}
use Rattle.reader.proofs.twice_of.Given as goal

abbrev pub invariant-loop-k : goal.invariant-loop-k
invariant-loop-k l = Seen (blocks_in l.s l.q) l.n l.k l.seen l.twice
