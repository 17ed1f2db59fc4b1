-- `column::extreme` meets its contract: `Choosing` holds before each turn. Assumes nothing.
use Rattle.aggregates.proofs.ExtremeLoop.{Choosing}
use Rattle.aggregates.proofs.column.extreme.Given as goal

abbrev pub invariant-loop-r : goal.invariant-loop-r
invariant-loop-r l = Choosing l.n l.words l.c l.count l.greatest l.best l.j l.r
