-- `column::sum_column` meets its contract: `Summing` holds before each turn. Assumes nothing.
use Rattle.aggregates.proofs.SumLoop.{Summing}
use Rattle.aggregates.proofs.column.sum_column.Given as goal

abbrev pub invariant-loop-r : goal.invariant-loop-r
invariant-loop-r l = Summing l.n l.words l.c l.count l.t l.j l.r
