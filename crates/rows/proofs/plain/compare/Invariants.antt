-- The columns before c are equal.
use Rattle.rows.proofs.CompareLoop.{Alike}
use Rattle.rows.proofs.plain.compare.Given as goal

abbrev pub invariant-loop-c : goal.invariant-loop-c
invariant-loop-c l = Alike l.n l.row l.words l.at l.c
