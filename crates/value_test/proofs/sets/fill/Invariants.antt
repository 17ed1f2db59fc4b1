-- The number drawn last is in range, and no more rows are new than are drawn.
use Rattle.std.proofs.Common.{◌<◌, ◌≤◌}
use Rattle.value_test.proofs.sets.fill.Given as goal

abbrev pub invariant-loop : goal.invariant-loop
invariant-loop g l = (l.count ≤ l.counter) × (l.s.x < 2147483648)
