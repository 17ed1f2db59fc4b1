use Prim.Native.Nat.{◌-◌, ◌≤◌}
use mathlib.Core.Path.{◌≡◌}
use lib.ListN.{length}
use Rattle.syntax.specs.Places.{run}
use Rattle.syntax.proofs.Record.run.Given as goal

abbrev pub invariant-loop-self : goal.invariant-loop-self
invariant-loop-self l = (l.n ≤ l.i) × (l.i ≤ length l.s) × (run (length l.s - l.n) l.self l.s l.n l.i ≡ run (length l.s) l.self l.s 0 l.at)

abbrev pub decreases-loop-self : goal.decreases-loop-self
decreases-loop-self l = length l.s - l.i
