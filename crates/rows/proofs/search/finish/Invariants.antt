-- What is left between lo and hi gives what the whole search gives; hi - lo falls.
use Prim.Native.Nat.{◌-◌, ◌≤◌}
use mathlib.Core.Path.{◌≡◌}
use Rattle.rows.specs.Insertion.{at_place, bisect}
use Rattle.rows.proofs.search.finish.Given as goal

abbrev pub invariant-loop-lo : goal.invariant-loop-lo
invariant-loop-lo l =
    (l.lo ≤ l.hi) × (l.hi ≤ l.to)
    × (bisect (at_place l.n l.row l.words) (l.hi - l.lo) l.lo l.hi
    ≡ bisect (at_place l.n l.row l.words) (l.to - l.from) l.from l.to)

abbrev pub decreases-loop-lo : goal.decreases-loop-lo
decreases-loop-lo l = l.hi - l.lo
