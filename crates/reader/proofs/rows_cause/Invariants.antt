-- The least so far, with the relation rows to come, is that of all of them.
use Prim.Native.Nat.{◌<◌}
use mathlib.Core.Path.{◌≡◌}
use lib.ListN.{length}
use Rattle.model.specs.Lists.{All}
use Rattle.reader.specs.Causes.{lowest}
use Rattle.reader.specs.Walk.{rows_cause}
use Rattle.reader.proofs.WalkLaws.{row_least}
use Rattle.syntax.specs.Walks.{to_come}
use Rattle.reader.proofs.rows_cause.Given as goal

abbrev pub invariant-loop-i : goal.invariant-loop-i
invariant-loop-i l =
    All (λ j. j < length l.s) (to_come l.i-iterator)
    × (lowest (row_least l.words l.s l.x) (to_come l.i-iterator) l.least ≡ rows_cause l.words l.s l.x l.n l.at 11)
