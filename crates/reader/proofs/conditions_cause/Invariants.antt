-- The least so far, with the conditions to come, is that of all of them.
use Prim.Native.Nat.{◌+◌, ◌<◌}
use mathlib.Core.Path.{◌≡◌}
use lib.ListN.{length}
use Rattle.model.specs.Lists.{All}
use Rattle.reader.specs.Causes.{lowest}
use Rattle.reader.specs.Walk.{elements_cause, conditions_cause}
use Rattle.syntax.specs.Walks.{to_come}
use Rattle.reader.proofs.conditions_cause.Given as goal

abbrev pub invariant-loop-i : goal.invariant-loop-i
invariant-loop-i l =
    All (λ j. j < length l.s) (to_come l.i-iterator)
    × (lowest (λ j. elements_cause l.s l.x 2 (j + 3) 11) (to_come l.i-iterator) l.least ≡ conditions_cause l.s l.x l.n l.at 11)
