-- The mask has what the conditions passed hold, and with those to come that is what all of them hold.
use Prim.Native.Nat.{◌<◌}
use lib.ListN.{length}
use Rattle.model.specs.Lists.{All}
use Rattle.syntax.specs.Walks.{to_come}
use Rattle.scope.specs.Gathering.{condition_holds, conditions_hold}
use Rattle.scope.proofs.GatheringLaws.{Gathered, held}
use Rattle.scope.proofs.Kind.held_in_conditions.Given as goal

abbrev pub invariant-loop-i : goal.invariant-loop-i
invariant-loop-i l =
    All (λ j. j < length l.s) (to_come l.i-iterator) × Gathered (conditions_hold l.self l.s l.n l.at) l.mask (held (condition_holds l.self l.s) (to_come l.i-iterator))
