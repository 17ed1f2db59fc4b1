-- The mask has what the elements passed hold, and with those to come that is what all of them hold.
use Rattle.syntax.specs.Walks.{to_come}
use Rattle.scope.specs.Gathering.{holds_at, elements_hold}
use Rattle.scope.proofs.GatheringLaws.{Gathered, held}
use Rattle.scope.proofs.Kind.held_in_elements.Given as goal

abbrev pub invariant-loop-i : goal.invariant-loop-i
invariant-loop-i l =
    Gathered (elements_hold l.self l.s l.n l.at) l.mask (held (holds_at l.self l.s) (to_come l.i-iterator))
