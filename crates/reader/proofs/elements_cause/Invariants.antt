-- The least so far, with the elements to come, is that of all of them.
use mathlib.Core.Path.{◌≡◌}
use Rattle.reader.specs.Causes.{lowest}
use Rattle.reader.specs.Walk.{element_cause, elements_cause}
use Rattle.syntax.specs.Places.{item_at}
use Rattle.syntax.specs.Walks.{to_come}
use Rattle.reader.proofs.elements_cause.Given as goal

abbrev pub invariant-loop-i : goal.invariant-loop-i
invariant-loop-i l =
    lowest (λ j. element_cause l.s l.x (item_at l.s j)) (to_come l.i-iterator) l.least ≡ elements_cause l.s l.x l.n l.at 11
