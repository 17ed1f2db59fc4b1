-- What is left, asked for after what is passed, gives the whole.
use Prim.Native.Nat.{◌<◌}
use lib.ListN.{length}
use mathlib.Core.List.{map}
use mathlib.Core.Path.{◌≡◌}
use Rattle.model.specs.Lists.{All}
use Rattle.syntax.specs.Described.{element_at, elements_at}
use Rattle.syntax.specs.Walks.{to_come}
use Rattle.filing.specs.Asks.{ask_all}
use Rattle.filing.proofs.walk.ask_elements.Given as goal

abbrev pub invariant-loop-i : goal.invariant-loop-i
invariant-loop-i l =
    All (λ j. j < length l.s) (to_come l.i-iterator)
    × (ask_all l.y (map (element_at l.s) (to_come l.i-iterator)) ≡ ask_all l.initial.y (elements_at l.s l.n l.at))
