-- `limits::Tally::count_elements` meets its contract. The loop's invariant: the elements left, counted after those passed,
-- give the whole.
use mathlib.Core.List.{map}
use mathlib.Core.Path.{◌≡◌}
use Prim.Native.Nat.{◌<◌}
use lib.ListN.{length}
use Rattle.model.specs.Lists.{All}
use Rattle.syntax.specs.Described.{element_at, elements_at}
use Rattle.syntax.specs.Walks.{to_come}
use Rattle.limits.specs.Tally.{tally_all}
use Rattle.limits.proofs.Tally.count_elements.Given as goal

abbrev pub invariant-loop-i : goal.invariant-loop-i
invariant-loop-i l =
    All (λ j. j < length l.s) (to_come l.i-iterator)
    × (tally_all l.self (map (element_at l.s) (to_come l.i-iterator)) ≡ tally_all l.initial.self (elements_at l.s l.n l.at))
