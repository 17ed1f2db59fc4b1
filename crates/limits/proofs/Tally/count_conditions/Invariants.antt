-- `limits::Tally::count_conditions` meets its contract. The loop's invariant: the conditions left, counted after those passed,
-- give the whole.
use mathlib.Core.List.{map}
use mathlib.Core.Path.{◌≡◌}
use Prim.Native.Nat.{◌<◌}
use lib.ListN.{length}
use Rattle.model.specs.Lists.{All, concat_map}
use Rattle.syntax.specs.Described.{condition_at, conditions_at}
use Rattle.syntax.specs.Walks.{to_come}
use Rattle.limits.specs.Tally.{tally_all, sides}
use Rattle.limits.proofs.Tally.count_conditions.Given as goal

abbrev pub invariant-loop-i : goal.invariant-loop-i
invariant-loop-i l =
    All (λ j. j < length l.s) (to_come l.i-iterator)
    × (tally_all l.self (concat_map sides (map (condition_at l.s) (to_come l.i-iterator)))
    ≡ tally_all l.initial.self (concat_map sides (conditions_at l.s l.n l.at)))
