-- What is left, asked for after what is passed, gives the whole.
use Prim.Native.Nat.{◌<◌}
use lib.ListN.{length}
use mathlib.Core.List.{map}
use mathlib.Core.Path.{◌≡◌}
use Rattle.model.specs.Lists.{All, concat_map}
use Rattle.syntax.specs.Described.{condition_at, conditions_at}
use Rattle.syntax.specs.Walks.{to_come}
use Rattle.filing.specs.Asks.{ask_all, sides}
use Rattle.filing.proofs.walk.ask_conditions.Given as goal

abbrev pub invariant-loop-i : goal.invariant-loop-i
invariant-loop-i l =
    All (λ j. j < length l.s) (to_come l.i-iterator)
    × (ask_all l.y (concat_map sides (map (condition_at l.s) (to_come l.i-iterator)))
    ≡ ask_all l.initial.y (concat_map sides (conditions_at l.s l.n l.at)))
