-- The levels counted, with the levels from the block that is reached, are one more than the block's level.
use Prim.Native.Nat.{ℕ, ◌+◌, ◌-◌}
use mathlib.Core.List.{List}
use mathlib.Core.Path.{◌≡◌}
use Rattle.model.specs.Scope.{level_of}
use Rattle.syntax.specs.Described.{blocks_in}
use Rattle.scope.proofs.level.Given as goal

abbrev pub invariant-loop-n : goal.invariant-loop-n
invariant-loop-n l =
    (bs : List ℕ) → l.n + level_of (6 - l.n) (blocks_in bs l.q) l.at ≡ 1 + level_of 5 (blocks_in bs l.q) l.block
