-- What the causes 5 to 8 leave of a question: what the laws need.
use Prim.Native.Nat.{ℕ, ◌<◌, ◌≤◌}
use mathlib.Core.Bool.{not, ◌||◌}
use mathlib.Core.List.{List}
use mathlib.Core.Path.{◌≡◌}
use lib.Dec.{T}
use lib.ListN.{length}
use Rattle.model.specs.Lists.{any}
use Rattle.model.specs.Question.{Block, block_at, is_aggregate, names_in, is_var, in_rows, in_conditions}
use Rattle.model.specs.Scope.{level_of, owns, refers, within}

pub record Sound (q : List Block) : Type 0 where
  pub few : length q ≤ 5
  pub root : (block_at q 0).parent ≡ 255
  pub earlier : (j : ℕ) → 0 < j → j < length q → (block_at q j).parent < j
  pub once : (v i j : ℕ) → i < length q → j < length q → T (owns v (block_at q i)) → T (owns v (block_at q j)) → i ≡ j
  pub rows : (j : ℕ) → T (not (in_rows is_aggregate (block_at q j).relations))
  pub used : (v j : ℕ) → T (in_conditions (is_var v) (block_at q j).conditions || any (is_var v) (block_at q j).outputs)
      → T (owns v (block_at q j))
  pub child : (c j : ℕ) → j < length q → T (names_in c (block_at q j)) → (c < length q) × ((block_at q c).parent ≡ j)
  pub small : (v j : ℕ) → T (refers v (block_at q j)) → v < 16
  pub above : (v j : ℕ) → j < length q → T (refers v (block_at q j))
      → (a : ℕ) × (a < length q) × T (within 5 q a (block_at q j).parent) × T (owns v (block_at q a))
  pub depth : (j : ℕ) → j < length q → level_of 5 q j ≤ 4
