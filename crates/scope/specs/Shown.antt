-- The variables that stand outside the relation rows of a block.
--   shown v b          variable v stands in a condition or in the output list of block b
use Rattle.std.specs.Prelude.{ℕ, Bool, ◌||◌}
use Rattle.model.specs.Lists.{any}
use Rattle.model.specs.Question.{Block, is_var, in_conditions}

unfoldable pub shown : ℕ → Block → Bool
shown v b = in_conditions (is_var v) b.conditions || any (is_var v) b.outputs
