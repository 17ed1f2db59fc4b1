-- Which variables belong to a block, and which it uses from outside (01, "A variable belongs to the one block where
-- it stands as kind 2; a fixed variable is a variable of a proper ancestor").
--   owns v b           variable v belongs to block b: it stands there in a relation row
--   refers v b         v stands in block b as a fixed variable
--   within n q k j     block j is block k, or at most n levels below it
--   subtree q k        block k and those below it
--   owned_in q k v      some block of the subtree owns v; referred_in q k v: refers to v
--   outside q k v      v is used in block k or below it and belongs to none of these
--   outsiders q k      all such variables
--   level_of n q j      the level of block j, block 0 being at level 1, in at most n steps
use Rattle.std.specs.Prelude.{ℕ, zero, suc, Bool, ◌&&◌, ◌||◌, not, List, eqb, length}
use Rattle.model.specs.Lists.{any, filter, range}
use Rattle.model.specs.Question.{Block, block_at, is_var, is_fixed, in_rows, in_conditions}

abbrev pub levels : ℕ
levels = 4

unfoldable pub owns : ℕ → Block → Bool
owns v b = in_rows (is_var v) b.relations

unfoldable pub refers : ℕ → Block → Bool
refers v b =
    in_rows (is_fixed v) b.relations || (in_conditions (is_fixed v) b.conditions || any (is_fixed v) b.outputs)

unfoldable pub within : ℕ → List Block → ℕ → ℕ → Bool
within zero q k j = eqb j k
within (suc n) q k j = eqb j k || within n q k (block_at q j).parent

unfoldable pub subtree : List Block → ℕ → List ℕ
subtree q k = filter (within levels q k) (range 0 (length q))

unfoldable pub owned_in : List Block → ℕ → ℕ → Bool
owned_in q k v = any (λ j. owns v (block_at q j)) (subtree q k)

unfoldable pub referred_in : List Block → ℕ → ℕ → Bool
referred_in q k v = any (λ j. refers v (block_at q j)) (subtree q k)

unfoldable pub outside : List Block → ℕ → ℕ → Bool
outside q k v = referred_in q k v && not (owned_in q k v)

unfoldable pub outsiders : List Block → ℕ → List ℕ
outsiders q k = filter (outside q k) (range 0 16)

unfoldable pub level_of : ℕ → List Block → ℕ → ℕ
level_of zero q j = 1
level_of (suc n) q zero = 1
level_of (suc n) q (suc j) = suc (level_of n q (block_at q (suc j)).parent)
