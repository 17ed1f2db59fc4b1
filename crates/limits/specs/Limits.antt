-- The limits of 6 over a question that was read (01, "Causes of refusal", number 6).
--   names_of k es      how many of the elements are aggregates of block k
--   few_named es       at most three of the elements name one block number, 0 to 255, whether the block is there or not
--   others_in bs q     the elements of the conditions and of the output lists of the blocks kept in q, in order
--   within_in bs q     1 to 5 blocks, each within its counts, and at most three aggregates of one block number
use Rattle.std.specs.Prelude.{ℕ, Bool, ◌&&◌, List, leb, length}
use Rattle.model.specs.Checks.{from_to}
use Rattle.model.specs.Lists.{all, filter, range, concat_map}
use Rattle.model.specs.Question.{Element, names, other_elements}
use Rattle.syntax.specs.Described.{blocks_in}
use Rattle.syntax.specs.declared.Question.{Question}

abbrev pub names_of : ℕ → List Element → ℕ
names_of k es = length (filter (names k) es)

unfoldable pub few_named : List Element → Bool
few_named es = all (λ k. leb (names_of k es) 3) (range 0 256)

abbrev pub others_in : List ℕ → Question → List Element
others_in bs q = concat_map other_elements (blocks_in bs q)

unfoldable pub within_in : List ℕ → Question → Bool
within_in bs q = from_to 1 5 q.count && q.within && few_named (others_in bs q)
