-- What the description of a block tells (01, "List of forms by place": a struct with its parent, level and record
-- places), and what an evaluation needs besides, so that it is computed once.
--   Outlined bs q k o    description o tells of block k of the question that the bytes and the places q hold:
--     the places         of its records, and its parent
--     the level          block 0 being at level 1
--     named              the blocks that its aggregates name, as a set
--     live               the places of its relation rows that are not dropped: their tables, their entries
--     few, three         they are at most three, in an array of three
use Rattle.std.specs.Prelude.{ℕ, ◌≤◌, List, ◌≡◌, length, take}
use Rattle.model.specs.Matching.{live}
use Rattle.model.specs.Question.{block_at, names_in}
use Rattle.model.specs.Scope.{level_of}
use Rattle.relations.specs.Rows.{most, rows_in}
use Rattle.scope.specs.Masks.{mask_of}
use Rattle.syntax.specs.Described.{described, blocks_in}
use Rattle.syntax.specs.declared.Question.{Question}
use Rattle.outline.specs.declared.Outline.{Outline}

pub record Outlined (bs : List ℕ) (q : Question) (k : ℕ) (o : Outline) : Type 0 where
  pub places-are : described bs o.places ≡ block_at (blocks_in bs q) k
  pub level-is : o.level ≡ level_of 5 (blocks_in bs q) k
  pub named-are : o.named ≡ mask_of (λ c. names_in c (block_at (blocks_in bs q) k))
  pub live-are : rows_in bs o.live ≡ take most (live (block_at (blocks_in bs q) k))
  pub few : o.live.count ≤ 3
  pub three : length o.live.places ≡ 3
