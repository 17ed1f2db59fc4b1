-- The walk over a question's elements by place that takes the least cause from 7 to 10 (11: none), step by step. It
-- serves the proofs: what `read` promises is stated by the model alone.
--   Context                 what a block's elements are held to: the question's descriptions, the block, its masks
--   element_cause bs x e     the cause of one element, by its kind
--   elements_cause bs x n i m   the least of m and the causes of n elements from place i on
--   row_cause_at d bs i       7 where the relation row at place i names an absent table or has not its columns
--   rows_cause d bs x n i m  the least of m and the causes of n relation rows from place i on, none past the end
--   conditions_cause bs x n i m   the same of n conditions
--   block_cause d bs x b m   the least of m and the causes of a block's elements
use Rattle.std.specs.Prelude.{ℕ, zero, suc, ◌+◌, min, Bool, ◌&&◌, cond, List, eqb, ltb, ℤ, length}
use Rattle.reader.specs.Causes.{ancestor, place_cause}
use Rattle.reader.specs.Leaves.{constant_cause, variable_cause, fixed_cause, aggregate_cause, child_there, block_of}
use Rattle.reader.specs.declared.Context.{Context}
use Rattle.model.specs.Checks.{ratio_at}
use Rattle.model.specs.Question.{block_at}
use Rattle.model.specs.Scope.{owns}
use Rattle.model.specs.Tables.{tables, columns}
use Rattle.scope.specs.Masks.{mask_of}
use Rattle.syntax.specs.Described.{described, blocks_in}
use Rattle.syntax.specs.Places.{byte_at, item_at, record_end, condition_end}
use Rattle.syntax.specs.declared.Block.{Block}
use Rattle.syntax.specs.declared.Item.{Item}
use Rattle.syntax.specs.declared.Question.{Question}
use Rattle.syntax.specs.declared.Record.TheVariants.{Rw}

abbrev pub cause_by_kind : (k constant variable fixed aggregate : ℕ) → ℕ
cause_by_kind k c v f a = cond (eqb k 0) 11 (cond (eqb k 1) c (cond (eqb k 2) v (cond (eqb k 3) f a)))

unfoldable pub element_cause : List ℕ → Context → Item → ℕ
element_cause bs x e =
    cause_by_kind e.kind (constant_cause e.argument) (variable_cause x.own x.twice e.argument)
    (fixed_cause x.above e.argument)
    (aggregate_cause (child_there x.question x.block e.block e.column) e.function
    (ratio_at 4 (blocks_in bs x.question) e.block e.column))

unfoldable pub elements_cause : List ℕ → Context → (n i m : ℕ) → ℕ
elements_cause bs x zero i m = m
elements_cause bs x (suc n) i m = elements_cause bs x n (i + 9) (min m (element_cause bs x (item_at bs i)))

unfoldable pub row_cause_at : List ℤ → List ℕ → ℕ → ℕ
row_cause_at d bs i =
    cond (ltb (byte_at bs (i + 2)) (tables d) && eqb (byte_at bs (i + 3)) (columns d (byte_at bs (i + 2)))) 11 7

unfoldable pub rows_cause : List ℤ → List ℕ → Context → (n i m : ℕ) → ℕ
rows_cause d bs x zero i m = m
rows_cause d bs x (suc n) i m =
    cond (ltb i (length bs))
    (rows_cause d bs x n (record_end Rw bs i)
    (elements_cause bs x (byte_at bs (i + 3)) (i + 4) (min m (row_cause_at d bs i)))) m

unfoldable pub conditions_cause : List ℕ → Context → (n i m : ℕ) → ℕ
conditions_cause bs x zero i m = m
conditions_cause bs x (suc n) i m = conditions_cause bs x n (condition_end bs i) (elements_cause bs x 2 (i + 3) m)

unfoldable pub block_cause : List ℤ → List ℕ → Context → Block → ℕ → ℕ
block_cause d bs x b m =
    elements_cause bs x b.outputs b.outputs_at
    (conditions_cause bs x b.conditions b.conditions_at (rows_cause d bs x b.rows b.rows_at m))

-- block j with its masks, where `two` has the variables that two blocks own
abbrev pub context_at : List ℕ → Question → (two j : ℕ) → Context
context_at bs q two j =
    record {
      question = q;
      block = j;
      own = mask_of (λ v. owns v (described bs (block_of q j)));
      above = mask_of (ancestor 5 (blocks_in bs q) (block_at (blocks_in bs q) j).parent);
      twice = two;
    }

unfoldable pub cause_at : List ℤ → List ℕ → Question → (two j m : ℕ) → ℕ
cause_at d bs q two j m =
    block_cause d bs (context_at bs q two j) (block_of q j) (min m (place_cause (blocks_in bs q) j))

-- n blocks from block j on
unfoldable pub blocks_cause : List ℤ → List ℕ → Question → (two n j m : ℕ) → ℕ
blocks_cause d bs q two zero j m = m
blocks_cause d bs q two (suc n) j m = blocks_cause d bs q two n (suc j) (cause_at d bs q two j m)

abbrev pub number_by : (formed within : Bool) → ℕ → ℕ
number_by formed within m = cond formed (cond within (cond (eqb m 11) 0 m) 6) 5
