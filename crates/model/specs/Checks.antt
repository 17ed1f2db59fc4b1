-- The causes 6 to 10 over a question, each as the test that it does NOT apply (01, "Causes of refusal";
-- docs/READINGS.md, R14 to R22).
--   counts_fit q          6: blocks, relation rows, conditions, output columns, aggregates of one block
--   placed q j           the parent of block j is an earlier block (255 for block 0), and its level at most 4
--   element_there q j e   element e of block j names a variable from 0 to 15, a child and a column of it
--   block_there d q j     7 in block j; all_there d q: in every block
--   element_bound q j e   a variable stands in a relation row of block j and in no other block, a fixed one in an
--                        ancestor
--   block_bound q j       8 in block j; all_bound q: in every block
--   ratio_by f r          function f of a column gives a ratio, where r tells whether the column is one
--   ratio_at n q b c      output column c of block b is a ratio, where n levels are left
--   sums_whole q e        9: element e is not the sum or ave of a ratio column
--   constant_fits e       10: a constant is from -10^15 to 10^15
use Rattle.std.specs.Prelude.{ℕ, zero, suc, Bool, true, false, ◌&&◌, ◌||◌, not, List, eqb, ltb, leb, ℤ, nat_abs, length, get_or}
use Rattle.model.specs.Lists.{all, any, filter, range, concat_map}
use Rattle.model.specs.Question.{Element, empty, constant, variable, fixed, aggregate}
use Rattle.model.specs.Question.{Block, block_at}
use Rattle.model.specs.Question.{names, elements}
use Rattle.model.specs.Scope.{levels, owns, within, level_of}
use Rattle.model.specs.Tables.{tables, columns}

-- 6
abbrev pub from_to : ℕ → ℕ → ℕ → Bool
from_to a b n = leb a n && leb n b

unfoldable pub counts_fit : List Block → Bool
counts_fit q =
    from_to 1 5 (length q)
    && all (λ b. leb (length b.relations) 3 && leb (length b.conditions) 8 && from_to 1 4 (length b.outputs)) q
    && all (λ k. leb (length (filter (names k) (concat_map elements q))) 3) (range 0 256)

-- 7
unfoldable pub placed : List Block → ℕ → Bool
placed q zero = eqb (block_at q 0).parent 255
placed q (suc j) = ltb (block_at q (suc j)).parent (suc j) && leb (level_of 5 q (suc j)) levels

abbrev pub element_there : List Block → ℕ → Element → Bool
element_there q j empty = true
element_there q j (constant x) = true
element_there q j (variable v) = ltb v 16
element_there q j (fixed v) = ltb v 16
element_there q j (aggregate f k c) =
    ltb k (length q) && ltb 0 k && eqb (block_at q k).parent j && ltb c (length (block_at q k).outputs)

unfoldable pub block_there : List ℤ → List Block → ℕ → Bool
block_there d q j =
    placed q j
    && all (λ w. ltb w.table (tables d) && eqb (length w.entries) (columns d w.table)) (block_at q j).relations
    && all (element_there q j) (elements (block_at q j))

unfoldable pub all_there : List ℤ → List Block → Bool
all_there d q = all (block_there d q) (range 0 (length q))

-- 8
abbrev pub element_bound : List Block → ℕ → Element → Bool
element_bound q j empty = true
element_bound q j (constant x) = true
element_bound q j (variable v) =
    owns v (block_at q j) && all (λ i. eqb i j || not (owns v (block_at q i))) (range 0 (length q))
element_bound q j (fixed v) =
    any (λ a. within 5 q a (block_at q j).parent && owns v (block_at q a)) (range 0 (length q))
element_bound q j (aggregate f k c) = true

unfoldable pub block_bound : List Block → ℕ → Bool
block_bound q j = all (element_bound q j) (elements (block_at q j))

unfoldable pub all_bound : List Block → Bool
all_bound q = all (block_bound q) (range 0 (length q))

-- 9
abbrev pub ratio_by : ℕ → Bool → Bool
ratio_by zero r = false
ratio_by (suc zero) r = false
ratio_by (suc (suc zero)) r = r
ratio_by (suc (suc (suc zero))) r = r
ratio_by (suc (suc (suc (suc f)))) r = true

abbrev pub ratio_element : (ℕ → ℕ → Bool) → Element → Bool
ratio_element g empty = false
ratio_element g (constant x) = false
ratio_element g (variable v) = false
ratio_element g (fixed v) = false
ratio_element g (aggregate f k c) = ratio_by f (g k c)

unfoldable pub ratio_at : ℕ → List Block → ℕ → ℕ → Bool
ratio_at zero q b c = false
ratio_at (suc n) q b c = ratio_element (λ k x. ratio_at n q k x) (get_or (block_at q b).outputs c empty)

abbrev pub sums_whole : List Block → Element → Bool
sums_whole q empty = true
sums_whole q (constant x) = true
sums_whole q (variable v) = true
sums_whole q (fixed v) = true
sums_whole q (aggregate f k c) = not (eqb f 1 || eqb f 4) || not (ratio_at levels q k c)

-- 10
abbrev pub constant_fits : Element → Bool
constant_fits empty = true
constant_fits (constant x) = leb (nat_abs x) 1000000000000000
constant_fits (variable v) = true
constant_fits (fixed v) = true
constant_fits (aggregate f k c) = true
