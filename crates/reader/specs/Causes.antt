-- The lowest cause from 7 to 10 that applies, gathered in one walk: 11 stands for none (01, "Causes of refusal").
--   cause_by a b c d          the first of the tests of 7, 8, 9 and 10 that fails, 11 where none does
--   lowest f xs m            the least of m and what f gives at the members of xs
--   Masks                    of one block: its own variables, those of its ancestors, those that two blocks have
--   bound_by x e              a variable is the block's own and no other's, a fixed one an ancestor's, by the masks
--   owned_before q i v        some block before block i owns variable v
--   twice_below q n v         two of the first n blocks own v
--   ancestor n q p v         block p, or one of the n above it, owns v
--   cause_of q j x e          the lowest cause of element e of block j in question q
--   row_cause d w             7 where the table of relation row w is absent or has another number of columns
--   rows_lowest d q j x ws m  the least over relation rows: that of the row itself, and those of its entries
--   block_lowest d q j x m    the least over block j: its place, its relation rows, its other elements
use Rattle.std.specs.Prelude.{ℕ, zero, suc, min, Bool, true, ◌&&◌, ◌||◌, not, cond, List, [], ◌∷◌, eqb, ltb, ℤ, length}
use Rattle.model.specs.Checks.{placed, element_there, sums_whole, constant_fits}
use Rattle.model.specs.Lists.{any, range}
use Rattle.model.specs.Question.{Element, empty, constant, variable, fixed, aggregate, RelationRow, Block, block_at}
use Rattle.model.specs.Question.{other_elements}
use Rattle.model.specs.Scope.{owns}
use Rattle.model.specs.Tables.{tables, columns}
use Rattle.scope.specs.Masks.{has_bit}

abbrev pub cause_by : (a b c d : Bool) → ℕ
cause_by a b c d = cond a (cond b (cond c (cond d 11 10) 9) 8) 7

module _ {A : Type 0} (f : A → ℕ) where
  unfoldable pub lowest : List A → ℕ → ℕ
  lowest [] m = m
  lowest (x ∷ xs) m = lowest xs (min m (f x))

pub record Masks : Type 0 where
  pub own : ℕ
  pub above : ℕ
  pub twice : ℕ

abbrev pub bound_by : Masks → Element → Bool
bound_by x empty = true
bound_by x (constant k) = true
bound_by x (variable v) = has_bit x.own v && not (has_bit x.twice v)
bound_by x (fixed v) = has_bit x.above v
bound_by x (aggregate f k c) = true

unfoldable pub cause_of : List Block → ℕ → Masks → Element → ℕ
cause_of q j x e = cause_by (element_there q j e) (bound_by x e) (sums_whole q e) (constant_fits e)

abbrev pub row_there : List ℤ → RelationRow → Bool
row_there d w = ltb w.table (tables d) && eqb (length w.entries) (columns d w.table)

unfoldable pub row_cause : List ℤ → RelationRow → ℕ
row_cause d w = cond (row_there d w) 11 7

unfoldable pub place_cause : List Block → ℕ → ℕ
place_cause q j = cond (placed q j) 11 7

module _ (d : List ℤ) (q : List Block) (j : ℕ) (x : Masks) where
  unfoldable pub rows_lowest : List RelationRow → ℕ → ℕ
  rows_lowest [] m = m
  rows_lowest (w ∷ ws) m = rows_lowest ws (lowest (cause_of q j x) w.entries (min m (row_cause d w)))

  unfoldable pub block_lowest : ℕ → ℕ
  block_lowest m =
      lowest (cause_of q j x) (other_elements (block_at q j))
      (rows_lowest (block_at q j).relations (min m (place_cause q j)))

-- the blocks from j on, n of them; xs gives the masks of each
module _ (d : List ℤ) (q : List Block) (xs : ℕ → Masks) where
  unfoldable pub blocks_lowest : (n j m : ℕ) → ℕ
  blocks_lowest zero j m = m
  blocks_lowest (suc n) j m = blocks_lowest n (suc j) (block_lowest d q j (xs j) m)

-- what the masks hold
abbrev pub owned_before : List Block → ℕ → ℕ → Bool
owned_before q i v = any (λ k. owns v (block_at q k)) (range 0 i)

unfoldable pub twice_below : List Block → ℕ → ℕ → Bool
twice_below q n v = any (λ i. owns v (block_at q i) && owned_before q i v) (range 0 n)

unfoldable pub ancestor : ℕ → List Block → ℕ → ℕ → Bool
ancestor zero q p v = owns v (block_at q p)
ancestor (suc n) q p v = owns v (block_at q p) || ancestor n q (block_at q p).parent v
