-- The tables in the data slice (01, "Tables"): word 0 is the number of tables, then come the columns and the rows of
-- each, then the cells, table by table, row by row. No other definition knows where a cell lies.
--   word d i           word i of the slice, 0 past its end
--   nat_of x            a count word as a number, 0 where it is negative
--   tables d           the number of tables
--   columns d t        the number of columns of table t; rows d t: of rows
--   cells_before d t    how many cells the tables before table t have
--   table_at d t        the place of the first cell of table t
--   row_step d t        how far a cell lies behind the one above it; column_step d t: behind its left neighbour
--   cell d t r c       the value in row r, column c of table t
--   table_row d t r     row r of table t, its cells in order
--   table_rows d t      the rows of table t in order; an absent table has none
--   between a b x      word x is a count from a to b
--   laid_out d          cause 3 does not apply: counts, length and layout are right
--   in_range d          cause 4 does not apply: each cell is from -1,000,000 to 1,000,000
use Rattle.std.specs.Prelude.{ℕ, zero, suc, ◌+◌, ◌*◌, Bool, true, false, ◌&&◌, List, [], map, eqb, ltb, leb, ℤ, pos, negsuc, nat_abs, length, get_or, drop}
use Rattle.model.specs.Lists.{all, range}

abbrev pub word : List ℤ → ℕ → ℤ
word d i = get_or d i (pos 0)

abbrev pub nat_of : ℤ → ℕ
nat_of (pos n) = n
nat_of (negsuc n) = 0

unfoldable pub tables : List ℤ → ℕ
tables d = nat_of (word d 0)

unfoldable pub columns : List ℤ → ℕ → ℕ
columns d t = nat_of (word d (1 + 2 * t))

unfoldable pub rows : List ℤ → ℕ → ℕ
rows d t = nat_of (word d (2 + 2 * t))

unfoldable pub cells_before : List ℤ → ℕ → ℕ
cells_before d zero = 0
cells_before d (suc t) = cells_before d t + columns d t * rows d t

unfoldable pub table_at : List ℤ → ℕ → ℕ
table_at d t = 1 + 2 * tables d + cells_before d t

unfoldable pub row_step : List ℤ → ℕ → ℕ
row_step d t = columns d t

unfoldable pub column_step : List ℤ → ℕ → ℕ
column_step d t = 1

unfoldable pub cell : List ℤ → ℕ → ℕ → ℕ → ℤ
cell d t r c = word d (table_at d t + r * row_step d t + c * column_step d t)

unfoldable pub table_row : List ℤ → ℕ → ℕ → List ℤ
table_row d t r = map (cell d t r) (range 0 (columns d t))

unfoldable pub table_rows : List ℤ → ℕ → List (List ℤ)
table_rows d t = elim (ltb t (tables d)) [ true ↦ map (table_row d t) (range 0 (rows d t)) | false ↦ [] ]

abbrev pub between : ℕ → ℕ → ℤ → Bool
between a b (pos n) = leb a n && leb n b
between a b (negsuc n) = false

unfoldable pub laid_out : List ℤ → Bool
laid_out d =
    between 1 8 (word d 0)
    && leb (1 + 2 * tables d) (length d)
    && all (λ t. between 1 8 (word d (1 + 2 * t)) && between 0 256 (word d (2 + 2 * t))) (range 0 (tables d))
    && eqb (length d) (table_at d (tables d))
    && leb (length d) 16384

unfoldable pub in_range : List ℤ → Bool
in_range d = all (λ x. leb (nat_abs x) 1000000) (drop (1 + 2 * tables d) d)
