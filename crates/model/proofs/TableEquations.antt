-- The equations of specs/Tables, one for each case; those of `table_rows` are `rows-there`, `rows-absent` of
-- TableLaws.
use Prim.Native.Nat.{ℕ, suc, ◌+◌, ◌*◌}
use mathlib.Core.Bool.{◌&&◌}
use mathlib.Core.List.{List, map}
use mathlib.Core.Path.{◌≡◌, refl}
use lib.Dec.{eqb, leb}
use lib.IntN.{ℤ, nat_abs}
use lib.ListN.{length, drop}
use Rattle.model.specs.Lists.{all, range}
use Rattle.model.specs.Tables.{word, nat_of, tables, columns, rows, cells_before, table_at, row_step, column_step}
use Rattle.model.specs.Tables.{cell, table_row, between, laid_out, in_range}

pub tables_is : (d : List ℤ) → tables d ≡ nat_of (word d 0)
unfolding tables
tables_is d = refl

pub columns_is : (d : List ℤ) (t : ℕ) → columns d t ≡ nat_of (word d (1 + 2 * t))
unfolding columns
columns_is d t = refl

pub rows_is : (d : List ℤ) (t : ℕ) → rows d t ≡ nat_of (word d (2 + 2 * t))
unfolding rows
rows_is d t = refl

pub cells_before-first : (d : List ℤ) → cells_before d 0 ≡ 0
unfolding cells_before
cells_before-first d = refl

pub cells_before_next : (d : List ℤ) (t : ℕ) → cells_before d (suc t) ≡ cells_before d t + columns d t * rows d t
unfolding cells_before
cells_before_next d t = refl

pub table_at_is : (d : List ℤ) (t : ℕ) → table_at d t ≡ 1 + 2 * tables d + cells_before d t
unfolding table_at
table_at_is d t = refl

pub row_step_is : (d : List ℤ) (t : ℕ) → row_step d t ≡ columns d t
unfolding row_step
row_step_is d t = refl

pub column_step_is : (d : List ℤ) (t : ℕ) → column_step d t ≡ 1
unfolding column_step
column_step_is d t = refl

pub cell_is : (d : List ℤ) (t r c : ℕ) → cell d t r c ≡ word d (table_at d t + r * row_step d t + c * column_step d t)
unfolding cell
cell_is d t r c = refl

pub table_row_is : (d : List ℤ) (t r : ℕ) → table_row d t r ≡ map (cell d t r) (range 0 (columns d t))
unfolding table_row
table_row_is d t r = refl

pub laid_out_is : (d : List ℤ)
    → laid_out d
    ≡ between 1 8 (word d 0)
    && leb (1 + 2 * tables d) (length d)
    && all (λ t. between 1 8 (word d (1 + 2 * t)) && between 0 256 (word d (2 + 2 * t))) (range 0 (tables d))
    && eqb (length d) (table_at d (tables d))
    && leb (length d) 16384
unfolding laid_out
laid_out_is d = refl

pub in_range_is : (d : List ℤ) → in_range d ≡ all (λ x. leb (nat_abs x) 1000000) (drop (1 + 2 * tables d) d)
unfolding in_range
in_range_is d = refl
