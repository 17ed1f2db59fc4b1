-- Where the cells of a table lie, for code that walks them, and one column of it. A place past the end of the slice is
-- moved to one past the end, where a word reads 0 as well, so that no number of the code overflows.
--   within d i       place i, no further than one past the end
--   cells_of d t      how many cells table t has
--   first_cell d t    the place of its first cell
--   place_of d t      that place, how far a cell lies behind the one above it, and behind its left neighbour
--   column_of p c     column c of a table that lies at p: its first cell, how far the next one lies behind it
--   from_start s      the column whose first cell is the first word, and the next one s words behind it
--   value_in d k r    the value in row r of column k
use Rattle.std.specs.Prelude.{ℕ, ◌+◌, ◌*◌, min, List, ℤ, length}
use Rattle.model.specs.Tables.{word, columns, rows, table_at, row_step, column_step}
use Rattle.tables.specs.declared.Column.{Column}
use Rattle.tables.specs.declared.Place.{Place}

abbrev pub within : List ℤ → ℕ → ℕ
within d i = min i (length d + 1)

abbrev pub cells_of : List ℤ → ℕ → ℕ
cells_of d t = columns d t * rows d t

unfoldable pub first_cell : List ℤ → ℕ → ℕ
first_cell d t = within d (table_at d t)

unfoldable pub place_of : List ℤ → ℕ → Place
place_of d t = record { base = first_cell d t; down = row_step d t; across = column_step d t }

unfoldable pub column_of : Place → ℕ → Column
column_of p c = record { first = p.base + c * p.across; step = p.down }

abbrev pub from_start : ℕ → Column
from_start s = record { first = 0; step = s }

unfoldable pub value_in : List ℤ → Column → ℕ → ℤ
value_in d k r = word d (k.first + r * k.step)
