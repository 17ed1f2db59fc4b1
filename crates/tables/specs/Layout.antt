-- Causes 3 and 4, piece by piece, as private functions promise them. The whole is the model's `laid_out` and `in_range`.
--   table_fits d t    the counts of table t are in their ranges
--   is_value x        a cell may have the value x
use Rattle.std.specs.Prelude.{ℕ, ◌+◌, ◌*◌, Bool, ◌&&◌, List, leb, ℤ, nat_abs}
use Rattle.model.specs.Tables.{word, between}

abbrev pub table_fits : List ℤ → ℕ → Bool
table_fits d t = between 1 8 (word d (1 + 2 * t)) && between 0 256 (word d (2 + 2 * t))

abbrev pub is_value : ℤ → Bool
is_value x = leb (nat_abs x) 1000000
