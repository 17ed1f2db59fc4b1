-- Aggregates of a set of rows (01, "Matching": "row by row, so equal values in different rows all tell"; No. 3: sum,
-- min, max and ave pass over absent values, count does not). Of an empty set count and sum are zero, the others absent.
--   column_at c r          the value in column c of a row; column_of c rs: those of all rows, row by row
--   present_of xs          the values that are not absent
--   total xs              the sum of the numerators of whole values
--   lesser x y, greater x y   the one of two values that is less, that is greater; the first where they are equal
--   least_from x xs, greatest_from x xs   the least and the greatest of x and further values
--   sum_of, min_of, max_of, ave_of   of values that are present
--   aggregate_of f c rs    function f (0 count, 1 sum, 2 min, 3 max, 4 ave) of column c of a set
use Rattle.std.specs.Prelude.{ℕ, zero, suc, true, false, List, [], ◌∷◌, map, ℤ, pos, ◌+ℤ◌, length, get_or}
use Rattle.model.specs.Lists.{filter}
use Rattle.model.specs.RowSet.{Row}
use Rattle.model.specs.Value.{Value, whole, zero_value, absent, present, ratio, order, is_lt}

abbrev pub column_at : ℕ → Row → Value
column_at c r = get_or r c zero_value

abbrev pub column_of : ℕ → List Row → List Value
column_of c rs = map (column_at c) rs

unfoldable pub present_of : List Value → List Value
present_of xs = filter present xs

unfoldable pub total : List Value → ℤ
total [] = pos 0
total (x ∷ xs) = x.num +ℤ total xs

unfoldable pub lesser : Value → Value → Value
lesser x y = elim (is_lt (order y x)) [ true ↦ y | false ↦ x ]

unfoldable pub greater : Value → Value → Value
greater x y = elim (is_lt (order x y)) [ true ↦ y | false ↦ x ]

unfoldable pub least_from : Value → List Value → Value
least_from x [] = x
least_from x (y ∷ ys) = least_from (lesser x y) ys

unfoldable pub greatest_from : Value → List Value → Value
greatest_from x [] = x
greatest_from x (y ∷ ys) = greatest_from (greater x y) ys

unfoldable pub sum_of : List Value → Value
sum_of xs = whole (total xs)

unfoldable pub min_of : List Value → Value
min_of [] = absent
min_of (x ∷ xs) = least_from x xs

unfoldable pub max_of : List Value → Value
max_of [] = absent
max_of (x ∷ xs) = greatest_from x xs

unfoldable pub ave_of : List Value → Value
ave_of [] = absent
ave_of (x ∷ xs) = ratio (total (x ∷ xs)) (length (x ∷ xs))

unfoldable pub aggregate_of : ℕ → ℕ → List Row → Value
aggregate_of zero c rs = whole (pos (length rs))
aggregate_of (suc zero) c rs = sum_of (present_of (column_of c rs))
aggregate_of (suc (suc zero)) c rs = min_of (present_of (column_of c rs))
aggregate_of (suc (suc (suc zero))) c rs = max_of (present_of (column_of c rs))
aggregate_of (suc (suc (suc (suc f)))) c rs = ave_of (present_of (column_of c rs))
