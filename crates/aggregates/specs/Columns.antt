-- Aggregates of a column of a set in words, for every argument. Where the words encode a set of the model, they are the
-- model's (proofs/Aggregating.antt: aggregated).
--   column_in n l j k       the values at place j and every n places further, k of them
--   aggregate_of_column f xs the model's function f (0 count, 1 sum, 2 min, 3 max, 4 and above ave) of a column's values,
--                          from 1 on of those that are present
--   over_words f vs         that of values in words, where all are inside the bounds of exact order; the count of any
--   readable n count w c   at most 4 columns and 256 rows, w places for them, and c one of the columns
--   aggregate_in f c n count l   function f of column c of the set
use Rattle.std.specs.Prelude.{ℕ, zero, suc, ◌+◌, ◌*◌, Bool, ◌&&◌, cond, List, [], ◌∷◌, map, leb, ltb, length, ℤ, pos, Result, Ok, Err}
use Rattle.model.specs.Aggregate.{present_of, sum_of, min_of, max_of, ave_of}
use Rattle.model.specs.Lists.{all}
use Rattle.model.specs.Value as model
use Rattle.value.specs.declared.Value.{Value}
use Rattle.value.specs.Exact.{exact, in_words, inside_of}
use Rattle.words.specs.Words.{room_of, value_at}
use Rattle.aggregates.specs.declared.Fault.{Fault}
use Rattle.aggregates.specs.declared.Fault.TheVariants.{Outside, Refused}

unfoldable pub column_in : ℕ → List ℤ → ℕ → ℕ → List Value
column_in n l j zero = []
column_in n l j (suc k) = value_at l j ∷ column_in n l (j + n) k

unfoldable pub aggregate_of_column : ℕ → List model.Value → model.Value
aggregate_of_column zero xs = model.whole (pos (length xs))
aggregate_of_column (suc zero) xs = sum_of (present_of xs)
aggregate_of_column (suc (suc zero)) xs = min_of (present_of xs)
aggregate_of_column (suc (suc (suc zero))) xs = max_of (present_of xs)
aggregate_of_column (suc (suc (suc (suc f)))) xs = ave_of (present_of xs)

unfoldable pub over_words : ℕ → List Value → Result Value Fault
over_words zero vs = Ok (in_words (aggregate_of_column zero (map exact vs)))
over_words (suc f) vs = cond (all inside_of vs) (Ok (in_words (aggregate_of_column (suc f) (map exact vs)))) (Err Outside)

unfoldable pub readable : ℕ → ℕ → ℕ → ℕ → Bool
readable n count w c = leb n 4 && (leb count 256 && (ltb c n && leb (count * n) w))

unfoldable pub aggregate_in : ℕ → ℕ → ℕ → ℕ → List ℤ → Result Value Fault
aggregate_in f c n count l =
    cond (readable n count (room_of (length l)) c) (over_words f (column_in n l c count)) (Err Refused)
