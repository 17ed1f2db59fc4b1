-- What the aggregates of a column have: a property of each of its values, and of zero or absent where one may stand
-- in.
--   column-has, columns-have     a column's values have it where the rows' do, and zero
--   present-have                 the values that are present have it; min-has, max-has: the least and the greatest
--   present-few                  no more values are present than there are
use Prim.Native.Nat.{ℕ, zero, suc, ◌≤◌}
use mathlib.Core.Bool.{Bool, true, false}
use mathlib.Core.List.{List, [], ◌∷◌}
use lib.ListN.{length}
use Rattle.model.specs.Aggregate.{column_at, column_of, present_of, lesser, greater, least_from, greatest_from}
use Rattle.model.specs.Aggregate.{min_of, max_of}
use Rattle.model.specs.Lists.{All}
use Rattle.model.specs.RowSet.{Row}
use Rattle.model.specs.Value.{Value, zero_value, absent, present, order, is_lt}
use Rattle.model.proofs.Lists.{all_filter}
use Rattle.model.proofs.Tests.{filter-length}

module _ (P : Value → Type 0) (zero_has : P zero_value) where
  pub column-has : (c : ℕ) (r : Row) → All P r → P (column_at c r)
  column-has c [] u = zero_has
  column-has zero (x ∷ xs) u = u.0
  column-has (suc c) (x ∷ xs) u = column-has c xs u.1

  pub columns-have : (c : ℕ) (rs : List Row) → All (λ r. All P r) rs → All P (column_of c rs)
  columns-have c [] u = tt
  columns-have c (r ∷ rs) u = (column-has c r u.0, columns-have c rs u.1)

  pub present-have : (c : ℕ) (rs : List Row) → All (λ r. All P r) rs → All P (present_of (column_of c rs))
  unfolding present_of
  present-have c rs u = all_filter P present (column_of c rs) (columns-have c rs u)

module _ (P : Value → Type 0) (absent-has : P absent) where
  choice-has : (t : Bool) (x y : Value) → P x → P y → P (elim t as (λ _. Value) [ true ↦ y | false ↦ x ])
  choice-has true x y a b = b
  choice-has false x y a b = a

  least-has : (x : Value) (ys : List Value) → P x → All P ys → P (least_from x ys)
  unfolding least_from lesser
  least-has x [] a u = a
  least-has x (y ∷ ys) a u = least-has (lesser x y) ys (choice-has (is_lt (order y x)) x y a u.0) u.1

  greatest-has : (x : Value) (ys : List Value) → P x → All P ys → P (greatest_from x ys)
  unfolding greatest_from greater
  greatest-has x [] a u = a
  greatest-has x (y ∷ ys) a u = greatest-has (greater x y) ys (choice-has (is_lt (order x y)) x y a u.0) u.1

  pub min-has : (xs : List Value) → All P xs → P (min_of xs)
  unfolding min_of
  min-has [] u = absent-has
  min-has (x ∷ xs) u = least-has x xs u.0 u.1

  pub max-has : (xs : List Value) → All P xs → P (max_of xs)
  unfolding max_of
  max-has [] u = absent-has
  max-has (x ∷ xs) u = greatest-has x xs u.0 u.1

-- no more values are present than there are
pub present-few : (xs : List Value) → length (present_of xs) ≤ length xs
unfolding present_of
present-few xs = filter-length present xs
