-- The equations of specs/Aggregate, one for each case, and its recursions over `◌++◌`.
use Prim.Native.Nat.{ℕ, suc}
use mathlib.Core.Bool.{true, false}
use mathlib.Core.List.{List, [], ◌∷◌, ◌++◌}
use mathlib.Core.Path.{◌≡◌, refl, sym, ◌∙◌, ap}
use lib.IntN.{pos, ◌+ℤ◌, +ℤ_idl, +ℤ_assoc}
use lib.ListN.{length}
use Rattle.model.specs.Aggregate.{column_of, present_of, total, lesser, greater, least_from, greatest_from, sum_of}
use Rattle.model.specs.Aggregate.{min_of, max_of, ave_of, aggregate_of}
use Rattle.model.specs.Lists.{filter}
use Rattle.model.specs.RowSet.{Row}
use Rattle.model.specs.Value.{Value, whole, absent, present, ratio, order, is_lt}
use Rattle.model.proofs.Tests.{filter-append}

pub present_of-nil : present_of [] ≡ []
unfolding present_of filter
present_of-nil = refl

pub present_of-kept : (x : Value) (xs : List Value) → present x ≡ true → present_of (x ∷ xs) ≡ x ∷ present_of xs
unfolding present_of filter
present_of-kept x xs e = rw (e, filter)

pub present_of-passed : (x : Value) (xs : List Value) → present x ≡ false → present_of (x ∷ xs) ≡ present_of xs
unfolding present_of filter
present_of-passed x xs e = rw (e, filter)

pub present_of-append : (l r : List Value) → present_of (l ++ r) ≡ present_of l ++ present_of r
unfolding present_of
present_of-append l r = filter-append present l r

pub total-nil : total [] ≡ pos 0
unfolding total
total-nil = refl

pub total-cons : (x : Value) (xs : List Value) → total (x ∷ xs) ≡ x.num +ℤ total xs
unfolding total
total-cons x xs = refl

pub total-append : (l r : List Value) → total (l ++ r) ≡ total l +ℤ total r
unfolding total
total-append [] r = sym (+ℤ_idl (total r))
total-append (x ∷ xs) r = ap (λ t. x.num +ℤ t) (total-append xs r) ∙ sym (+ℤ_assoc x.num (total xs) (total r))

pub lesser-first : (x y : Value) → is_lt (order y x) ≡ false → lesser x y ≡ x
unfolding lesser
lesser-first x y e = rw (e, lesser)

pub lesser-second : (x y : Value) → is_lt (order y x) ≡ true → lesser x y ≡ y
unfolding lesser
lesser-second x y e = rw (e, lesser)

pub greater-first : (x y : Value) → is_lt (order x y) ≡ false → greater x y ≡ x
unfolding greater
greater-first x y e = rw (e, greater)

pub greater-second : (x y : Value) → is_lt (order x y) ≡ true → greater x y ≡ y
unfolding greater
greater-second x y e = rw (e, greater)

pub least_from-nil : (x : Value) → least_from x [] ≡ x
unfolding least_from
least_from-nil x = refl

pub least_from-cons : (x y : Value) (ys : List Value) → least_from x (y ∷ ys) ≡ least_from (lesser x y) ys
unfolding least_from
least_from-cons x y ys = refl

pub least_from-append : (x : Value) (l r : List Value) → least_from x (l ++ r) ≡ least_from (least_from x l) r
unfolding least_from
least_from-append x [] r = refl
least_from-append x (y ∷ ys) r = least_from-append (lesser x y) ys r

pub greatest_from-nil : (x : Value) → greatest_from x [] ≡ x
unfolding greatest_from
greatest_from-nil x = refl

pub greatest_from-cons : (x y : Value) (ys : List Value) → greatest_from x (y ∷ ys) ≡ greatest_from (greater x y) ys
unfolding greatest_from
greatest_from-cons x y ys = refl

pub greatest_from-append : (x : Value) (l r : List Value) → greatest_from x (l ++ r) ≡ greatest_from (greatest_from x l) r
unfolding greatest_from
greatest_from-append x [] r = refl
greatest_from-append x (y ∷ ys) r = greatest_from-append (greater x y) ys r

pub sum_of_is : (xs : List Value) → sum_of xs ≡ whole (total xs)
unfolding sum_of
sum_of_is xs = refl

pub min_of-nil : min_of [] ≡ absent
unfolding min_of
min_of-nil = refl

pub min_of-cons : (x : Value) (xs : List Value) → min_of (x ∷ xs) ≡ least_from x xs
unfolding min_of
min_of-cons x xs = refl

pub max_of-nil : max_of [] ≡ absent
unfolding max_of
max_of-nil = refl

pub max_of-cons : (x : Value) (xs : List Value) → max_of (x ∷ xs) ≡ greatest_from x xs
unfolding max_of
max_of-cons x xs = refl

pub ave_of-nil : ave_of [] ≡ absent
unfolding ave_of
ave_of-nil = refl

pub ave_of-cons : (x : Value) (xs : List Value) → ave_of (x ∷ xs) ≡ ratio (total (x ∷ xs)) (length (x ∷ xs))
unfolding ave_of
ave_of-cons x xs = refl

pub aggregate_of-count : (c : ℕ) (rs : List Row) → aggregate_of 0 c rs ≡ whole (pos (length rs))
unfolding aggregate_of
aggregate_of-count c rs = refl

pub aggregate_of-sum : (c : ℕ) (rs : List Row) → aggregate_of 1 c rs ≡ sum_of (present_of (column_of c rs))
unfolding aggregate_of
aggregate_of-sum c rs = refl

pub aggregate_of-min : (c : ℕ) (rs : List Row) → aggregate_of 2 c rs ≡ min_of (present_of (column_of c rs))
unfolding aggregate_of
aggregate_of-min c rs = refl

pub aggregate_of-max : (c : ℕ) (rs : List Row) → aggregate_of 3 c rs ≡ max_of (present_of (column_of c rs))
unfolding aggregate_of
aggregate_of-max c rs = refl

-- 4, and every number above it
pub aggregate_of_ave : (f c : ℕ) (rs : List Row) → aggregate_of (suc (suc (suc (suc f)))) c rs
    ≡ ave_of (present_of (column_of c rs))
unfolding aggregate_of
aggregate_of_ave f c rs = refl
