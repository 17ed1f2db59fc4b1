-- The theorems of No. 7 (specs/ChartAnswers). Assumes nothing.
use Prim.Native.Nat.{ℕ, zero, suc, Ordering}
use mathlib.Core.Bool.{Bool, true, false, ◌&&◌, ◌||◌, not, cond}
use mathlib.Core.Path.{◌≡◌, refl, sym, ◌∙◌, ap, subst}
use lib.Dec.{T}
use lib.IntN.{ℤ}
use lib.Signed.{lt_z}
use Rattle.model.specs.Value.{present, compare_z, order_present, order, test_of, meets}
use Rattle.model.proofs.ValueLaws.{linear_z, is-less, is_greater, is_equal}
use Rattle.chart.specs.declared.Relation.TheVariants.{Absent}
use Rattle.chart.specs.Chart.{relation_of, case_of, chart_of}
use Rattle.chart.specs.ChartAnswers.{ChartOrder, ChartAbsent, ChartMeets, EachStands}
use Rattle.chart.specs.ChartAnswers.{integers_meet, ChartIntegers, ChartRight}

pub chart_order : ChartOrder
chart_order zero Ordering.lt = refl
chart_order zero Ordering.eq = refl
chart_order zero Ordering.gt = refl
chart_order (suc zero) Ordering.lt = refl
chart_order (suc zero) Ordering.eq = refl
chart_order (suc zero) Ordering.gt = refl
chart_order (suc (suc zero)) Ordering.lt = refl
chart_order (suc (suc zero)) Ordering.eq = refl
chart_order (suc (suc zero)) Ordering.gt = refl
chart_order (suc (suc (suc zero))) Ordering.lt = refl
chart_order (suc (suc (suc zero))) Ordering.eq = refl
chart_order (suc (suc (suc zero))) Ordering.gt = refl
chart_order (suc (suc (suc (suc zero)))) Ordering.lt = refl
chart_order (suc (suc (suc (suc zero)))) Ordering.eq = refl
chart_order (suc (suc (suc (suc zero)))) Ordering.gt = refl
chart_order (suc (suc (suc (suc (suc n))))) Ordering.lt = refl
chart_order (suc (suc (suc (suc (suc n))))) Ordering.eq = refl
chart_order (suc (suc (suc (suc (suc n))))) Ordering.gt = refl

pub chart_absent : ChartAbsent
chart_absent zero = refl
chart_absent (suc zero) = refl
chart_absent (suc (suc zero)) = refl
chart_absent (suc (suc (suc zero))) = refl
chart_absent (suc (suc (suc (suc zero)))) = refl
chart_absent (suc (suc (suc (suc (suc n))))) = refl

pub chart_meets : ChartMeets
unfolding meets
chart_meets o r x y e = ap (λ q. chart_of (case_of o q)) (sym e) ∙ go (present x) (present y)
  where
    go : (a b : Bool)
        → chart_of (case_of o (cond (a && b) (relation_of (order x y)) Absent)) ≡ a && (b && test_of o (order x y))
    go true true = chart_order o (order x y)
    go true false = chart_absent o
    go false b = chart_absent o

-- what the signs say, for each order
abbrev answer : ℕ → Ordering → Bool
answer o c = chart_of (case_of o (relation_of c))

unequal_is : (c : Ordering) → answer 1 c ≡ not (answer 0 c)
unequal_is Ordering.lt = refl
unequal_is Ordering.eq = refl
unequal_is Ordering.gt = refl

at-most_is : (c : Ordering) → answer 3 c ≡ answer 2 c || answer 0 c
at-most_is Ordering.lt = refl
at-most_is Ordering.eq = refl
at-most_is Ordering.gt = refl

at_least_is : (c : Ordering) → answer 5 c ≡ answer 4 c || answer 0 c
at_least_is Ordering.lt = refl
at_least_is Ordering.eq = refl
at_least_is Ordering.gt = refl

equal_only : (c : Ordering) → answer 0 c ≡ true → c ≡ Ordering.eq
equal_only Ordering.lt e = absurd (subst T (sym e) tt)
equal_only Ordering.eq e = refl
equal_only Ordering.gt e = absurd (subst T (sym e) tt)

-- two integers, by the machine's tests of less and of greater
module _ (x y : ℤ) where
  less_is : (l g : Bool) → lt_z x y ≡ l → lt_z y x ≡ g → integers_meet 2 x y ≡ l
  less_is true g p q = ap (answer 2) (is-less x y p)
  less_is false true p q = ap (answer 2) (is_greater x y q)
  less_is false false p q = ap (answer 2) (is_equal x y p q)

  greater-is : (l g : Bool) → lt_z x y ≡ l → lt_z y x ≡ g → integers_meet 4 x y ≡ g
  greater-is l true p q = ap (answer 4) (is_greater x y q)
  greater-is true false p q = ap (answer 4) (is-less x y p)
  greater-is false false p q = ap (answer 4) (is_equal x y p q)

pub chart_integers : ChartIntegers
chart_integers x y =
    record {
      equal = λ e. linear_z.same x y tt tt (equal_only (compare_z x y) e);
      same = λ e. ap (λ z. integers_meet 0 x z) (sym e) ∙ ap (answer 0) (linear_z.self x);
      unequal = unequal_is (compare_z x y);
      less = less_is x y (lt_z x y) (lt_z y x) refl refl;
      at_most = at-most_is (compare_z x y);
      greater = greater-is x y (lt_z x y) (lt_z y x) refl refl;
      at_least = at_least_is (compare_z x y);
    }

pub each_stands : EachStands
unfolding present order order_present compare_z
each_stands = (refl, refl, refl, refl, refl, refl)

pub chart_right : ChartRight
chart_right = refl
