-- Request No. 7, "The operators as a chart", as statements in its words. Each has a theorem of its name in
-- proofs/ChartAnswers.
--   ChartOrder       "six operators against less, equal and greater": the chart's answer is 01's
--   ChartAbsent      "with absent beside them": absent meets no operator
--   ChartMeets       "For each operator and each of the four, the chart's answer is proved to be the one that document
--                    01 and No. 3 give": whether any two values that stand so meet the operator
--   EachStands       each of the four is how some values stand: less, equal and greater by exact value, absent where the
--                    first is, the second, or both
--   integers_meet o x y   the chart's answer for two integers
--   ByArithmetic     = is equality, < and > are the integers' own; ≠, ≤ and ≥ are what their signs say
--   ChartIntegers    so the chart is tied to arithmetic
--   answers          the answers of operators 0 to 5, each to less, equal, greater and absent
--   ChartRight       the twenty-four, computed
use Prim.Native.Nat.{ℕ, Ordering}
use Rattle.std.specs.Prelude.{Bool, true, false, ◌||◌, not, List, [], ◌∷◌, map, ◌≡◌, ℤ, pos}
use Rattle.std.specs.Int.Signed.{lt_z}
use Rattle.model.specs.Value.{Value, absent, compare_z, test_of, meets}
use Rattle.chart.specs.declared.Relation.{Relation}
use Rattle.chart.specs.declared.Relation.TheVariants.{Less, Equal, Greater, Absent}
use Rattle.chart.specs.Chart.{relation_of, relation_between, case_of, chart_of}

abbrev pub ChartOrder : Type 0
ChartOrder = (o : ℕ) (c : Ordering) → chart_of (case_of o (relation_of c)) ≡ test_of o c

abbrev pub ChartAbsent : Type 0
ChartAbsent = (o : ℕ) → chart_of (case_of o Absent) ≡ false

abbrev pub ChartMeets : Type 0
ChartMeets =
    (o : ℕ) (r : Relation) (x y : Value) → relation_between x y ≡ r → chart_of (case_of o r) ≡ meets o x y

abbrev pub half : Value
half = record { num = pos 1; den = 2 }

abbrev pub third : Value
third = record { num = pos 1; den = 3 }

abbrev pub EachStands : Type 0
EachStands =
    (relation_between third half ≡ Less) × (relation_between half half ≡ Equal) × (relation_between half third ≡ Greater)
    × (relation_between absent half ≡ Absent) × (relation_between half absent ≡ Absent)
    × (relation_between absent absent ≡ Absent)

abbrev pub integers_meet : ℕ → ℤ → ℤ → Bool
integers_meet o x y = chart_of (case_of o (relation_of (compare_z x y)))

pub record ByArithmetic (x y : ℤ) : Type 0 where
  pub equal : integers_meet 0 x y ≡ true → x ≡ y
  pub same : x ≡ y → integers_meet 0 x y ≡ true
  pub unequal : integers_meet 1 x y ≡ not (integers_meet 0 x y)
  pub less : integers_meet 2 x y ≡ lt_z x y
  pub at_most : integers_meet 3 x y ≡ integers_meet 2 x y || integers_meet 0 x y
  pub greater : integers_meet 4 x y ≡ lt_z y x
  pub at_least : integers_meet 5 x y ≡ integers_meet 4 x y || integers_meet 0 x y

abbrev pub ChartIntegers : Type 0
ChartIntegers = (x y : ℤ) → ByArithmetic x y

abbrev pub answers : List (List Bool)
answers =
    map (λ o. map (λ r. chart_of (case_of o r)) (Less ∷ Equal ∷ Greater ∷ Absent ∷ []))
    (0 ∷ 1 ∷ 2 ∷ 3 ∷ 4 ∷ 5 ∷ [])

abbrev pub ChartRight : Type 0
ChartRight =
    answers
    ≡ (false ∷ true ∷ false ∷ false ∷ [])
    ∷ (true ∷ false ∷ true ∷ false ∷ [])
    ∷ (true ∷ false ∷ false ∷ false ∷ [])
    ∷ (true ∷ true ∷ false ∷ false ∷ [])
    ∷ (false ∷ false ∷ true ∷ false ∷ [])
    ∷ (false ∷ true ∷ true ∷ false ∷ [])
    ∷ []
