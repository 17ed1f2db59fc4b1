-- The chart of the operators (No. 7): a case for each operator and each of less, equal and greater, and absent beside
-- them.
--   ordering_of c          the model's order as the library's
--   relation_of c          how two values that are present stand, by their order
--   relation_by o          the same, by the library's order
--   relation_between x y   how two values stand: absent unless both are present
--   among l e g r         l, e or g where the relation is less, equal or greater; absent is one case for all
--   case_of o r            the case of operator o (0 =, 1 ≠, 2 <, 3 ≤, 4 >, 5 and above ≥) and a relation
--   chart_of c             the chart: whether the condition is met
use Prim.Native.Nat.{ℕ, zero, suc, Ordering}
use Rattle.std.specs.Prelude.{Bool, true, false, ◌&&◌, cond}
use Rattle.std.specs.declared.cmp.Ordering as cmp
use Rattle.std.specs.declared.cmp.Ordering.TheVariants as ordering
use Rattle.model.specs.Value.{Value, present, order}
use Rattle.chart.specs.declared.Relation.{Relation}
use Rattle.chart.specs.declared.Relation.TheVariants.{Less, Equal, Greater, Absent}
use Rattle.chart.specs.declared.Case.{Case}
use Rattle.chart.specs.declared.Case.TheVariants.{EqualWhenLess, EqualWhenEqual, EqualWhenGreater}
use Rattle.chart.specs.declared.Case.TheVariants.{UnequalWhenLess, UnequalWhenEqual, UnequalWhenGreater}
use Rattle.chart.specs.declared.Case.TheVariants.{LessWhenLess, LessWhenEqual, LessWhenGreater}
use Rattle.chart.specs.declared.Case.TheVariants.{AtMostWhenLess, AtMostWhenEqual, AtMostWhenGreater}
use Rattle.chart.specs.declared.Case.TheVariants.{GreaterWhenLess, GreaterWhenEqual, GreaterWhenGreater}
use Rattle.chart.specs.declared.Case.TheVariants.{AtLeastWhenLess, AtLeastWhenEqual, AtLeastWhenGreater}
use Rattle.chart.specs.declared.Case.TheVariants.{AnyWhenAbsent}

abbrev pub ordering_of : Ordering → cmp.Ordering
ordering_of Ordering.lt = ordering.Less
ordering_of Ordering.eq = ordering.Equal
ordering_of Ordering.gt = ordering.Greater

abbrev pub relation_of : Ordering → Relation
relation_of Ordering.lt = Less
relation_of Ordering.eq = Equal
relation_of Ordering.gt = Greater

abbrev pub relation_by : cmp.Ordering → Relation
relation_by ordering.Less = Less
relation_by ordering.Equal = Equal
relation_by ordering.Greater = Greater

abbrev pub relation_between : Value → Value → Relation
relation_between x y = cond (present x && present y) (relation_of (order x y)) Absent

abbrev pub among : Case → Case → Case → Relation → Case
among l e g Less = l
among l e g Equal = e
among l e g Greater = g
among l e g Absent = AnyWhenAbsent

abbrev pub case_of : ℕ → Relation → Case
case_of zero = among EqualWhenLess EqualWhenEqual EqualWhenGreater
case_of (suc zero) = among UnequalWhenLess UnequalWhenEqual UnequalWhenGreater
case_of (suc (suc zero)) = among LessWhenLess LessWhenEqual LessWhenGreater
case_of (suc (suc (suc zero))) = among AtMostWhenLess AtMostWhenEqual AtMostWhenGreater
case_of (suc (suc (suc (suc zero)))) = among GreaterWhenLess GreaterWhenEqual GreaterWhenGreater
case_of (suc (suc (suc (suc (suc n))))) = among AtLeastWhenLess AtLeastWhenEqual AtLeastWhenGreater

abbrev pub chart_of : Case → Bool
chart_of EqualWhenLess = false
chart_of EqualWhenEqual = true
chart_of EqualWhenGreater = false
chart_of UnequalWhenLess = true
chart_of UnequalWhenEqual = false
chart_of UnequalWhenGreater = true
chart_of LessWhenLess = true
chart_of LessWhenEqual = false
chart_of LessWhenGreater = false
chart_of AtMostWhenLess = true
chart_of AtMostWhenEqual = true
chart_of AtMostWhenGreater = false
chart_of GreaterWhenLess = false
chart_of GreaterWhenEqual = false
chart_of GreaterWhenGreater = true
chart_of AtLeastWhenLess = false
chart_of AtLeastWhenEqual = true
chart_of AtLeastWhenGreater = true
chart_of AnyWhenAbsent = false
