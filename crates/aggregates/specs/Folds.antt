-- What the private functions over a column give; nothing here stands in a public contract.
--   plus_of t v         a sum t and one value more
--   sum_of_all xs        the sum of some values, and their number
--   total_of vs         that of the values that are present, where all are inside the bounds
--   is_less o           the order o is Less, as the machine tests it
--   chosen_of g x y     the greater (g true) or the lesser of two values; x where they are equal
--   better_of g x y     the same; the other one where one is absent
--   extreme_in g xs     the model's greatest or least of some values
--   extreme_of g vs     the greatest or the least of those that are present, where all are inside the bounds
use Rattle.std.specs.Bool.{◌==◌}
use Rattle.std.specs.Option.{option_eq}
use Rattle.std.specs.Ordering.{ordering_index}
use Rattle.std.specs.Prelude.{◌+◌, Bool, true, false, cond, List, map, ◌+ℤ◌, length, Option, None, Some}
use Rattle.std.specs.declared.cmp.Ordering.{Ordering}
use Rattle.std.specs.declared.cmp.Ordering.TheVariants.{Less}
use Rattle.model.specs.Aggregate.{present_of, total, min_of, max_of}
use Rattle.model.specs.Lists.{all}
use Rattle.model.specs.Value as model
use Rattle.value.specs.declared.Value.{Value}
use Rattle.value.specs.Exact.{exact, in_words, inside_of, order_of}
use Rattle.aggregates.specs.declared.Sum.{Sum}

unfoldable pub plus_of : Sum → Value → Sum
plus_of t v = record { value = t.value +ℤ v.num; present = t.present + cond (model.present (exact v)) 1 0 }

abbrev pub sum_of_all : List model.Value → Sum
sum_of_all xs = record { value = total xs; present = length xs }

unfoldable pub total_of : List Value → Option Sum
total_of vs = cond (all inside_of vs) (Some (sum_of_all (present_of (map exact vs)))) None

abbrev pub is_less : Option Ordering → Bool
is_less o = option_eq (λ x y. ordering_index x == ordering_index y) o (Some Less)

unfoldable pub chosen_of : Bool → Value → Value → Value
chosen_of g x y = cond (is_less (cond g (order_of x y) (order_of y x))) y x

unfoldable pub better_of : Bool → Value → Value → Value
better_of g x y = cond (model.present (exact y)) (cond (model.present (exact x)) (chosen_of g x y) y) x

abbrev pub extreme_in : Bool → List model.Value → model.Value
extreme_in true xs = max_of xs
extreme_in false xs = min_of xs

unfoldable pub extreme_of : Bool → List Value → Option Value
extreme_of g vs = cond (all inside_of vs) (Some (in_words (extreme_in g (present_of (map exact vs))))) None
