-- Values in 64-bit words, and what they mean in the model.
--   exact v            the model's value of v; in_words v: a value of the model in words
--   inside_of v         |num| ≤ 10^15 and 1 ≤ den ≤ 256: there a cross product is exact in 64 bits; or absent, 0 over 0
--   Fair v             the same of a value of the model
--   tell o             the model's order as an answer
--   order_of x y        the model's order inside the bounds, None elsewhere
--   holds_of o x y      whether x and y meet operator o, None where one is outside the bounds
--   lowest_of n d       n / d in lowest terms
--   empty_of f          function f (0 count, 1 sum, 2 min, 3 max, 4 and above ave) of an empty set: zero for count and
--                      sum, else absent (proofs/Empty: the model's)
--   average_of s n      s over n in lowest terms; absent where n is 0; None for n > 256 or |s| > 256 × 10^15
use Prim.Native.Nat.{ℕ, zero, suc, ◌≤◌, Ordering}
use Rattle.std.specs.Prelude.{Bool, ◌&&◌, cond, ◌≡◌, eqb, leb, ℤ, pos, nat_abs, Option, None, Some}
use Rattle.std.specs.Int.Signed.{le_z}
use Rattle.std.specs.declared.cmp.Ordering as cmp
use Rattle.model.specs.Value as model
use Rattle.chart.specs.Chart.{ordering_of}
use Rattle.value.specs.declared.Value.{Value}

abbrev pub exact : Value → model.Value
exact v = record { num = v.num; den = nat_abs v.den }

abbrev pub in_words : model.Value → Value
in_words v = record { num = v.num; den = pos v.den }

unfoldable pub inside_of : Value → Bool
inside_of v =
    cond (model.present (exact v))
    (leb (nat_abs v.num) 1000000000000000 && (le_z (pos 1) v.den && le_z v.den (pos 256)))
    (eqb (nat_abs v.num) 0)

pub record Fair (v : model.Value) : Type 0 where
  pub num : nat_abs v.num ≤ 1000000000000000
  pub den : v.den ≤ 256
  pub none : v.den ≡ 0 → v.num ≡ pos 0

abbrev pub tell : Ordering → Option cmp.Ordering
tell o = Some (ordering_of o)

unfoldable pub order_of : Value → Value → Option cmp.Ordering
order_of x y = cond (inside_of x && inside_of y) (tell (model.order (exact x) (exact y))) None

unfoldable pub holds_of : ℕ → Value → Value → Option Bool
holds_of o x y = cond (inside_of x && inside_of y) (Some (model.meets o (exact x) (exact y))) None

abbrev pub lowest_of : ℤ → ℕ → Value
lowest_of n d = in_words (model.ratio n d)

unfoldable pub empty_of : ℕ → Value
empty_of zero = in_words model.zero_value
empty_of (suc zero) = in_words model.zero_value
empty_of (suc (suc f)) = in_words model.absent

unfoldable pub average_of : ℤ → ℕ → Option Value
average_of s zero = Some (in_words model.absent)
average_of s (suc n) = cond (leb (suc n) 256 && leb (nat_abs s) 256000000000000000) (Some (lowest_of s (suc n))) None
