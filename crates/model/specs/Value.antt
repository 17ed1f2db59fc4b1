-- Exact values (01, "Matching": "Values are whole or ratio", "Comparison and equality are exact"; No. 3): a numerator
-- over a denominator, or absent, 0 over 0. Every value that matching meets is absent, or in lowest terms with a
-- positive denominator (proofs: set_proper).
--   whole x          the integer x as a value; zero_value: 0
--   absent           min, max and ave of no value; present x: x is not absent
--   gcd_in n a b      the greatest common divisor by Euclid, at most n steps; gcd a b: as many as it takes
--   div_z x k         x divided by k, towards zero
--   ratio n d        n / d divided through by the greatest common divisor
--   compare_z x y     the order of the integers; equal_z x y: they are equal
--   order_present x y the order of two values that are not absent, by cross products
--   absent_first d e o   the order of two values with denominators d and e that compare as o where both are present:
--                    absent stands first, and two absents are equal
--   order x y        the order of values
--   is_lt o           the first is less
--   test_of o c       operator o (0 =, 1 ≠, 2 <, 3 ≤, 4 >, 5 ≥) of two values that compare as c
--   meets o x y      two values meet operator o; an absent one meets none
use Prim.Native.Nat.{ℕ, zero, suc, ◌/◌, ◌%◌, compare, Ordering}
use Rattle.std.specs.Prelude.{Bool, true, false, ◌&&◌, not, ltb, ℤ, pos, negsuc, nat_abs, ◌*ℤ◌, neg_ℤ}
use Rattle.std.proofs.Math.Dec.{compare_is_eq, is_le}

pub record Value : Type 0 where
  pub num : ℤ
  pub den : ℕ

abbrev pub whole : ℤ → Value
whole x = record { num = x; den = 1 }

abbrev pub zero_value : Value
zero_value = whole (pos 0)

abbrev pub absent : Value
absent = record { num = pos 0; den = 0 }

unfoldable pub present : Value → Bool
present x = ltb 0 x.den

unfoldable pub gcd_in : ℕ → ℕ → ℕ → ℕ
gcd_in zero a b = a
gcd_in (suc n) a zero = a
gcd_in (suc n) a (suc b) = gcd_in n (suc b) (a % suc b)

unfoldable pub gcd : ℕ → ℕ → ℕ
gcd a b = gcd_in (suc b) a b

unfoldable pub div_z : ℤ → ℕ → ℤ
div_z (pos n) k = pos (n / k)
div_z (negsuc n) k = neg_ℤ (pos (suc n / k))

unfoldable pub ratio : ℤ → ℕ → Value
ratio n d = let g = gcd (nat_abs n) d in record { num = div_z n g; den = d / g }

unfoldable pub compare_z : ℤ → ℤ → Ordering
compare_z (pos m) (pos n) = compare m n
compare_z (pos m) (negsuc n) = Ordering.gt
compare_z (negsuc m) (pos n) = Ordering.lt
compare_z (negsuc m) (negsuc n) = compare n m

unfoldable pub equal_z : ℤ → ℤ → Bool
equal_z x y = compare_is_eq (compare_z x y)

unfoldable pub order_present : Value → Value → Ordering
order_present x y = compare_z (x.num *ℤ pos y.den) (y.num *ℤ pos x.den)

abbrev pub absent_first : ℕ → ℕ → Ordering → Ordering
absent_first zero zero o = Ordering.eq
absent_first zero (suc e) o = Ordering.lt
absent_first (suc d) zero o = Ordering.gt
absent_first (suc d) (suc e) o = o

unfoldable pub order : Value → Value → Ordering
order x y = absent_first x.den y.den (order_present x y)

abbrev pub is_lt : Ordering → Bool
is_lt Ordering.lt = true
is_lt Ordering.eq = false
is_lt Ordering.gt = false

abbrev pub test_of : ℕ → Ordering → Bool
test_of zero o = compare_is_eq o
test_of (suc zero) o = not (compare_is_eq o)
test_of (suc (suc zero)) o = is_lt o
test_of (suc (suc (suc zero))) o = is_le o
test_of (suc (suc (suc (suc zero)))) o = not (is_le o)
test_of (suc (suc (suc (suc (suc n))))) o = not (is_lt o)

unfoldable pub meets : ℕ → Value → Value → Bool
meets o x y = present x && (present y && test_of o (order x y))
