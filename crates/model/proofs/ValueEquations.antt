-- The equations of specs/Value, one for each case.
use Prim.Native.Nat.{Ordering}
use Prim.Native.Nat.{ℕ, suc, ◌/◌, ◌%◌, compare}
use mathlib.Core.Bool.{◌&&◌}
use mathlib.Core.Path.{◌≡◌, refl}
use lib.Dec.{compare_is_eq, ltb}
use lib.IntN.{ℤ, pos, negsuc, nat_abs, ◌*ℤ◌, neg_ℤ}
use Rattle.model.specs.Value.{Value, present, gcd_in, gcd, div_z, ratio, compare_z, equal_z, order_present}
use Rattle.model.specs.Value.{absent_first, order, test_of, meets}

pub gcd_in-spent : (a b : ℕ) → gcd_in 0 a b ≡ a
unfolding gcd_in
gcd_in-spent a b = refl

pub gcd_in-ends : (n a : ℕ) → gcd_in (suc n) a 0 ≡ a
unfolding gcd_in
gcd_in-ends n a = refl

pub gcd_in_step : (n a b : ℕ) → gcd_in (suc n) a (suc b) ≡ gcd_in n (suc b) (a % suc b)
unfolding gcd_in
gcd_in_step n a b = refl

pub gcd_is : (a b : ℕ) → gcd a b ≡ gcd_in (suc b) a b
unfolding gcd
gcd_is a b = refl

pub div_z-pos : (n k : ℕ) → div_z (pos n) k ≡ pos (n / k)
unfolding div_z
div_z-pos n k = refl

pub div_z-negsuc : (n k : ℕ) → div_z (negsuc n) k ≡ neg_ℤ (pos (suc n / k))
unfolding div_z
div_z-negsuc n k = refl

pub ratio_is : (n : ℤ) (d : ℕ) → ratio n d ≡ record { num = div_z n (gcd (nat_abs n) d); den = d / gcd (nat_abs n) d }
unfolding ratio
ratio_is n d = refl

pub ratio-num : (n : ℤ) (d : ℕ) → (ratio n d).num ≡ div_z n (gcd (nat_abs n) d)
unfolding ratio
ratio-num n d = refl

pub ratio-den : (n : ℤ) (d : ℕ) → (ratio n d).den ≡ d / gcd (nat_abs n) d
unfolding ratio
ratio-den n d = refl

pub compare_z-pos : (m n : ℕ) → compare_z (pos m) (pos n) ≡ compare m n
unfolding compare_z
compare_z-pos m n = refl

pub compare_z-over : (m n : ℕ) → compare_z (pos m) (negsuc n) ≡ Ordering.gt
unfolding compare_z
compare_z-over m n = refl

pub compare_z_under : (m n : ℕ) → compare_z (negsuc m) (pos n) ≡ Ordering.lt
unfolding compare_z
compare_z_under m n = refl

pub compare_z-negsuc : (m n : ℕ) → compare_z (negsuc m) (negsuc n) ≡ compare n m
unfolding compare_z
compare_z-negsuc m n = refl

pub equal_z_is : (x y : ℤ) → equal_z x y ≡ compare_is_eq (compare_z x y)
unfolding equal_z
equal_z_is x y = refl

pub present_is : (x : Value) → present x ≡ ltb 0 x.den
unfolding present
present_is x = refl

pub order_present_is : (x y : Value) → order_present x y ≡ compare_z (x.num *ℤ pos y.den) (y.num *ℤ pos x.den)
unfolding order_present
order_present_is x y = refl

pub order_is : (x y : Value) → order x y ≡ absent_first x.den y.den (order_present x y)
unfolding order
order_is x y = refl

pub meets_is : (o : ℕ) (x y : Value) → meets o x y ≡ present x && (present y && test_of o (order x y))
unfolding meets
meets_is o x y = refl
