-- Laws of ℤ: sizes of sums and products, and a signed word's bits read back. Assumes nothing.
use mathlib.Core.Path.{◌≡◌, refl, ap}
use mathlib.Core.Bool.{Bool, true, false, cond}
use Prim.Native.Nat.{ℕ, zero, suc, ◌+◌, ◌*◌, ◌-◌, ◌^◌, ◌≤◌, ◌<◌}
use native.Mathlib.Nat.{le_refl, le-suc, lt_of_le_of_lt, mul-le-mul, zero-lt-suc, add_comm}
use native.Mathlib.Omega.{arith}
use lib.Dec.{ltb}
use lib.IntN.{ℤ, pos, negsuc, neg_ℤ, nat_abs, sub_ℕ, ◌+ℤ◌, ◌*ℤ◌}
use lib.Signed.{mag}
use mir.Syntax.{w64}
use mir.Val.{SFits, to_z, of_z}
use mir.Facts.{to_z-of_z}

pub abs-zero : (z : ℤ) → nat_abs z ≡ 0 → z ≡ pos 0
abs-zero (pos n) e = ap pos e
abs-zero (negsuc n) e = absurd (omega arith)

pub abs_neg : (z : ℤ) → nat_abs (neg_ℤ z) ≡ nat_abs z
abs_neg (pos zero) = refl
abs_neg (pos (suc n)) = refl
abs_neg (negsuc n) = refl

pub abs-mul : (x y : ℤ) → nat_abs (x *ℤ y) ≡ nat_abs x * nat_abs y
abs-mul (pos a) (pos b) = refl
abs-mul (pos a) (negsuc b) = abs_neg (pos (a * suc b))
abs-mul (negsuc a) (pos b) = abs_neg (pos (suc a * b))
abs-mul (negsuc a) (negsuc b) = refl

abs_cond : (t : Bool) (a b : ℕ) → 0 < b → nat_abs (cond t (negsuc (b - suc a)) (pos (a - b))) ≤ a + b
abs_cond true a b h = omega arith
abs_cond false a b h = omega arith

abs-sub : (a b : ℕ) → 0 < b → nat_abs (sub_ℕ a b) ≤ a + b
abs-sub a b h = abs_cond (ltb a b) a b h

pub abs-add : (x y : ℤ) → nat_abs (x +ℤ y) ≤ nat_abs x + nat_abs y
abs-add (pos a) (pos b) = le_refl (a + b)
abs-add (pos a) (negsuc b) = abs-sub a (suc b) (zero-lt-suc b)
abs-add (negsuc a) (pos b) = rw add_comm (abs-sub b (suc a) (zero-lt-suc a))
abs-add (negsuc a) (negsuc b) = omega arith

pub mag_le : (z : ℤ) → mag z ≤ nat_abs z
mag_le (pos n) = le_refl n
mag_le (negsuc n) = le-suc n

pub sfits_abs : (z : ℤ) → nat_abs z < 2 ^ 63 → SFits w64 z
sfits_abs z h = record { sfits = lt_of_le_of_lt (mag_le z) h }

-- the bits of a small number are read back as the number
pub read_back : (z : ℤ) → nat_abs z < 2 ^ 63 → to_z w64 (of_z w64 z) ≡ z
read_back z h = to_z-of_z (sfits_abs z h)

-- a product of two numbers of known sizes
pub abs-mul-le : (x y : ℤ) {m n : ℕ} → nat_abs x ≤ m → nat_abs y ≤ n → nat_abs (x *ℤ y) ≤ m * n
abs-mul-le x y h k = rw abs-mul (mul-le-mul h k)

-- a signed number passed on
pub back : (z : ℤ) → mag z < 2 ^ 63 → to_z w64 (of_z w64 z) ≡ z
back z h = to_z-of_z {w = w64} (record { sfits = h })
