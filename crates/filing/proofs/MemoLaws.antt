-- Values met, over plain values: the group of a value, and equal bits.
use Prim.Native.Nat.{ℕ, suc, ◌-◌, ◌<◌, ◌^◌}
use native.Mathlib.Omega.{arith}
use mathlib.Core.Bool.{Bool, true, false}
use mathlib.Core.Path.{◌≡◌, refl, sym, ◌∙◌}
use borrow.Author.Tests.{eq-eqb, ne_eqb, eqb-true, eqb-false}
use lib.Dec.{eqb}
use lib.IntN.{ℤ, pos, negsuc}
use lib.Signed.{mag}
use mir.Syntax.{w64}
use mir.Val.{of_z}
use Rattle.model.specs.Value.{compare_z, equal_z}
use Rattle.filing.specs.Memo.{key_group}

-- ---- the group of a value
pub key_small : (z : ℤ) → key_group z < 256
unfolding key_group
key_small z = omega arith

-- ---- equal bits
on : {P : Type 0} (b : Bool) → (b ≡ true → P) → (b ≡ false → P) → P
on true f g = f refl
on false f g = g refl

eqb_down : (N m n : ℕ) → m < N → n < N → eqb (N - suc m) (N - suc n) ≡ eqb n m
eqb_down N m n p q =
    on (eqb n m)
    (λ e. let h = eqb-true n m e in eq-eqb (N - suc m) (N - suc n) (omega arith) ∙ sym e)
    (λ e. let h = eqb-false n m e in ne_eqb (N - suc m) (N - suc n) (λ k. h (omega arith)) ∙ sym e)

pub same_bits : (a b : ℤ) → mag a < 2 ^ 63 → mag b < 2 ^ 63 → eqb (of_z w64 a) (of_z w64 b) ≡ equal_z a b
unfolding equal_z compare_z
same_bits (pos m) (pos n) p q = refl
same_bits (pos m) (negsuc n) p q = ne_eqb m (2 ^ 64 - suc n) (λ e. omega arith)
same_bits (negsuc m) (pos n) p q = ne_eqb (2 ^ 64 - suc m) n (λ e. omega arith)
same_bits (negsuc m) (negsuc n) p q = eqb_down (2 ^ 64) m n (omega arith) (omega arith)
