-- Signed words: two's complement of 32 bits, the sign of a 64-bit number in its text, and the tests that it is 0 or 1.
use Prim.Native.Nat.{ℕ, suc, ◌-◌, ◌<◌, ◌^◌}
use native.Mathlib.Omega.{arith}
use mathlib.Core.Bool.{true, false}
use mathlib.Core.List.{◌∷◌}
use mathlib.Core.Path.{◌≡◌, refl, subst}
use borrow.Author.Tests.{ltb-true, ne_eqb}
use lib.Dec.{T, eqb}
use lib.IntN.{ℤ, pos, negsuc, nat_abs}
use lib.Signed.{lt_z}
use mir.Facts.{to_z-of_z}
use mir.Syntax.{w32, w64}
use Rattle.std.proofs.lemmas.Int.{ints}
use mir.Val.{to_z, of_z, SFits}
use Rattle.model.specs.Listing.{signed32, digits, integer_text}
use Rattle.job.specs.Texts.{is_zero, is_one}

-- two's complement
pub signed_is : (n : ℕ) → n < 4294967296 → to_z w32 n ≡ signed32 n
unfolding signed32
signed_is n h = grind (arith, ints)

minus_text : (n : ℕ) → integer_text (negsuc n) ≡ 45 ∷ digits (suc n)
unfolding integer_text
minus_text n = refl

plain-text : (n : ℕ) → integer_text (pos n) ≡ digits n
unfolding integer_text
plain-text n = refl

module _ (x : ℤ) (f : SFits w64 x) where
  -- the test against 0, by the text of the number
  pub text-negative : lt_z (to_z w64 (of_z w64 x)) (pos 0) ≡ true → integer_text x ≡ 45 ∷ digits (nat_abs x)
  text-negative = rw (to_z-of_z f) (λ e. go x e)
    where
      go : (x : ℤ) → lt_z x (pos 0) ≡ true → integer_text x ≡ 45 ∷ digits (nat_abs x)
      go (pos n) e = absurd (omega (arith, ltb-true n 0 e))
      go (negsuc n) e = minus_text n

  pub text-plain : lt_z (to_z w64 (of_z w64 x)) (pos 0) ≡ false → integer_text x ≡ digits (nat_abs x)
  text-plain = rw (to_z-of_z f) (λ e. go x e)
    where
      go : (x : ℤ) → lt_z x (pos 0) ≡ false → integer_text x ≡ digits (nat_abs x)
      go (pos n) e = plain-text n
      go (negsuc n) e = absurd (subst T e tt)

  pub zero_is : eqb (of_z w64 x) 0 ≡ is_zero x
  zero_is = go x f
    where
      go : (x : ℤ) → SFits w64 x → eqb (of_z w64 x) 0 ≡ is_zero x
      go (pos n) f = refl
      go (negsuc n) f = ne_eqb (2 ^ 64 - suc n) 0 (λ e. let b = f.sfits in omega arith)

  pub one-is : eqb (of_z w64 x) 1 ≡ is_one x
  one-is = go x f
    where
      go : (x : ℤ) → SFits w64 x → eqb (of_z w64 x) 1 ≡ is_one x
      go (pos n) f = refl
      go (negsuc n) f = ne_eqb (2 ^ 64 - suc n) 1 (λ e. let b = f.sfits in omega arith)
