-- A ratio divided through, and the average by its cases. Assumes nothing.
use Prim.Native.Nat.{ℕ, zero, suc, ◌^◌, ◌/◌, ◌<◌, ◌≤◌}
use native.Mathlib.Nat.{pos_of_dvd_of_pos, div-le_self, le_trans, le_of_dvd}
use native.Mathlib.Omega.{arith}
use mathlib.Core.Bool.{true}
use mathlib.Core.Path.{◌≡◌, refl, ◌∙◌, ap, ap₂}
use mir.Facts.{to_z_pos}
use mir.Syntax.{w64}
use mir.Val.{SFits, to_z, of_z}
use borrow.Author.Tests.{le-leb}
use lib.Dec.{leb}
use lib.IntN.{ℤ, pos, negsuc, nat_abs}
use lib.Signed.{quot_z}
use Rattle.std.specs.Prelude.{Some}
use Rattle.model.specs.Value as model
use Rattle.model.specs.Value.{gcd, div_z}
use Rattle.model.proofs.GcdLaws.{gcd-right}
use Rattle.value.specs.declared.Value.{Value}
use Rattle.value.specs.Exact.{in_words, lowest_of, average_of}
use Rattle.value.proofs.Ints.{abs_neg, sfits_abs, read_back}

-- the machine's division toward zero
pub quot_div : (n : ℤ) (k : ℕ) → quot_z n (pos k) ≡ div_z n k
unfolding div_z
quot_div (pos n) k = refl
quot_div (negsuc n) k = refl

div-abs : (x : ℤ) (g : ℕ) → nat_abs (div_z x g) ≤ nat_abs x
unfolding div_z
div-abs (pos n) g = div-le_self n g
div-abs (negsuc n) g = rw abs_neg (div-le_self (suc n) g)

-- a numerator and a denominator divided through
module _ (n : ℤ) (m d g : ℕ) (m-is : m ≡ nat_abs n) (g-is : g ≡ gcd m d) (small : nat_abs n ≤ 256000000000000000)
    (some : 0 < d) (few : d ≤ 256) where
  e : g ≡ gcd (nat_abs n) d
  e = g-is ∙ ap (λ k. gcd k d) m-is

  pub divisor_pos : 0 < g
  divisor_pos = rw e (pos_of_dvd_of_pos (gcd-right (nat_abs n) d) some)

  pub divisor_few : g ≤ 256
  divisor_few = rw e (le_trans (le_of_dvd some (gcd-right (nat_abs n) d)) few)

  divided : quot_z (to_z w64 (of_z w64 n)) (to_z w64 g) ≡ div_z n g
  divided =
      let h : g < 2 ^ 63 = omega (arith, divisor_few) in
      let k : nat_abs n < 2 ^ 63 = omega arith in
      rw (read_back n k, to_z_pos w64 h) (quot_div n g)

  divided-small : nat_abs (div_z n g) < 2 ^ 63
  divided-small = omega (arith, div-abs n g)

  pub divided_fits : SFits w64 (quot_z (to_z w64 (of_z w64 n)) (to_z w64 g))
  divided_fits = rw divided (sfits_abs (div_z n g) divided-small)

  low_small : d / g < 2 ^ 63
  low_small = omega (arith, div-le_self d g)

  pub low_fits : SFits w64 (pos (d / g))
  low_fits = sfits_abs (pos (d / g)) low_small

  pub lowest_is : ◌≡◌ {A = Value}
      (record { num = to_z w64 (of_z w64 (quot_z (to_z w64 (of_z w64 n)) (to_z w64 g))); den = to_z w64 (d / g) })
      (lowest_of n d)
  unfolding model.ratio
  lowest_is =
      ap₂ (λ a b. record { num = a; den = b })
      (ap (λ z. to_z w64 (of_z w64 z)) divided ∙ read_back (div_z n g) divided-small ∙ ap (div_z n) e)
      (to_z_pos w64 low_small ∙ ap (λ k. pos (d / k)) e)

-- the average, by its cases
pub average_of_lem : (s : ℤ) (n : ℕ) → 0 < n → n ≤ 256 → leb (nat_abs s) 256000000000000000 ≡ true
    → average_of s n ≡ Some (lowest_of s n)
unfolding average_of
average_of_lem s zero h k e = absurd (omega arith)
average_of_lem s (suc n) h k e = simp (le-leb (suc n) 256 k, e)

pub average_none : (s : ℤ) → average_of s 0 ≡ Some (in_words model.absent)
unfolding average_of
average_none s = refl
