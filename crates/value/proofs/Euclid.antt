-- Euclid's step: the model's greatest common divisor by one call of itself. Assumes nothing.
use Prim.Native.Nat.{ℕ, zero, suc, ◌%◌, ◌<◌}
use native.Mathlib.Nat.{mod-lt, zero-lt-suc, lt_of_lt_of_le, le_of_suc-le-suc, not-suc-le-zero, lt-suc_self}
use mathlib.Core.Path.{◌≡◌, refl}
use Rattle.model.specs.Value.{gcd, gcd_in}

-- more steps than it takes change nothing
enough : (n m a b : ℕ) → b < n → b < m → gcd_in n a b ≡ gcd_in m a b
unfolding gcd_in
enough zero m a b h k = absurd (not-suc-le-zero h)
enough (suc n) zero a b h k = absurd (not-suc-le-zero k)
enough (suc n) (suc m) a zero h k = refl
enough (suc n) (suc m) a (suc b) h k =
    let l = mod-lt a (zero-lt-suc b) in
    enough n m (suc b) (a % suc b) (lt_of_lt_of_le l (le_of_suc-le-suc h)) (lt_of_lt_of_le l (le_of_suc-le-suc k))

pub gcd-zero : (a : ℕ) → gcd a 0 ≡ a
unfolding gcd gcd_in
gcd-zero a = refl

pub gcd_step : (a b : ℕ) → 0 < b → gcd a b ≡ gcd b (a % b)
unfolding gcd gcd_in
gcd_step a zero h = absurd (not-suc-le-zero h)
gcd_step a (suc b) h =
    enough (suc b) (suc (a % suc b)) (suc b) (a % suc b) (mod-lt a (zero-lt-suc b)) (lt-suc_self (a % suc b))
