-- Laws of the greatest common divisor by Euclid; equal ratios in lowest terms have equal denominators.
use Prim.Native.Nat.{ℕ, zero, suc, ◌*◌, ◌-◌, ◌/◌, ◌%◌, ◌<◌, ◌∣◌}
use native.Mathlib.Nat.{dvd_refl, dvd-zero, dvd-mod_iff, mod-lt, mod_def, mul-div-mul_left, mul-sub, mul-pos}
use native.Mathlib.Nat.{mul_assoc, mul_comm, mul-zero, mul-le-mul_left}
use native.Mathlib.Omega.{arith}
use mathlib.Core.Path.{◌≡◌, refl, sym, ◌∙◌, ap, ap₂}
use Rattle.model.specs.Value.{gcd_in, gcd}

step : (n a b : ℕ) → 0 < b → gcd_in (suc n) a b ≡ gcd_in n b (a % b)
unfolding gcd_in
step n a zero h = absurd (omega arith)
step n a (suc b) h = refl

at_zero : (n a : ℕ) → gcd_in n a 0 ≡ a
unfolding gcd_in
at_zero zero a = refl
at_zero (suc n) a = refl

gcd_dvd : (n a b : ℕ) → b < n → (gcd_in n a b ∣ a) × (gcd_in n a b ∣ b)
unfolding gcd_in
gcd_dvd zero a b h = absurd (omega arith)
gcd_dvd (suc n) a zero h = (dvd_refl a, dvd-zero a)
gcd_dvd (suc n) a (suc b) h =
    let l : a % suc b < suc b = mod-lt a (omega arith) in
    let r = gcd_dvd n (suc b) (a % suc b) (omega arith) in
    ((dvd-mod_iff (gcd_in n (suc b) (a % suc b)) r.0).0 r.1, r.0)

mod_scale : (k a b : ℕ) → 0 < k → (k * a) % (k * b) ≡ k * (a % b)
mod_scale k a b h = mod_def (k * a) (k * b) ∙ ap (λ t. k * a - k * b * t) (mul-div-mul_left a b h)
    ∙ ap (λ t. k * a - t) (mul_assoc k b (a / b)) ∙ sym (mul-sub k a (b * (a / b)))
    ∙ ap (λ t. k * t) (sym (mod_def a b))

gcd_scale : (k n m a b : ℕ) → 0 < k → b < n → k * b < m → gcd_in m (k * a) (k * b) ≡ k * gcd_in n a b
unfolding gcd_in
gcd_scale k zero m a b h l u = absurd (omega arith)
gcd_scale k (suc n) m a zero h l u = rw (mul-zero k) (at_zero m (k * a))
gcd_scale k (suc n) zero a (suc b) h l u = absurd (omega arith)
gcd_scale k (suc n) (suc m) a (suc b) h l u =
    let p : 0 < k * suc b = mul-pos h (omega arith) in
    let r : a % suc b < suc b = mod-lt a (omega arith) in
    step m (k * a) (k * suc b) p ∙ ap (λ t. gcd_in m (k * suc b) t) (mod_scale k a (suc b) h)
    ∙ gcd_scale k n m (suc b) (a % suc b) h (omega arith) (omega (arith, mul-le-mul_left k r))

pub scale : (k a b : ℕ) → 0 < k → gcd (k * a) (k * b) ≡ k * gcd a b
unfolding gcd
scale k a b h = gcd_scale k (suc b) (suc (k * b)) a b h (omega arith) (omega arith)

pub gcd-left : (a b : ℕ) → gcd a b ∣ a
unfolding gcd
gcd-left a b = (gcd_dvd (suc b) a b (omega arith)).0

pub gcd-right : (a b : ℕ) → gcd a b ∣ b
unfolding gcd
gcd-right a b = (gcd_dvd (suc b) a b (omega arith)).1

pub pos_factor : (g x d : ℕ) → g * x ≡ d → 0 < d → 0 < x
pos_factor g zero d e h = absurd (omega (arith, mul-zero g))
pos_factor g (suc x) d e h = omega arith

pub coprime-den : (n d n' d' : ℕ) → 0 < d → 0 < d' → gcd n d ≡ 1 → gcd n' d' ≡ 1 → n * d' ≡ n' * d → d ≡ d'
coprime-den n d n' d' h h' p q e =
    let s : d' * gcd n d ≡ d * gcd n' d' =
    sym (scale d' n d h') ∙ ap₂ gcd (mul_comm d' n ∙ e ∙ mul_comm n' d) (mul_comm d' d) ∙ scale d n' d' h in
    let t : d' * 1 ≡ d * 1 = rw (p, q) at s in omega arith
