-- Sets of the variables 0 to 15 as numbers below 2 ^ 16 (01, "A variable belongs to the one block where it stands as
-- kind 2").
--   has_bit m v         variable v is in the set m
--   mask_below n p      the sum of 2 ^ v over the v below n with p v, lowest bit first
--   mask_of p           the set of the variables with p: the number whose bits below 16 are p
use Rattle.std.specs.Prelude.{ℕ, zero, suc, ◌+◌, ◌*◌, ◌/◌, ◌%◌, ◌^◌, Bool, cond, eqb}

abbrev pub has_bit : ℕ → ℕ → Bool
has_bit m v = eqb (m / 2 ^ v % 2) 1

unfoldable pub mask_below : ℕ → (ℕ → Bool) → ℕ
mask_below zero p = 0
mask_below (suc n) p = mask_below n (λ v. p (suc v)) * 2 + cond (p 0) 1 0

unfoldable pub mask_of : (ℕ → Bool) → ℕ
mask_of p = mask_below 16 p
