-- Laws of sets as masks: each is proved for masks of n bits by induction, lowest bit first, and then stated of 16.
use Prim.Native.Nat.{ℕ, zero, suc, ◌+◌, ◌*◌, ◌-◌, ◌/◌, ◌%◌, ◌^◌, ◌≤◌, ◌<◌, min, max}
use native.Mathlib.Nat.{pow-suc, add-zero}
use native.Mathlib.Omega.{arith}
use mathlib.Core.Bool.{Bool, true, false, ◌&&◌, ◌||◌, not, cond}
use mathlib.Core.List.{List, ◌∷◌}
use mathlib.Core.Path.{◌≡◌, refl, sym, ap, ap₂, ◌∙◌}
use borrow.Author.Tests.{ne_eqb}
use lib.Bits.{bit_and, bit_or, or_step, and_step}
use lib.Count.{ones, ones_step}
use lib.Dec.{eqb, eqb-zero-suc, eqb-suc-zero, eqb-suc-suc}
use lib.ListN.{length}
use lib.Pow.{shr-shr}
use Rattle.model.specs.Lists.{filter, sum_over, range}
use Rattle.model.proofs.ListEquations.{filter-keeps, filter-drops}
use Rattle.scope.specs.Masks.{has_bit, mask_below, mask_of}

-- ---- a digit
digit_small : (b : Bool) → cond b 1 0 < 2
digit_small true = omega arith
digit_small false = omega arith

digit_test : (b : Bool) → eqb (cond b 1 0) 1 ≡ b
digit_test true = refl
digit_test false = refl

digit_or : (a b : Bool) → max (cond a 1 0) (cond b 1 0) ≡ cond (a || b) 1 0
digit_or true true = refl
digit_or true false = refl
digit_or false true = refl
digit_or false false = refl

digit_and : (a b : Bool) → min (cond a 1 0) (cond b 1 0) ≡ cond (a && b) 1 0
digit_and true true = refl
digit_and true false = refl
digit_and false true = refl
digit_and false false = refl

digit_less : (a b : Bool) → cond (a && b) 1 0 + cond (a && not b) 1 0 ≡ cond a 1 0
digit_less true true = refl
digit_less true false = refl
digit_less false b = refl

-- ---- masks of n bits: their lowest digit, and the rest
below_low : (n : ℕ) (p : ℕ → Bool) → mask_below (suc n) p % 2 ≡ cond (p 0) 1 0
unfolding mask_below
below_low n p = omega (arith, digit_small (p 0))

below_half : (n : ℕ) (p : ℕ → Bool) → mask_below (suc n) p / 2 ≡ mask_below n (λ v. p (suc v))
unfolding mask_below
below_half n p = omega (arith, digit_small (p 0))

below_same : (n : ℕ) (p q : ℕ → Bool) → ((v : ℕ) → v < n → p v ≡ q v) → mask_below n p ≡ mask_below n q
unfolding mask_below
below_same zero p q h = refl
below_same (suc n) p q h =
    ap₂ (λ x b. x * 2 + cond b 1 0)
    (below_same n (λ v. p (suc v)) (λ v. q (suc v)) (λ v l. h (suc v) (omega arith)))
    (h 0 (omega arith))

below_bound : (n : ℕ) (p : ℕ → Bool) → mask_below n p < 2 ^ n
unfolding mask_below
below_bound zero p = omega arith
below_bound (suc n) p = omega (arith, pow-suc 2 n, digit_small (p 0), below_bound n (λ v. p (suc v)))

below_bit : (n : ℕ) (p : ℕ → Bool) (v : ℕ) → v < n → has_bit (mask_below n p) v ≡ p v
below_bit zero p v h = absurd (omega arith)
below_bit (suc n) p zero h =
    let e : mask_below (suc n) p / 1 % 2 ≡ cond (p 0) 1 0 = omega (arith, below_low n p) in
    ap (λ x. eqb x 1) e ∙ digit_test (p 0)
below_bit (suc n) p (suc v) h =
    let e : suc v ≡ 1 + v = omega arith in
    ap (λ k. eqb (mask_below (suc n) p / 2 ^ k % 2) 1) e
    ∙ ap (λ x. eqb (x % 2) 1) (sym (shr-shr (mask_below (suc n) p) 1 v))
    ∙ ap (λ x. eqb (x / 2 ^ v % 2) 1) (below_half n p)
    ∙ below_bit n (λ w. p (suc w)) v (omega arith)

below_none : (n : ℕ) → mask_below n (λ v. false) ≡ 0
unfolding mask_below
below_none zero = refl
below_none (suc n) = omega (arith, below_none n)

below_or : (n : ℕ) (p q : ℕ → Bool) → bit_or (mask_below n p) (mask_below n q) ≡ mask_below n (λ v. p v || q v)
unfolding mask_below
below_or zero p q = refl
below_or (suc n) p q =
    or_step (mask_below (suc n) p) (mask_below (suc n) q)
    ∙ ap₂ (λ x y. x * 2 + y)
    (ap₂ bit_or (below_half n p) (below_half n q) ∙ below_or n (λ v. p (suc v)) (λ v. q (suc v)))
    (ap₂ max (below_low n p) (below_low n q) ∙ digit_or (p 0) (q 0))

below_and : (n : ℕ) (p q : ℕ → Bool) → bit_and (mask_below n p) (mask_below n q) ≡ mask_below n (λ v. p v && q v)
unfolding mask_below
below_and zero p q = refl
below_and (suc n) p q =
    and_step (mask_below (suc n) p) (mask_below (suc n) q)
    ∙ ap₂ (λ x y. x * 2 + y)
    (ap₂ bit_and (below_half n p) (below_half n q) ∙ below_and n (λ v. p (suc v)) (λ v. q (suc v)))
    (ap₂ min (below_low n p) (below_low n q) ∙ digit_and (p 0) (q 0))

-- what both have, and what the first alone has, are the first
below_less : (n : ℕ) (p q : ℕ → Bool)
    → mask_below n (λ v. p v && q v) + mask_below n (λ v. p v && not (q v)) ≡ mask_below n p
unfolding mask_below
below_less zero p q = refl
below_less (suc n) p q = omega (arith, digit_less (p 0) (q 0), below_less n (λ v. p (suc v)) (λ v. q (suc v)))

below_power : (n i : ℕ) → i < n → 2 ^ i ≡ mask_below n (λ v. eqb v i)
unfolding mask_below
below_power zero i h = absurd (omega arith)
below_power (suc n) zero h =
    ap (λ x. x * 2 + 1)
    (sym (below_none n) ∙ below_same n (λ v. false) (λ v. eqb (suc v) 0) (λ v l. sym (eqb-suc-zero v)))
below_power (suc n) (suc i) h =
    pow-suc 2 i
    ∙ sym (add-zero (2 ^ i * 2))
    ∙ ap₂ (λ x b. x * 2 + cond b 1 0)
    (below_power n i (omega arith)
    ∙ below_same n (λ v. eqb v i) (λ v. eqb (suc v) (suc i)) (λ v l. sym (eqb-suc-suc v i)))
    (sym (eqb-zero-suc i))

-- ---- how many
filter-first : (p : ℕ → Bool) (x : ℕ) (xs : List ℕ) → length (filter p (x ∷ xs)) ≡ cond (p x) 1 0 + length (filter p xs)
filter-first p x xs = go (p x) refl
  where
    go : (b : Bool) → p x ≡ b → length (filter p (x ∷ xs)) ≡ cond (p x) 1 0 + length (filter p xs)
    go true e = rw (filter-keeps p x xs e, e) (omega arith)
    go false e = rw (filter-drops p x xs e, e) (omega arith)

filter-later : (p : ℕ → Bool) (a n : ℕ)
    → length (filter p (range (suc a) n)) ≡ length (filter (λ v. p (suc v)) (range a n))
unfolding range filter
filter-later p a zero = refl
filter-later p a (suc n) =
    filter-first p (suc a) (range (suc (suc a)) n)
    ∙ ap (λ x. cond (p (suc a)) 1 0 + x) (filter-later p (suc a) n)
    ∙ sym (filter-first (λ v. p (suc v)) a (range (suc a) n))

below_ones : (n : ℕ) (p : ℕ → Bool) → ones (mask_below n p) ≡ length (filter p (range 0 n))
unfolding range filter mask_below ones
below_ones zero p = refl
below_ones (suc n) p =
    ones_step (mask_below (suc n) p)
    ∙ ap₂ (λ x y. x + ones y) (below_low n p) (below_half n p)
    ∙ ap (λ x. cond (p 0) 1 0 + x) (below_ones n (λ v. p (suc v)) ∙ sym (filter-later p 0 n))
    ∙ sym (filter-first p 0 (range 1 n))

-- ---- as a sum
bits : (ℕ → Bool) → ℕ → ℕ
bits p v = cond (p v) (2 ^ v) 0

bits_later : (p : ℕ → Bool) (v : ℕ) → bits p (suc v) ≡ bits (λ w. p (suc w)) v * 2
unfolding bits
bits_later p v = go (p (suc v))
  where
    go : (b : Bool) → cond b (2 ^ suc v) 0 ≡ cond b (2 ^ v) 0 * 2
    go true = pow-suc 2 v
    go false = refl

bits_first : (p : ℕ → Bool) → bits p 0 ≡ cond (p 0) 1 0
unfolding bits
bits_first p = refl

sum-later : (p : ℕ → Bool) (a n : ℕ)
    → sum_over (bits p) (range (suc a) n) ≡ sum_over (bits (λ w. p (suc w))) (range a n) * 2
unfolding range sum_over
sum-later p a zero = refl
sum-later p a (suc n) = omega (arith, bits_later p a, sum-later p (suc a) n)

below_sum : (n : ℕ) (p : ℕ → Bool) → mask_below n p ≡ sum_over (bits p) (range 0 n)
unfolding mask_below range sum_over
below_sum zero p = refl
below_sum (suc n) p = omega (arith, below_sum n (λ v. p (suc v)), sum-later p 0 n, bits_first p)

-- ---- masks of variables
pub mask_sum : (p : ℕ → Bool) → mask_of p ≡ sum_over (λ v. cond (p v) (2 ^ v) 0) (range 0 16)
unfolding mask_of bits
mask_sum p = below_sum 16 p

pub mask_bit : (p : ℕ → Bool) (v : ℕ) → v < 16 → has_bit (mask_of p) v ≡ p v
unfolding mask_of
mask_bit p v h = below_bit 16 p v h

pub mask_bound : (p : ℕ → Bool) → mask_of p < 2 ^ 16
unfolding mask_of
mask_bound p = below_bound 16 p

pub mask_same : (p q : ℕ → Bool) → ((v : ℕ) → v < 16 → p v ≡ q v) → mask_of p ≡ mask_of q
unfolding mask_of
mask_same p q h = below_same 16 p q h

pub mask_none : mask_of (λ v. false) ≡ 0
unfolding mask_of
mask_none = below_none 16

pub mask_or : (p q : ℕ → Bool) → bit_or (mask_of p) (mask_of q) ≡ mask_of (λ v. p v || q v)
unfolding mask_of
mask_or p q = below_or 16 p q

pub mask_and : (p q : ℕ → Bool) → bit_and (mask_of p) (mask_of q) ≡ mask_of (λ v. p v && q v)
unfolding mask_of
mask_and p q = below_and 16 p q

pub mask_part : (p q : ℕ → Bool) → mask_of (λ v. p v && q v) ≤ mask_of p
unfolding mask_of
mask_part p q = omega (arith, below_less 16 p q)

pub mask_less : (p q : ℕ → Bool) → mask_of p - mask_of (λ v. p v && q v) ≡ mask_of (λ v. p v && not (q v))
unfolding mask_of
mask_less p q = omega (arith, below_less 16 p q)

pub mask_power : (i : ℕ) → i < 16 → 2 ^ i ≡ mask_of (λ v. eqb v i)
unfolding mask_of
mask_power i h = below_power 16 i h

pub mask_with : (p : ℕ → Bool) (i : ℕ) → i < 16 → bit_or (mask_of p) (2 ^ i) ≡ mask_of (λ v. p v || eqb v i)
mask_with p i h = ap (bit_or (mask_of p)) (mask_power i h) ∙ mask_or p (λ v. eqb v i)

pub mask_ones : (p : ℕ → Bool) → ones (mask_of p) ≡ length (filter p (range 0 16))
unfolding mask_of
mask_ones p = below_ones 16 p

-- the set of a variable that is none of 0 to 15 is empty
pub mask_other : (i : ℕ) → 16 ≤ i → 0 ≡ mask_of (λ v. eqb v i)
mask_other i h = sym (mask_same (λ v. eqb v i) (λ v. false) (λ v l. ne_eqb v i (λ e. omega arith)) ∙ mask_none)
