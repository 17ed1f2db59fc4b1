-- Integers and values in order: the order of values that are in lowest terms or absent is linear; `ratio` gives lowest
-- terms and the same value.
--   linear_z            the order of integers is linear; linear_present: that of values in lowest terms
--   compare-lt, compare-gt   a native comparison by what holds of the numbers
--   is-less, is_greater, is_equal   the machine's tests of two integers tell their order
--   Lowest x           x is in lowest terms; Proper x: or absent
--   linear_value        the order of proper values is linear, so equal ones are the same numerator and denominator
--   absent_before       absent stands before every value that is present; absent-same: and is equal to itself
--   absent-meets_nothing   absent meets no operator, on either side
use Prim.Native.Nat.{ℕ, zero, suc, ◌*◌, ◌/◌, ◌<◌, ◌≤◌, compare, Ordering}
use Prim.Native.Nat.compare
use native.Mathlib.Nat.{mul-lt-mul_of_pos_right, mul-pos, zero-mul, mul-one, mul-div_cancel', eq_of_mul-eq-mul_left}
use native.Mathlib.Nat.{pos_of_dvd_of_pos, eq-one_of_dvd-one}
use native.Mathlib.Omega.{arith}
use mathlib.Core.Bool.{true, false}
use mathlib.Core.Path.{◌≡◌, refl, sym, ◌∙◌, ap, ap₂, subst}
use borrow.Author.Tests.{ltb-true, ltb-false}
use lib.Dec.{T, compare_is_eq, eqb→eq, ltb, leb-zero, leb-suc-suc}
use lib.IntN.{ℤ, pos, negsuc, nat_abs, neg_ℤ, ◌*ℤ◌}
use lib.Signed.{lt_z}
use Rattle.model.specs.Value.{Value, whole, absent, present, gcd, div_z, ratio, compare_z, order_present}
use Rattle.model.specs.Value.{absent_first, test_of, order, meets}
use Rattle.model.proofs.GcdLaws.{scale, gcd-left, gcd-right, pos_factor, coprime-den}
use Rattle.model.proofs.SetLaws.{Linear}

pub never : {A : Type 0} → Ordering.lt ≡ Ordering.eq → A
never e = let z : ◌≡◌ {A = ℕ} 0 1 = cc in absurd (omega arith)

-- the native comparison
pub compare_same : (m n : ℕ) → compare m n ≡ Ordering.eq → m ≡ n
compare_same m n e = eqb→eq m n (subst (λ o. T (compare_is_eq o)) (sym e) tt)

pub compare_self : (n : ℕ) → compare n n ≡ Ordering.eq
compare_self zero = refl
compare_self (suc n) = compare.suc-suc n n ∙ compare_self n

pub compare_turn : (m n : ℕ) → compare m n ≡ Ordering.gt → compare n m ≡ Ordering.lt
compare_turn zero zero e = cc
compare_turn zero (suc n) e = cc (compare.zero-suc n)
compare_turn (suc m) zero e = compare.zero-suc m
compare_turn (suc m) (suc n) e = compare.suc-suc n m ∙ compare_turn m n (sym (compare.suc-suc m n) ∙ e)

pub compare_chain : (k m n : ℕ) → compare k m ≡ Ordering.lt → compare m n ≡ Ordering.lt → compare k n ≡ Ordering.lt
compare_chain zero m zero e f = to m f
  where
    to : (m : ℕ) → compare m zero ≡ Ordering.lt → Ordering.eq ≡ Ordering.lt
    to zero h = h
    to (suc m) h = cc (compare.suc-zero m)
compare_chain zero m (suc n) e f = compare.zero-suc n
compare_chain (suc k) zero n e f = cc (compare.suc-zero k)
compare_chain (suc k) (suc m) zero e f = cc (compare.suc-zero m)
compare_chain (suc k) (suc m) (suc n) e f =
    compare.suc-suc k n ∙ compare_chain k m n (sym (compare.suc-suc k m) ∙ e) (sym (compare.suc-suc m n) ∙ f)

-- the integers
pub linear_z : Linear (λ x. Unit {0}) compare_z
unfolding compare_z
linear_z = record {
  same = λ x y p q. same x y;
  self = self;
  turn = λ x y p q. turn x y;
  chain =
      λ x y z p q r. chain x y z;
}
  where
    same : (x y : ℤ) → compare_z x y ≡ Ordering.eq → x ≡ y
    same (pos m) (pos n) e = ap pos (compare_same m n e)
    same (pos m) (negsuc n) e = cc
    same (negsuc m) (pos n) e = cc
    same (negsuc m) (negsuc n) e = ap negsuc (sym (compare_same n m e))

    self : (x : ℤ) → compare_z x x ≡ Ordering.eq
    self (pos m) = compare_self m
    self (negsuc m) = compare_self m

    turn : (x y : ℤ) → compare_z x y ≡ Ordering.gt → compare_z y x ≡ Ordering.lt
    turn (pos m) (pos n) e = compare_turn m n e
    turn (pos m) (negsuc n) e = refl
    turn (negsuc m) (pos n) e = cc
    turn (negsuc m) (negsuc n) e = compare_turn n m e

    chain : (x y z : ℤ) → compare_z x y ≡ Ordering.lt → compare_z y z ≡ Ordering.lt → compare_z x z ≡ Ordering.lt
    chain (pos k) (pos m) (pos n) e f = compare_chain k m n e f
    chain (pos k) (pos m) (negsuc n) e f = cc
    chain (pos k) (negsuc m) z e f = cc
    chain (negsuc k) y (pos n) e f = refl
    chain (negsuc k) (pos m) (negsuc n) e f = cc
    chain (negsuc k) (negsuc m) (negsuc n) e f = compare_chain n m k f e

-- a native comparison from what holds of the numbers, and back
pub compare-lt : (m n : ℕ) → m < n → compare m n ≡ Ordering.lt
compare-lt zero zero h = absurd (omega arith)
compare-lt zero (suc n) h = compare.zero-suc n
compare-lt (suc m) zero h = absurd (omega arith)
compare-lt (suc m) (suc n) h = compare.suc-suc m n ∙ compare-lt m n (omega arith)

lt-compare : (m n : ℕ) → compare m n ≡ Ordering.lt → m < n
lt-compare zero zero e = let z : ◌≡◌ {A = ℕ} 0 1 = cc (compare_self 0) in absurd (omega arith)
lt-compare zero (suc n) e = omega arith
lt-compare (suc m) zero e = let z : ◌≡◌ {A = ℕ} 0 1 = cc (compare.suc-zero m) in absurd (omega arith)
lt-compare (suc m) (suc n) e = omega (arith, lt-compare m n (sym (compare.suc-suc m n) ∙ e))

pub compare-gt : (m n : ℕ) → n < m → compare m n ≡ Ordering.gt
compare-gt zero n h = absurd (omega arith)
compare-gt (suc m) zero h = compare.suc-zero m
compare-gt (suc m) (suc n) h = compare.suc-suc m n ∙ compare-gt m n (omega arith)

compare-eq : (m n : ℕ) → n ≤ m → m ≤ n → compare m n ≡ Ordering.eq
compare-eq m n h k = let e : m ≡ n = omega arith in rw e (compare_self n)

-- the machine's tests of two integers tell their order
pub is-less : (a b : ℤ) → lt_z a b ≡ true → compare_z a b ≡ Ordering.lt
unfolding compare_z
is-less (pos m) (pos n) e = compare-lt m n (ltb-true m n e)
is-less (pos m) (negsuc n) e = absurd (subst T (sym e) tt)
is-less (negsuc m) (pos n) e = refl
is-less (negsuc m) (negsuc n) e = compare-lt n m (ltb-true n m e)

pub is_greater : (a b : ℤ) → lt_z b a ≡ true → compare_z a b ≡ Ordering.gt
unfolding compare_z
is_greater (pos m) (pos n) e = compare-gt m n (ltb-true n m e)
is_greater (pos m) (negsuc n) e = refl
is_greater (negsuc m) (pos n) e = absurd (subst T (sym e) tt)
is_greater (negsuc m) (negsuc n) e = compare-gt n m (ltb-true m n e)

pub is_equal : (a b : ℤ) → lt_z a b ≡ false → lt_z b a ≡ false → compare_z a b ≡ Ordering.eq
unfolding compare_z
is_equal (pos m) (pos n) e f = compare-eq m n (ltb-false m n e) (ltb-false n m f)
is_equal (pos m) (negsuc n) e f = absurd (subst T f tt)
is_equal (negsuc m) (pos n) e f = absurd (subst T e tt)
is_equal (negsuc m) (negsuc n) e f = compare-eq n m (ltb-false n m e) (ltb-false m n f)

-- a positive factor changes no comparison
compare_scale : (a b k : ℕ) → 0 < k → compare (a * k) (b * k) ≡ compare a b
compare_scale a b k h = go (compare a b) refl
  where
    go : (o : Ordering) → compare a b ≡ o → compare (a * k) (b * k) ≡ compare a b
    go Ordering.lt e = compare-lt (a * k) (b * k) (mul-lt-mul_of_pos_right (lt-compare a b e) h) ∙ sym e
    go Ordering.eq e = ap (λ z. compare z (b * k)) (ap (λ z. z * k) (compare_same a b e)) ∙ compare_self (b * k) ∙ sym e
    go Ordering.gt e =
        compare-gt (a * k) (b * k) (mul-lt-mul_of_pos_right (lt-compare b a (compare_turn a b e)) h) ∙ sym e

above_neg : (n m : ℕ) → 0 < m → compare_z (pos n) (neg_ℤ (pos m)) ≡ Ordering.gt
unfolding compare_z
above_neg n zero h = absurd (omega arith)
above_neg n (suc m) h = refl

below_pos : (n m : ℕ) → 0 < m → compare_z (neg_ℤ (pos m)) (pos n) ≡ Ordering.lt
unfolding compare_z
below_pos n zero h = absurd (omega arith)
below_pos n (suc m) h = refl

compare_neg : (m n : ℕ) → 0 < m → 0 < n → compare_z (neg_ℤ (pos m)) (neg_ℤ (pos n)) ≡ compare n m
unfolding compare_z
compare_neg zero n h k = absurd (omega arith)
compare_neg (suc m) zero h k = absurd (omega arith)
compare_neg (suc m) (suc n) h k = sym (compare.suc-suc n m)

pub scale_z : (x y : ℤ) (k : ℕ) → 0 < k → compare_z (x *ℤ pos k) (y *ℤ pos k) ≡ compare_z x y
unfolding compare_z
scale_z (pos a) (pos b) k h = compare_scale a b k h
scale_z (pos a) (negsuc b) k h = above_neg (a * k) (suc b * k) (mul-pos (omega arith) h)
scale_z (negsuc a) (pos b) k h = below_pos (b * k) (suc a * k) (mul-pos (omega arith) h)
scale_z (negsuc a) (negsuc b) k h = compare_neg (suc a * k) (suc b * k) (mul-pos (omega arith) h)
    (mul-pos (omega arith) h) ∙ compare_scale (suc b) (suc a) k h ∙ compare.suc-suc b a

neg_mul : (m b : ℕ) → neg_ℤ (pos m) *ℤ pos b ≡ neg_ℤ (pos (m * b))
neg_mul zero b = rw zero-mul
neg_mul (suc m) b = refl

swap_factors : (x : ℤ) (a b : ℕ) → x *ℤ pos a *ℤ pos b ≡ x *ℤ pos b *ℤ pos a
swap_factors (pos n) a b = ap pos (omega arith)
swap_factors (negsuc n) a b = let e : suc n * a * b ≡ suc n * b * a = omega arith in
    neg_mul (suc n * a) b ∙ ap (λ z. neg_ℤ (pos z)) e ∙ sym (neg_mul (suc n * b) a)

neg_abs : (x : ℤ) → nat_abs (neg_ℤ x) ≡ nat_abs x
neg_abs (pos zero) = refl
neg_abs (pos (suc n)) = refl
neg_abs (negsuc n) = refl

mul-abs : (x : ℤ) (k : ℕ) → nat_abs (x *ℤ pos k) ≡ nat_abs x * k
mul-abs (pos n) k = refl
mul-abs (negsuc n) k = neg_abs (pos (suc n * k))

-- a value in lowest terms
pub record Lowest (x : Value) : Type 0 where
  pub positive : 0 < x.den
  pub coprime : gcd (nat_abs x.num) x.den ≡ 1

pub whole_lowest : (x : ℤ) → Lowest (whole x)
whole_lowest x = record { positive = omega arith; coprime = eq-one_of_dvd-one (gcd-right (nat_abs x) 1) }

-- the same value in lowest terms is the same numerator and denominator
same_value : (x y : Value) → Lowest x → Lowest y → x.num *ℤ pos y.den ≡ y.num *ℤ pos x.den → x ≡ y
same_value x y p q e = ap₂ (λ a b. record { num = a; den = b }) nums dens
  where
    dens : x.den ≡ y.den
    dens = coprime-den (nat_abs x.num) x.den (nat_abs y.num) y.den p.positive q.positive p.coprime
        q.coprime (sym (mul-abs x.num y.den) ∙ ap nat_abs e ∙ mul-abs y.num x.den)

    crossed : compare_z (x.num *ℤ pos x.den) (y.num *ℤ pos x.den) ≡ Ordering.eq
    crossed = ap (λ z. compare_z z (y.num *ℤ pos x.den)) (ap (λ k. x.num *ℤ pos k) dens ∙ e)
        ∙ linear_z.self (y.num *ℤ pos x.den)

    nums : x.num ≡ y.num
    nums = linear_z.same x.num y.num tt tt (sym (scale_z x.num y.num x.den p.positive) ∙ crossed)

order_chain : (x y z : Value) → Lowest x → Lowest y → Lowest z → order_present x y ≡ Ordering.lt
    → order_present y z ≡ Ordering.lt → order_present x z ≡ Ordering.lt
unfolding order_present
order_chain x y z p q r e f =
    let X = x.num in let Y = y.num in let Z = z.num in
    let a = x.den in let b = y.den in let c = z.den in
    let e' : compare_z (X *ℤ pos b *ℤ pos c) (Y *ℤ pos a *ℤ pos c) ≡ Ordering.lt =
    scale_z (X *ℤ pos b) (Y *ℤ pos a) c r.positive ∙ e in
    let f' : compare_z (Y *ℤ pos c *ℤ pos a) (Z *ℤ pos b *ℤ pos a) ≡ Ordering.lt =
    scale_z (Y *ℤ pos c) (Z *ℤ pos b) a p.positive ∙ f in
    let g : compare_z (X *ℤ pos b *ℤ pos c) (Z *ℤ pos b *ℤ pos a) ≡ Ordering.lt =
    linear_z.chain (X *ℤ pos b *ℤ pos c) (Y *ℤ pos a *ℤ pos c) (Z *ℤ pos b *ℤ pos a) tt tt tt e'
    (ap (λ t. compare_z t (Z *ℤ pos b *ℤ pos a)) (swap_factors Y a c) ∙ f') in
    sym (scale_z (X *ℤ pos c) (Z *ℤ pos a) b q.positive) ∙ ap₂ compare_z (swap_factors X c b) (swap_factors Z a b) ∙ g

linear_present : Linear Lowest order_present
unfolding order_present
linear_present =
    record {
      same = λ x y p q e. same_value x y p q (linear_z.same (x.num *ℤ pos y.den) (y.num *ℤ pos x.den) tt tt e);
      self = λ x. linear_z.self (x.num *ℤ pos x.den);
      turn = λ x y p q. linear_z.turn (x.num *ℤ pos y.den) (y.num *ℤ pos x.den) tt tt;
      chain = order_chain;
    }

-- a value of a set: in lowest terms, or absent
pub data Proper : Value → Type 0 where
  lowest : {x : Value} → Lowest x → Proper x
  nothing : Proper absent

pub whole_proper : (x : ℤ) → Proper (whole x)
whole_proper x = lowest (whole_lowest x)

pub present-true : (x : Value) → 0 < x.den → present x ≡ true
unfolding present
present-true x h = go x.den h
  where
    go : (d : ℕ) → 0 < d → ltb 0 d ≡ true
    go zero h = absurd (omega arith)
    go (suc d) h = leb-suc-suc 0 d ∙ leb-zero d

-- where both are present, the order is that of the cross products
pub both_present : (x y : Value) → 0 < x.den → 0 < y.den → order x y ≡ order_present x y
unfolding order
both_present x y h k = go x.den y.den h k
  where
    go : (d e : ℕ) → 0 < d → 0 < e → absent_first d e (order_present x y) ≡ order_present x y
    go zero e h k = absurd (omega arith)
    go (suc d) zero h k = absurd (omega arith)
    go (suc d) (suc e) h k = refl

pub absent_before : (y : Value) → 0 < y.den → order absent y ≡ Ordering.lt
unfolding order
absent_before y k = go y.den k
  where
    go : (e : ℕ) → 0 < e → absent_first 0 e (order_present absent y) ≡ Ordering.lt
    go zero k = absurd (omega arith)
    go (suc e) k = refl

pub absent-after : (x : Value) → 0 < x.den → order x absent ≡ Ordering.gt
unfolding order
absent-after x k = go x.den k
  where
    go : (d : ℕ) → 0 < d → absent_first d 0 (order_present x absent) ≡ Ordering.gt
    go zero k = absurd (omega arith)
    go (suc d) k = refl

pub absent-same : order absent absent ≡ Ordering.eq
unfolding order
absent-same = refl

self : (x : Value) → order x x ≡ Ordering.eq
unfolding order
self x = go x.den
  where
    go : (d : ℕ) → absent_first d d (order_present x x) ≡ Ordering.eq
    go zero = refl
    go (suc d) = linear_present.self x

pub linear_value : Linear Proper order
linear_value = record { same = same; self = self; turn = turn; chain = chain }
  where
    both : (x y : Value) → Lowest x → Lowest y → order x y ≡ order_present x y
    both x y p q = both_present x y p.positive q.positive

    same : (x y : Value) → Proper x → Proper y → order x y ≡ Ordering.eq → x ≡ y
    same x y (lowest p) (lowest q) e = linear_present.same x y p q (sym (both x y p q) ∙ e)
    same x y (lowest p) nothing e = cc (absent-after x p.positive)
    same x y nothing (lowest q) e = cc (absent_before y q.positive)
    same x y nothing nothing e = refl

    turn : (x y : Value) → Proper x → Proper y → order x y ≡ Ordering.gt → order y x ≡ Ordering.lt
    turn x y (lowest p) (lowest q) e = both y x q p ∙ linear_present.turn x y p q (sym (both x y p q) ∙ e)
    turn x y (lowest p) nothing e = absent_before x p.positive
    turn x y nothing (lowest q) e = cc (absent_before y q.positive)
    turn x y nothing nothing e = cc absent-same

    chain : (x y z : Value) → Proper x → Proper y → Proper z → order x y ≡ Ordering.lt → order y z ≡ Ordering.lt
        → order x z ≡ Ordering.lt
    chain x y z (lowest p) (lowest q) (lowest r) e f =
        both x z p r ∙ linear_present.chain x y z p q r (sym (both x y p q) ∙ e) (sym (both y z q r) ∙ f)
    chain x y z (lowest p) (lowest q) nothing e f = cc (absent-after y q.positive)
    chain x y z (lowest p) nothing s e f = cc (absent-after x p.positive)
    chain x y z nothing q (lowest r) e f = absent_before z r.positive
    chain x y z nothing (lowest q) nothing e f = cc (absent-after y q.positive)
    chain x y z nothing nothing nothing e f = e

-- two integers meet an operator as they compare
pub whole_meets : (op : ℕ) (x y : ℤ) → meets op (whole x) (whole y) ≡ test_of op (compare_z x y)
unfolding meets present order order_present
whole_meets op x y = ap (test_of op) (scale_z x y 1 (omega arith))

-- `ratio`
module _ (n d : ℕ) (h : 0 < d) where
  gcd-pos : 0 < gcd n d
  gcd-pos = pos_of_dvd_of_pos (gcd-right n d) h

  top : gcd n d * (n / gcd n d) ≡ n
  top = mul-div_cancel' (gcd n d) (gcd-left n d)

  low : gcd n d * (d / gcd n d) ≡ d
  low = mul-div_cancel' (gcd n d) (gcd-right n d)

  low-pos : 0 < d / gcd n d
  low-pos = pos_factor (gcd n d) (d / gcd n d) d low h

  divided-coprime : gcd (n / gcd n d) (d / gcd n d) ≡ 1
  divided-coprime = eq_of_mul-eq-mul_left (gcd n d) gcd-pos (gcd (n / gcd n d) (d / gcd n d)) 1
      (sym (scale (gcd n d) (n / gcd n d) (d / gcd n d) gcd-pos) ∙ ap₂ gcd top low ∙ sym (mul-one (gcd n d)))

  divided-same : n / gcd n d * d ≡ n * (d / gcd n d)
  divided-same =
      let g = gcd n d in let u = n / gcd n d in let w = d / gcd n d in
      ap (λ t. u * t) (sym low) ∙ (let e : u * (g * w) ≡ (g * u) * w = omega arith in e) ∙ ap (λ t. t * w) top

div-abs : (x : ℤ) (k : ℕ) → nat_abs (div_z x k) ≡ nat_abs x / k
unfolding div_z
div-abs (pos n) k = refl
div-abs (negsuc n) k = neg_abs (pos (suc n / k))

pub ratio_lowest : (n : ℤ) (d : ℕ) → 0 < d → Lowest (ratio n d)
unfolding ratio
ratio_lowest n d h = record { positive = low-pos (nat_abs n) d h; coprime = rw div-abs (divided-coprime (nat_abs n) d h) }

pub ratio_value : (n : ℤ) (d : ℕ) → 0 < d → (ratio n d).num *ℤ pos d ≡ n *ℤ pos (ratio n d).den
unfolding ratio div_z
ratio_value (pos n) d h = ap pos (divided-same n d h)
ratio_value (negsuc n) d h = neg_mul (suc n / gcd (suc n) d) d ∙ ap (λ t. neg_ℤ (pos t)) (divided-same (suc n) d h)

-- so it compares equal with the bare numerator over the bare denominator
pub ratio-order : (n : ℤ) (d : ℕ) → 0 < d → order (ratio n d) (record { num = n; den = d }) ≡ Ordering.eq
unfolding order_present
ratio-order n d h =
    both_present (ratio n d) (record { num = n; den = d }) (ratio_lowest n d h).positive h
    ∙ ap (λ t. compare_z t (n *ℤ pos (ratio n d).den)) (ratio_value n d h)
    ∙ linear_z.self (n *ℤ pos (ratio n d).den)
