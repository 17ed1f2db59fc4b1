-- The causes of one element by its kind are those that the model's tests give.
use Prim.Native.Nat.{ℕ, suc, ◌-◌, ◌^◌, ◌≤◌, ◌<◌}
use native.Mathlib.Decide.{dec_le}
use native.Mathlib.Omega.{arith}
use mathlib.Core.Bool.{Bool, true, false, ◌&&◌, ◌||◌, not, cond}
use mathlib.Core.List.{List}
use mathlib.Core.Path.{◌≡◌, refl, sym, ap, ◌∙◌, subst}
use lib.Dec.{T, eqb, ltb, leb}
use lib.IntN.{nat_abs}
use Rattle.reader.specs.Causes.{cause_by, Masks, bound_by, cause_of}
use Rattle.reader.specs.Leaves.{in_mask, constant_cause, variable_cause, fixed_cause, aggregate_cause}
use Rattle.model.proofs.FormatEquations.{signed_below, signed_above}
use Rattle.model.specs.Checks.{element_there, ratio_at}
use Rattle.model.specs.Format.{signed}
use Rattle.model.specs.Question.{empty, constant, variable, fixed, aggregate, Block}
use Rattle.model.specs.Scope.{levels}
use Rattle.scope.specs.Masks.{has_bit}
use borrow.Author.Tests.{lt-ltb, le-ltb, le-leb, lt-leb}

pub mask_in : (m v : ℕ) → v < 16 → has_bit m v ≡ in_mask m v
mask_in m v h = sym (ap (λ t. t && has_bit m v) (lt-ltb v 16 h))

pub mask_out : (m v : ℕ) → 16 ≤ v → false ≡ in_mask m v
mask_out m v h = sym (ap (λ t. t && has_bit m v) (le-ltb v 16 h))

module _ (q : List Block) (j : ℕ) (x : Masks) where
  pub empty_is : 11 ≡ cause_of q j x empty
  unfolding cause_of
  empty_is = refl

  pub variable_is : (v : ℕ) → variable_cause x.own x.twice v ≡ cause_of q j x (variable v)
  unfolding cause_of
  variable_is v = go (ltb v 16) refl
    where
      go : (t : Bool) → ltb v 16 ≡ t
          → cond t (cond ((t && has_bit x.own v) && not (t && has_bit x.twice v)) 11 8) 7 ≡ cause_by t
          (bound_by x (variable v)) true true
      go true e = refl
      go false e = refl

  pub fixed_is : (v : ℕ) → fixed_cause x.above v ≡ cause_of q j x (fixed v)
  unfolding cause_of
  fixed_is v = go (ltb v 16) refl
    where
      go : (t : Bool) → ltb v 16 ≡ t
          → cond t (cond (t && has_bit x.above v) 11 8) 7 ≡ cause_by t (bound_by x (fixed v)) true true
      go true e = refl
      go false e = refl

  pub aggregate-is : (f k c : ℕ) (t r : Bool) → t ≡ element_there q j (aggregate f k c) → r ≡ ratio_at levels q k c
      → aggregate_cause t f r ≡ cause_of q j x (aggregate f k c)
  unfolding cause_of
  aggregate-is f k c t r e g =
      rw (e, g) (go (element_there q j (aggregate f k c)) (eqb f 1 || eqb f 4) (ratio_at levels q k c))
    where
      go : (t s r : Bool) → cond t (cond (s && r) 9 11) 7 ≡ cause_by t true (not s || not r) true
      go true true true = refl
      go true true false = refl
      go true false r = refl
      go false s r = refl

  pub constant-is : (a : ℕ) → constant_cause a ≡ cause_of q j x (constant (signed a))
  unfolding cause_of
  constant-is a = refl

-- 64 bits beyond 10^15 in size
large : ℕ → Bool
large a = ltb 1000000000000000 a && ltb a 18445744073709551616

below : (a : ℕ) → a < 2 ^ 63 → large a ≡ not (leb a 1000000000000000)
unfolding large
below a h = go (dec_le a 1000000000000000)
  where
    go : Dec (a ≤ 1000000000000000) → large a ≡ not (leb a 1000000000000000)
    go (yes k) = rw (le-ltb 1000000000000000 a k, le-leb a 1000000000000000 k) refl
    go (no k) =
        rw (
          lt-ltb 1000000000000000 a (omega arith),
          lt-ltb a 18445744073709551616 (omega arith),
          lt-leb a 1000000000000000 (omega arith),
        ) refl

above : (a m : ℕ) → a < 2 ^ 64 → 2 ^ 63 ≤ a → m ≡ 2 ^ 64 - 1 - a → large a ≡ not (leb (suc m) 1000000000000000)
unfolding large
above a m h l e = go (dec_le (suc m) 1000000000000000)
  where
    go : Dec (suc m ≤ 1000000000000000) → large a ≡ not (leb (suc m) 1000000000000000)
    go (yes k) =
        rw (
          lt-ltb 1000000000000000 a (omega arith),
          le-ltb a 18445744073709551616 (omega arith),
          le-leb (suc m) 1000000000000000 k,
        ) refl
    go (no k) =
        rw (
          lt-ltb 1000000000000000 a (omega arith),
          lt-ltb a 18445744073709551616 (omega arith),
          lt-leb (suc m) 1000000000000000 (omega arith),
        ) refl

pub large_is : (a : ℕ) → a < 2 ^ 64
    → ◌≡◌ {A = ℕ} (cond (ltb 1000000000000000 a && ltb a 18445744073709551616) 10 11) (constant_cause a)
unfolding large
large_is a h = go (dec_le (suc a) (2 ^ 63))
  where
    turn : (s t : Bool) → s ≡ not t → ◌≡◌ {A = ℕ} (cond s 10 11) (cond t 11 10)
    turn true true e = absurd (subst T e tt)
    turn true false e = refl
    turn false true e = refl
    turn false false e = absurd (subst T (sym e) tt)

    small : Bool
    small = leb (nat_abs (signed a)) 1000000000000000

    go : Dec (suc a ≤ 2 ^ 63) → ◌≡◌ {A = ℕ} (cond (large a) 10 11) (cond small 11 10)
    go (yes l) =
        turn (large a) small
        (below a l ∙ sym (ap (λ z. not (leb (nat_abs z) 1000000000000000)) (signed_below a (lt-ltb a (2 ^ 63) l))))
    go (no l) =
        turn (large a) small
        (above a (2 ^ 64 - 1 - a) h (omega arith) refl
        ∙ sym (ap (λ z. not (leb (nat_abs z) 1000000000000000)) (signed_above a (le-ltb a (2 ^ 63) (omega arith)))))
