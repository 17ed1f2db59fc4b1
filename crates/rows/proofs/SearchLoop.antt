-- The loop of the bisection: what is left between lo and hi gives what the whole search gives. Assumes nothing.
use Prim.Native.Nat.{ℕ, zero, suc, ◌+◌, ◌-◌, ◌<◌, ◌≤◌}
use native.Mathlib.Omega.{arith}
use mathlib.Core.Bool.{Bool, true, false}
use mathlib.Core.Path.{◌≡◌, refl, sym, ◌∙◌, ap, subst}
use borrow.Author.Tests.{lt-ltb, le-ltb, ltb-true, ltb-false}
use lib.Dec.{ltb}
use Rattle.std.specs.Prelude.{Option, None, Some, Ok, Err}
use Rattle.std.specs.declared.cmp.Ordering.{Ordering}
use Rattle.std.specs.declared.cmp.Ordering.TheVariants.{Less, Equal, Greater}
use Rattle.rows.specs.declared.Place.TheVariants as place
use Rattle.rows.specs.declared.Fault.TheVariants as fault
use Rattle.rows.specs.Insertion.{lower, upper, middle, turn_of, bisect}

pub narrower : (o : Option Ordering) (lo hi : ℕ) → lo < hi → upper o (middle lo hi) hi - lower o (middle lo hi) lo < hi - lo
narrower (Some Less) lo hi h = omega arith
narrower (Some Equal) lo hi h = omega arith
narrower (Some Greater) lo hi h = omega arith
narrower None lo hi h = omega arith

pub in_bounds : (o : Option Ordering) (lo hi : ℕ) → lo < hi
    → (lower o (middle lo hi) lo ≤ upper o (middle lo hi) hi) × (upper o (middle lo hi) hi ≤ hi)
in_bounds (Some Less) lo hi h = (omega arith, omega arith)
in_bounds (Some Equal) lo hi h = (omega arith, omega arith)
in_bounds (Some Greater) lo hi h = (omega arith, omega arith)
in_bounds None lo hi h = (omega arith, omega arith)

module _ (at : ℕ → Option Ordering) where
  pub bisect_done : (f lo hi : ℕ) → hi ≤ lo → bisect at f lo hi ≡ Ok (place.New lo)
  unfolding bisect
  bisect_done zero lo hi h = refl
  bisect_done (suc f) lo hi h = simp (le-ltb lo hi h)

  pub bisect-step : (f lo hi : ℕ) → lo < hi
      → bisect at (suc f) lo hi ≡ turn_of (at (middle lo hi)) (middle lo hi)
      (bisect at f (lower (at (middle lo hi)) (middle lo hi) lo) (upper (at (middle lo hi)) (middle lo hi) hi))
  unfolding bisect
  bisect-step f lo hi h = simp (lt-ltb lo hi h)

  -- more steps than there are rows change nothing
  same-steps : (f g lo hi : ℕ) → hi - lo ≤ f → hi - lo ≤ g → bisect at f lo hi ≡ bisect at g lo hi
  same-steps zero g lo hi h k = bisect_done zero lo hi (omega arith) ∙ sym (bisect_done g lo hi (omega arith))
  same-steps (suc f) zero lo hi h k =
      bisect_done (suc f) lo hi (omega arith) ∙ sym (bisect_done zero lo hi (omega arith))
  same-steps (suc f) (suc g) lo hi h k = go (λ a b p q. same-steps f g a b p q) (ltb lo hi) refl
    where
      go : ((a b : ℕ) → b - a ≤ f → b - a ≤ g → bisect at f a b ≡ bisect at g a b) → (t : Bool) → ltb lo hi ≡ t
          → bisect at (suc f) lo hi ≡ bisect at (suc g) lo hi
      go again true t =
          let lt = ltb-true lo hi t in
          let o = at (middle lo hi) in
          let n = narrower o lo hi lt in
          bisect-step f lo hi lt
          ∙ ap (turn_of o (middle lo hi))
          (again (lower o (middle lo hi) lo) (upper o (middle lo hi) hi) (omega arith) (omega arith))
          ∙ sym (bisect-step g lo hi lt)
      go again false t =
          let le = ltb-false lo hi t in
          bisect_done (suc f) lo hi le ∙ sym (bisect_done (suc g) lo hi le)

  -- what is left between lo and hi after the order at the row in the middle
  module _ (lo hi : ℕ) (h : lo < hi) where
    halved : bisect at (hi - lo) lo hi
        ≡ turn_of (at (middle lo hi)) (middle lo hi)
        (bisect at (upper (at (middle lo hi)) (middle lo hi) hi - lower (at (middle lo hi)) (middle lo hi) lo)
        (lower (at (middle lo hi)) (middle lo hi) lo) (upper (at (middle lo hi)) (middle lo hi) hi))
    halved =
        let o = at (middle lo hi) in
        let k : hi - lo ≡ suc (hi - lo - 1) = omega arith in
        let n = narrower o lo hi h in
        ap (λ (f : ℕ). bisect at f lo hi) k
        ∙ bisect-step (hi - lo - 1) lo hi h
        ∙ ap (turn_of o (middle lo hi))
        (same-steps (hi - lo - 1) (upper o (middle lo hi) hi - lower o (middle lo hi) lo) (lower o (middle lo hi) lo)
        (upper o (middle lo hi) hi) (omega arith) (omega arith))

    halved-by : (o : Option Ordering) → at (middle lo hi) ≡ o
        → bisect at (hi - lo) lo hi
        ≡ turn_of o (middle lo hi)
        (bisect at (upper o (middle lo hi) hi - lower o (middle lo hi) lo) (lower o (middle lo hi) lo)
        (upper o (middle lo hi) hi))
    halved-by o e = subst (λ o. bisect at (hi - lo) lo hi ≡ turn_of o (middle lo hi)
        (bisect at (upper o (middle lo hi) hi - lower o (middle lo hi) lo) (lower o (middle lo hi) lo)
        (upper o (middle lo hi) hi))) e halved

    pub step_none : at (middle lo hi) ≡ None → bisect at (hi - lo) lo hi ≡ Err fault.Outside
    step_none e = halved-by None e

    pub step_less : at (middle lo hi) ≡ Some Less
        → bisect at (hi - lo) lo hi ≡ bisect at (middle lo hi - lo) lo (middle lo hi)
    step_less e = halved-by (Some Less) e

    pub step_equal : at (middle lo hi) ≡ Some Equal → bisect at (hi - lo) lo hi ≡ Ok (place.There (middle lo hi))
    step_equal e = halved-by (Some Equal) e

    pub step_greater : at (middle lo hi) ≡ Some Greater
        → bisect at (hi - lo) lo hi ≡ bisect at (hi - (middle lo hi + 1)) (middle lo hi + 1) hi
    step_greater e = halved-by (Some Greater) e

-- a place found for a new row is no further than the end
pub bisect_top : (at : ℕ → Option Ordering) (f lo hi k : ℕ) → lo ≤ hi → bisect at f lo hi ≡ Ok (place.New k) → k ≤ hi
unfolding bisect
bisect_top at zero lo hi k h e = let x : lo ≡ k = cc in omega arith
bisect_top at (suc f) lo hi k h e = go (λ a b l q. bisect_top at f a b k l q) (ltb lo hi) refl
  where
    next : (o : Option Ordering) → lo < hi → o ≡ at (middle lo hi)
        → (bisect at f (lower o (middle lo hi) lo) (upper o (middle lo hi) hi) ≡ Ok (place.New k)
        → k ≤ upper o (middle lo hi) hi)
        → turn_of o (middle lo hi) (bisect at f (lower o (middle lo hi) lo) (upper o (middle lo hi) hi)) ≡ Ok (place.New k)
        → k ≤ hi
    next (Some Less) l p r q = omega (arith, r q)
    next (Some Equal) l p r q = let z : ◌≡◌ {A = ℕ} 0 1 = cc in absurd (omega arith)
    next (Some Greater) l p r q = omega (arith, r q)
    next None l p r q = let z : ◌≡◌ {A = ℕ} 0 1 = cc in absurd (omega arith)

    go : ((a b : ℕ) → a ≤ b → bisect at f a b ≡ Ok (place.New k) → k ≤ b) → (t : Bool) → ltb lo hi ≡ t → k ≤ hi
    go again true t =
        let l = ltb-true lo hi t in
        next (at (middle lo hi)) l refl (λ q. again _ _ (in_bounds (at (middle lo hi)) lo hi l).0 q)
        (sym (bisect-step at f lo hi l) ∙ e)
    go again false t = let x : lo ≡ k = cc (sym (bisect_done at (suc f) lo hi (ltb-false lo hi t)) ∙ e) in omega arith

pub middle_below : (lo hi count : ℕ) → lo < hi → hi ≤ count → middle lo hi < count
middle_below lo hi count h k = omega arith
