-- Tests: laws of Bool, of tests over the members of a list, of filters and ranges.
use Prim.Native.Nat.{ℕ, zero, suc, ◌+◌, ◌<◌, ◌≤◌, zero-le, suc-le-suc}
use native.Mathlib.Decide.{ℕ_discrete}
use native.Mathlib.Omega.{arith}
use mathlib.Core.Bool.{Bool, true, false, ◌&&◌, ◌||◌, not}
use mathlib.Core.List.{List, [], ◌∷◌, ◌++◌}
use mathlib.Core.Logic.{◌⊎◌, inl, inr}
use mathlib.Core.Path.{◌≡◌, refl, ap, subst}
use lib.Dec.{T}
use lib.ListN.{length, get_or}
use Rattle.model.specs.Lists.{In, all, any, filter, range}

pub or_left : (a b : Bool) → T a → T (a || b)
or_left true b t = tt
or_left false b t = elim t [ ]

pub or_right : (a b : Bool) → T b → T (a || b)
or_right true b t = tt
or_right false b t = t

pub or_cases : (a b : Bool) → T (a || b) → T a ⊎ T b
or_cases true b t = inl tt
or_cases false b t = inr t

pub or-false : (a b : Bool) → a || b ≡ false → (a ≡ false) × (b ≡ false)
or-false true b e = absurd (subst (λ c. T c) e tt)
or-false false b e = (refl, e)

pub not-false : (a : Bool) → a ≡ false → T (not a)
not-false a e = rw e tt

pub and_left : (a b : Bool) → T (a && b) → T a
and_left true b t = tt
and_left false b t = elim t [ ]

pub and_right : (a b : Bool) → T (a && b) → T b
and_right true b t = t
and_right false b t = elim t [ ]

pub and_both : (a b : Bool) → T a → T b → T (a && b)
and_both true b s t = t
and_both false b s t = elim s [ ]

pub test : (b : Bool) → T b ⊎ T (not b)
test true = inl tt
test false = inr tt

module _ {A : Type 0} where
  pub any_of : (p : A → Bool) (x : A) (l : List A) → In x l → T (p x) → T (any p l)
  unfolding any
  any_of p x (y ∷ ys) (inl e) t = go (p y) (rw e at t)
    where
      go : (b : Bool) → T b → T (b || any p ys)
      go true t = tt
      go false t = elim t [ ]
  any_of p x (y ∷ ys) (inr i) t = go (p y) (any_of p x ys i t)
    where
      go : (b : Bool) → T (any p ys) → T (b || any p ys)
      go true r = tt
      go false r = r
  any_of p x [] x3 t = elim x3 [ ]

  pub of-any : (p : A → Bool) (l : List A) → T (any p l) → (x : A) × In x l × T (p x)
  unfolding any
  of-any p (y ∷ ys) t = go (p y) refl t (of-any p ys)
    where
      go : (b : Bool) → p y ≡ b → T (b || any p ys) → (T (any p ys) → (x : A) × In x ys × T (p x))
          → (x : A) × In x (y ∷ ys) × T (p x)
      go true e t r = (y, inl refl, rw e tt)
      go false e t r = let k = r t in (k.0, inr k.1, k.2)
  of-any p [] t = elim t [ ]

  pub all-at : (p : A → Bool) (l : List A) (x : A) → T (all p l) → In x l → T (p x)
  unfolding all
  all-at p (y ∷ ys) x t (inl e) = rw e (and_left (p y) (all p ys) t)
  all-at p (y ∷ ys) x t (inr i) = all-at p ys x (and_right (p y) (all p ys) t) i
  all-at p [] x t x4 = elim x4 [ ]

  pub in-filter : (p : A → Bool) (a : A) (l : List A) → In a (filter p l) → In a l × T (p a)
  unfolding filter
  in-filter p a (x ∷ xs) i = go (in-filter p a xs) (p x) refl i
    where
      go : (In a (filter p xs) → In a xs × T (p a)) → (t : Bool) → p x ≡ t → In a (filter p (x ∷ xs))
          → In a (x ∷ xs) × T (p a)
      go r true e = rw (e, filter) (elim [ inl h ↦ (inl h, rw (h, e) tt) | inr h ↦ (inr (r h).0, (r h).1) ])
      go r false e = rw (e, filter) (λ h. (inr (r h).0, (r h).1))
  in-filter p a [] i = elim i [ ]

  pub filter-in : (p : A → Bool) (a : A) (l : List A) → In a l → T (p a) → In a (filter p l)
  unfolding filter
  filter-in p a (x ∷ xs) (inl h) t = go (p x) refl
    where
      go : (b : Bool) → p x ≡ b → In a (filter p (x ∷ xs))
      go true e = rw (e, filter) (inl h)
      go false e = absurd (rw (h, e) at t)
  filter-in p a (x ∷ xs) (inr h) t = go (filter-in p a xs h t) (p x) refl
    where
      go : In a (filter p xs) → (b : Bool) → p x ≡ b → In a (filter p (x ∷ xs))
      go r true e = rw (e, filter) (inr r)
      go r false e = rw (e, filter) r
  filter-in p a [] x'' t = elim x'' [ ]

  pub place-in : (l : List A) (z : A) (i : ℕ) → i < length l → In (get_or l i z) l
  place-in [] z i h = absurd (omega arith)
  place-in (x ∷ xs) z zero h = inl refl
  place-in (x ∷ xs) z (suc i) h = inr (place-in xs z i (omega arith))

  pub filter-length : (p : A → Bool) (l : List A) → length (filter p l) ≤ length l
  unfolding filter
  filter-length p [] = zero-le
  filter-length p (x ∷ xs) = go (filter-length p xs) (p x) refl
    where
      go : length (filter p xs) ≤ length xs → (t : Bool) → p x ≡ t → length (filter p (x ∷ xs)) ≤ suc (length xs)
      go r true e = rw (e, filter) (suc-le-suc r)
      go r false e = rw (e, filter) (omega arith)

  pub filter-append : (p : A → Bool) (l r : List A) → filter p (l ++ r) ≡ filter p l ++ filter p r
  unfolding filter
  filter-append p [] r = refl
  filter-append p (x ∷ xs) r = go (filter-append p xs r) (p x) refl
    where
      go : filter p (xs ++ r) ≡ filter p xs ++ filter p r → (t : Bool) → p x ≡ t
          → filter p ((x ∷ xs) ++ r) ≡ filter p (x ∷ xs) ++ filter p r
      go h true e = rw (e, filter) (ap (λ l. x ∷ l) h)
      go h false e = rw (e, filter) h

pub in-range : (a n j : ℕ) → a ≤ j → j < a + n → In j (range a n)
unfolding range
in-range a zero j h k = absurd (omega arith)
in-range a (suc n) j h k = go (ℕ_discrete j a) (in-range (suc a) n j)
  where
    go : Dec (j ≡ a) → (suc a ≤ j → j < suc a + n → In j (range (suc a) n)) → In j (a ∷ range (suc a) n)
    go (yes p) r = inl p
    go (no f) r = inr (r (omega arith) (omega arith))

pub range-in : (a n j : ℕ) → In j (range a n) → j < a + n
unfolding range
range-in a (suc n) j (inl p) = omega arith
range-in a (suc n) j (inr i) = omega (arith, range-in (suc a) n j i)
range-in a zero j x' = elim x' [ ]

pub range_length : (a k : ℕ) → length (range a k) ≡ k
unfolding range
range_length a zero = refl
range_length a (suc k) = ap suc (range_length (suc a) k)
