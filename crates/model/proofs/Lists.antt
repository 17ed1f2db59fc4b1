-- Lists: membership, `All`, images, sums over the members.
use Prim.Native.Nat.{suc, ℕ, ◌+◌, ◌≤◌, zero-le}
use native.Mathlib.Nat.{zero-add}
use native.Mathlib.Omega.{arith}
use mathlib.Core.Bool.{Bool, true, false}
use mathlib.Core.List.{List, [], ◌∷◌, ◌++◌, map}
use mathlib.Core.Logic.{◌⊎◌, inl, inr}
use mathlib.Core.Path.{◌≡◌, refl, sym, ◌∙◌, ap, ap₂, subst}
use lib.ListN.{length}
use Rattle.model.specs.Lists.{In, All, filter, sum_over, concat_map}

module _ {A : Type 0} where
  pub all_of : (Q : A → Type 0) (l : List A) → ((x : A) → In x l → Q x) → All Q l
  all_of Q [] g = tt
  all_of Q (x ∷ xs) g = (g x (inl refl), all_of Q xs (λ y i. g y (inr i)))

  pub of-all : (Q : A → Type 0) (l : List A) (x : A) → All Q l → In x l → Q x
  of-all Q (y ∷ ys) x u (inl p) = rw p u.0
  of-all Q (y ∷ ys) x u (inr i) = of-all Q ys x u.1 i
  of-all Q [] x u x4 = elim x4 [ ]

  pub in_left : (a : A) (l r : List A) → In a l → In a (l ++ r)
  in_left a (x ∷ xs) r (inl p) = inl p
  in_left a (x ∷ xs) r (inr i) = inr (in_left a xs r i)
  in_left a [] r x' = elim x' [ ]

  pub in_right : (a : A) (l r : List A) → In a r → In a (l ++ r)
  in_right a [] r i = i
  in_right a (x ∷ xs) r i = inr (in_right a xs r i)

  pub in-append : (a : A) (l r : List A) → In a (l ++ r) → In a l ⊎ In a r
  in-append a [] r i = inr i
  in-append a (x ∷ xs) r (inl p) = inl (inl p)
  in-append a (x ∷ xs) r (inr i) = go (in-append a xs r i)
    where
      go : In a xs ⊎ In a r → In a (x ∷ xs) ⊎ In a r
      go (inl k) = inl (inr k)
      go (inr k) = inr k

  pub all_append : (P : A → Type 0) (l r : List A) → All P l → All P r → All P (l ++ r)
  all_append P [] r a h = h
  all_append P (x ∷ xs) r a h = (a.0, all_append P xs r a.1 h)

pub all_filter : {A : Type 0} (Q : A → Type 0) (p : A → Bool) (l : List A) → All Q l → All Q (filter p l)
unfolding filter
all_filter Q p [] u = tt
all_filter Q p (x ∷ xs) u = go (all_filter Q p xs u.1) (p x) refl
  where
    go : All Q (filter p xs) → (t : Bool) → p x ≡ t → All Q (filter p (x ∷ xs))
    go r true e = rw (e, filter) (u.0, r)
    go r false e = rw (e, filter) r

pub all_map : {A B : Type 0} (P : B → Type 0) (f : A → B) (l : List A) → ((a : A) → P (f a)) → All P (map f l)
all_map P f [] g = tt
all_map P f (x ∷ xs) g = (g x, all_map P f xs g)

pub map-length : {A B : Type 0} (f : A → B) (l : List A) → length (map f l) ≡ length l
map-length f [] = refl
map-length f (x ∷ xs) = ap suc (map-length f xs)

pub concat-in : {A B : Type 0} (f : A → List B) (l : List A) (x : A) (y : B) → In x l → In y (f x)
    → In y (concat_map f l)
unfolding concat_map
concat-in f (z ∷ zs) x y (inl e) i = in_left y (f z) (concat_map f zs) (subst (λ w. In y (f w)) e i)
concat-in f (z ∷ zs) x y (inr j) i = in_right y (f z) (concat_map f zs) (concat-in f zs x y j i)
concat-in {A = A} {B = B} f [] x y x4 i = elim x4 [ ]

-- sums
module _ {A : Type 0} where
  pub sum_mono : (f g : A → ℕ) (l : List A) → ((x : A) → f x ≤ g x) → sum_over f l ≤ sum_over g l
  unfolding sum_over
  sum_mono f g [] h = zero-le
  sum_mono f g (x ∷ xs) h = omega (arith, h x, sum_mono f g xs h)

  pub sum-filter : (f : A → ℕ) (p : A → Bool) (l : List A) → sum_over f (filter p l) ≤ sum_over f l
  unfolding filter sum_over
  sum-filter f p [] = zero-le
  sum-filter f p (x ∷ xs) = go (sum-filter f p xs) (p x) refl
    where
      go : sum_over f (filter p xs) ≤ sum_over f xs → (t : Bool) → p x ≡ t
          → sum_over f (filter p (x ∷ xs)) ≤ f x + sum_over f xs
      go r true e = rw (e, filter) (omega arith)
      go r false e = rw (e, filter) (omega arith)

  pub sum-append : (f : A → ℕ) (l r : List A) → sum_over f (l ++ r) ≡ sum_over f l + sum_over f r
  unfolding sum_over
  sum-append f [] r = sym (zero-add (sum_over f r))
  sum-append f (x ∷ xs) r = omega (arith, sum-append f xs r)

  pub sum-plus : (f g : A → ℕ) (l : List A) → sum_over (λ x. f x + g x) l ≡ sum_over f l + sum_over g l
  unfolding sum_over
  sum-plus f g [] = refl
  sum-plus f g (x ∷ xs) = omega (arith, sum-plus f g xs)

  pub sum-each : (f g : A → ℕ) (l : List A) → ((x : A) → In x l → f x ≡ g x) → sum_over f l ≡ sum_over g l
  unfolding sum_over
  sum-each f g [] h = refl
  sum-each f g (x ∷ xs) h = ap₂ ◌+◌ (h x (inl refl)) (sum-each f g xs (λ y i. h y (inr i)))

  pub only_one : (l : List A) (x y : A) → length l ≡ 1 → In x l → In y l → x ≡ y
  only_one (a ∷ []) x y e (inl p) (inl r) = p ∙ sym r
  only_one (a ∷ b ∷ l) x y e i j = absurd (omega arith)
  only_one [] x y e i j = elim i [ ]
  only_one (a ∷ []) x y e (inl p) (inr x14) = elim x14 [ ]
  only_one (a ∷ []) x y e (inr x14) j = elim x14 [ ]
