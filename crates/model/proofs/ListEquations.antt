-- The equations of specs/Lists, one for each case, and how each definition goes over `◌++◌`.
use Prim.Native.Nat.{ℕ, zero, suc, ◌+◌}
use native.Mathlib.Nat.{zero-add, suc-add, add-zero, add-suc}
use mathlib.Core.Bool.{Bool, true, false, ◌&&◌, ◌||◌}
use mathlib.Core.List.{List, [], ◌∷◌, ◌++◌, append_assoc}
use mathlib.Core.Path.{◌≡◌, refl, sym, ◌∙◌, ap}
use lib.ListN.{length, drop}
use Rattle.model.specs.Lists.{all, any, filter, sum_over, overwrite, range, concat_map}

and_assoc : (a b c : Bool) → a && b && c ≡ a && (b && c)
and_assoc true b c = refl
and_assoc false b c = refl

or_assoc : (a b c : Bool) → a || b || c ≡ a || (b || c)
or_assoc true b c = refl
or_assoc false b c = refl

module _ {A : Type 0} where
  pub all_nil : (p : A → Bool) → all p [] ≡ true
  unfolding all
  all_nil p = refl

  pub all_cons : (p : A → Bool) (x : A) (xs : List A) → all p (x ∷ xs) ≡ p x && all p xs
  unfolding all
  all_cons p x xs = refl

  pub all-holds : (p : A → Bool) (x : A) (xs : List A) → p x ≡ true → all p (x ∷ xs) ≡ all p xs
  unfolding all
  all-holds p x xs e = rw e

  pub all-fails : (p : A → Bool) (x : A) (xs : List A) → p x ≡ false → all p (x ∷ xs) ≡ false
  unfolding all
  all-fails p x xs e = rw e

  pub all_append : (p : A → Bool) (l r : List A) → all p (l ++ r) ≡ all p l && all p r
  unfolding all
  all_append p [] r = refl
  all_append p (x ∷ xs) r = ap (λ t. p x && t) (all_append p xs r) ∙ sym (and_assoc (p x) (all p xs) (all p r))

  pub any-nil : (p : A → Bool) → any p [] ≡ false
  unfolding any
  any-nil p = refl

  pub any-cons : (p : A → Bool) (x : A) (xs : List A) → any p (x ∷ xs) ≡ p x || any p xs
  unfolding any
  any-cons p x xs = refl

  pub any-holds : (p : A → Bool) (x : A) (xs : List A) → p x ≡ true → any p (x ∷ xs) ≡ true
  unfolding any
  any-holds p x xs e = rw e

  pub any-fails : (p : A → Bool) (x : A) (xs : List A) → p x ≡ false → any p (x ∷ xs) ≡ any p xs
  unfolding any
  any-fails p x xs e = rw e

  pub any_append : (p : A → Bool) (l r : List A) → any p (l ++ r) ≡ any p l || any p r
  unfolding any
  any_append p [] r = refl
  any_append p (x ∷ xs) r = ap (λ t. p x || t) (any_append p xs r) ∙ sym (or_assoc (p x) (any p xs) (any p r))

  pub filter-nil : (p : A → Bool) → filter p [] ≡ []
  unfolding filter
  filter-nil p = refl

  pub filter-keeps : (p : A → Bool) (x : A) (xs : List A) → p x ≡ true → filter p (x ∷ xs) ≡ x ∷ filter p xs
  unfolding filter
  filter-keeps p x xs e = rw (e, filter)

  pub filter-drops : (p : A → Bool) (x : A) (xs : List A) → p x ≡ false → filter p (x ∷ xs) ≡ filter p xs
  unfolding filter
  filter-drops p x xs e = rw (e, filter)

  pub sum_over-nil : (f : A → ℕ) → sum_over f [] ≡ 0
  unfolding sum_over
  sum_over-nil f = refl

  pub sum_over-cons : (f : A → ℕ) (x : A) (xs : List A) → sum_over f (x ∷ xs) ≡ f x + sum_over f xs
  unfolding sum_over
  sum_over-cons f x xs = refl

  pub overwrite-is : (front l : List A) → overwrite front l ≡ front ++ drop (length front) l
  unfolding overwrite
  overwrite-is front l = refl

  pub overwrite-nil : (l : List A) → overwrite [] l ≡ l
  unfolding overwrite
  overwrite-nil l = refl

pub range-nil : (a : ℕ) → range a 0 ≡ []
unfolding range
range-nil a = refl

pub range_cons : (a n : ℕ) → range a (suc n) ≡ a ∷ range (suc a) n
unfolding range
range_cons a n = refl

pub range-append : (a m n : ℕ) → range a (m + n) ≡ range a m ++ range (a + m) n
unfolding range
range-append a zero n = rw (zero-add, add-zero)
range-append a (suc m) n = rw (suc-add m n, add-suc a m, ← (suc-add a m)) (ap (λ l. a ∷ l) (range-append (suc a) m n))

pub range_last : (a n : ℕ) → range a (suc n) ≡ range a n ++ ((a + n) ∷ [])
unfolding range
range_last a zero = rw add-zero
range_last a (suc n) = rw (add-suc a n, ← (suc-add a n)) (ap (λ l. a ∷ l) (range_last (suc a) n))

module _ {A B : Type 0} where
  pub concat_map-nil : (f : A → List B) → concat_map f [] ≡ []
  unfolding concat_map
  concat_map-nil f = refl

  pub concat_map-cons : (f : A → List B) (x : A) (xs : List A) → concat_map f (x ∷ xs) ≡ f x ++ concat_map f xs
  unfolding concat_map
  concat_map-cons f x xs = refl

  pub concat_map-append : (f : A → List B) (l r : List A) → concat_map f (l ++ r) ≡ concat_map f l ++ concat_map f r
  unfolding concat_map
  concat_map-append f [] r = refl
  concat_map-append f (x ∷ xs) r =
      ap (λ l. f x ++ l) (concat_map-append f xs r) ∙ sym (append_assoc (f x) (concat_map f xs) (concat_map f r))

pub concat_map-twice : {A B C : Type 0} (f : A → List B) (g : B → List C) (l : List A)
    → concat_map g (concat_map f l) ≡ concat_map (λ x. concat_map g (f x)) l
unfolding concat_map
concat_map-twice f g [] = refl
concat_map-twice f g (x ∷ xs) =
    concat_map-append g (f x) (concat_map f xs) ∙ ap (λ l. concat_map g (f x) ++ l) (concat_map-twice f g xs)
