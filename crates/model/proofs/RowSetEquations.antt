-- The equations of specs/RowSet, one for each case.
use Prim.Native.Nat.{Ordering}
use mathlib.Core.List.{List, [], ◌∷◌, ◌++◌, append_assoc}
use mathlib.Core.Path.{◌≡◌, refl, sym, ◌∙◌, ap}
use lib.IntN.{pos}
use Rattle.model.specs.RowSet.{Row, lexicographic, insert, canon, row_words, set_words}
use Rattle.model.specs.Value.{Value}

module _ {A : Type 0} (cmp : A → A → Ordering) where
  pub lexicographic-nil : lexicographic cmp [] [] ≡ Ordering.eq
  unfolding lexicographic
  lexicographic-nil = refl

  pub lexicographic-shorter : (y : A) (ys : List A) → lexicographic cmp [] (y ∷ ys) ≡ Ordering.lt
  unfolding lexicographic
  lexicographic-shorter y ys = refl

  pub lexicographic-longer : (x : A) (xs : List A) → lexicographic cmp (x ∷ xs) [] ≡ Ordering.gt
  unfolding lexicographic
  lexicographic-longer x xs = refl

  pub lexicographic-before : (x y : A) (xs ys : List A) → cmp x y ≡ Ordering.lt
      → lexicographic cmp (x ∷ xs) (y ∷ ys) ≡ Ordering.lt
  unfolding lexicographic
  lexicographic-before x y xs ys e = rw (e, lexicographic)

  pub lexicographic-same : (x y : A) (xs ys : List A) → cmp x y ≡ Ordering.eq
      → lexicographic cmp (x ∷ xs) (y ∷ ys) ≡ lexicographic cmp xs ys
  unfolding lexicographic
  lexicographic-same x y xs ys e = rw (e, lexicographic)

  pub lexicographic-after : (x y : A) (xs ys : List A) → cmp x y ≡ Ordering.gt
      → lexicographic cmp (x ∷ xs) (y ∷ ys) ≡ Ordering.gt
  unfolding lexicographic
  lexicographic-after x y xs ys e = rw (e, lexicographic)

  pub insert-nil : (x : A) → insert cmp x [] ≡ x ∷ []
  unfolding insert
  insert-nil x = refl

  pub insert-before : (x y : A) (ys : List A) → cmp x y ≡ Ordering.lt → insert cmp x (y ∷ ys) ≡ x ∷ y ∷ ys
  unfolding insert
  insert-before x y ys e = rw (e, insert)

  pub insert-there : (x y : A) (ys : List A) → cmp x y ≡ Ordering.eq → insert cmp x (y ∷ ys) ≡ y ∷ ys
  unfolding insert
  insert-there x y ys e = rw (e, insert)

  pub insert-after : (x y : A) (ys : List A) → cmp x y ≡ Ordering.gt → insert cmp x (y ∷ ys) ≡ y ∷ insert cmp x ys
  unfolding insert
  insert-after x y ys e = rw (e, insert)

  pub canon-nil : canon cmp [] ≡ []
  unfolding canon
  canon-nil = refl

  pub canon-cons : (x : A) (xs : List A) → canon cmp (x ∷ xs) ≡ insert cmp x (canon cmp xs)
  unfolding canon
  canon-cons x xs = refl

pub row_words-nil : row_words [] ≡ []
unfolding row_words
row_words-nil = refl

pub row_words-cons : (x : Value) (xs : Row) → row_words (x ∷ xs) ≡ x.num ∷ pos x.den ∷ row_words xs
unfolding row_words
row_words-cons x xs = refl

pub row_words-append : (l r : Row) → row_words (l ++ r) ≡ row_words l ++ row_words r
unfolding row_words
row_words-append [] r = refl
row_words-append (x ∷ xs) r = ap (λ l. x.num ∷ pos x.den ∷ l) (row_words-append xs r)

pub set_words-nil : set_words [] ≡ []
unfolding set_words
set_words-nil = refl

pub set_words-cons : (r : Row) (rs : List Row) → set_words (r ∷ rs) ≡ row_words r ++ set_words rs
unfolding set_words
set_words-cons r rs = refl

pub set_words-append : (l r : List Row) → set_words (l ++ r) ≡ set_words l ++ set_words r
unfolding set_words
set_words-append [] r = refl
set_words-append (x ∷ xs) r =
    ap (λ l. row_words x ++ l) (set_words-append xs r) ∙ sym (append_assoc (row_words x) (set_words xs) (set_words r))
