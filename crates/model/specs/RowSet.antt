-- Rows, and sets of rows as strictly ascending lists: one list for each set (01, "Matching": "added if not already
-- present").
--   Row                values, one for each column
--   lexicographic cmp  the order of lists by their first difference, a shorter list before its continuations
--   order_rows r r'     rows in order of exact values, first column first
--   insert cmp x s     x added to an ascending list at its place, if it is not there; the library's puts it first
--   canon cmp l        the members of l in ascending order, each once
--   row_words r         a row as result words: numerator, denominator for each column
--   set_words s         the rows of a set as result words, row after row
use Prim.Native.Nat.{Ordering}
use Rattle.std.specs.Prelude.{List, [], ◌∷◌, ◌++◌, ℤ, pos}
use Rattle.model.specs.Value.{Value, order}

abbrev pub Row : Type 0
Row = List Value

module _ {A : Type 0} (cmp : A → A → Ordering) where
  unfoldable pub lexicographic : List A → List A → Ordering
  lexicographic [] [] = Ordering.eq
  lexicographic [] (y ∷ ys) = Ordering.lt
  lexicographic (x ∷ xs) [] = Ordering.gt
  lexicographic (x ∷ xs) (y ∷ ys) =
      elim (cmp x y) [ Ordering.lt ↦ Ordering.lt | Ordering.eq ↦ lexicographic xs ys | Ordering.gt ↦ Ordering.gt ]

  unfoldable pub insert : A → List A → List A
  insert x [] = x ∷ []
  insert x (y ∷ ys) =
      elim (cmp x y) [ Ordering.lt ↦ x ∷ y ∷ ys | Ordering.eq ↦ y ∷ ys | Ordering.gt ↦ y ∷ insert x ys ]

  unfoldable pub canon : List A → List A
  canon [] = []
  canon (x ∷ xs) = insert x (canon xs)

abbrev pub order_rows : Row → Row → Ordering
order_rows = lexicographic order

unfoldable pub row_words : Row → List ℤ
row_words [] = []
row_words (x ∷ xs) = x.num ∷ pos x.den ∷ row_words xs

unfoldable pub set_words : List Row → List ℤ
set_words [] = []
set_words (r ∷ rs) = row_words r ++ set_words rs
