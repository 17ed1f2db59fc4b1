-- The elements and records of a question, parsed from bytes (01, "The question"; cause 5). A parser gives `none`
-- where the bytes are malformed. Counts are read as they stand: the limits are cause 6, what they refer to cause 7.
--   Parser A           takes bytes from the front: a value and the bytes after it, or none
--   ◌>>=◌              one parser after the other; after: the same where the first has run
--   give, fail, only   a value of no bytes; none; a value where a test holds
--   times n p          p n times over
--   byte, eight        one byte; eight bytes
--   number64 bs        bytes as a number, the lowest first; signed n: as 64-bit two's complement
--   element_of k xs     the element of kind k with argument bytes xs; aggregate_is xs: the aggregate
--   element kinds      a kind byte, of the kinds that its record takes, and eight argument bytes
--   relation, condition, output   the records RW, CD and OL after their marks
use Rattle.std.specs.Prelude.{ℕ, zero, suc, ◌+◌, ◌*◌, ◌-◌, ◌^◌, Bool, true, false, ◌&&◌, ◌||◌, not, List, [], ◌∷◌, eqb, ltb, ℤ, pos, negsuc, length, get_or, take, drop}
use Rattle.std.proofs.Math.Option.{Option, none, some}
use Rattle.model.specs.Question.{Element, empty, constant, variable, fixed, aggregate, RelationRow, Condition}

abbrev pub Parser : Type 0 → Type 0
Parser A = List ℕ → Option (A × List ℕ)

module _ {A B : Type 0} where
  unfoldable pub after : Option (A × List ℕ) → (A → Parser B) → Option (B × List ℕ)
  after none f = none
  after (some p) f = f p.0 p.1

  unfoldable pub ◌>>=◌ : Parser A → (A → Parser B) → Parser B
  ◌>>=◌ p f bs = after (p bs) f

module _ {A : Type 0} where
  unfoldable pub give : A → Parser A
  give a bs = some (a, bs)

  unfoldable pub fail : Parser A
  fail bs = none

  unfoldable pub only : Bool → A → Parser A
  only true a bs = some (a, bs)
  only false a bs = none

  unfoldable pub times : ℕ → Parser A → Parser (List A)
  times zero p bs = some ([], bs)
  times (suc n) p bs = after (p bs) (λ a cs. after (times n p cs) (λ xs ds. some (a ∷ xs, ds)))

unfoldable pub byte : Parser ℕ
byte [] = none
byte (b ∷ bs) = some (b, bs)

unfoldable pub eight : Parser (List ℕ)
eight bs = elim (ltb (length bs) 8) [ true ↦ none | false ↦ some (take 8 bs, drop 8 bs) ]

unfoldable pub number64 : List ℕ → ℕ
number64 [] = 0
number64 (b ∷ bs) = b + 256 * number64 bs

unfoldable pub signed : ℕ → ℤ
signed n = elim (ltb n (2 ^ 63)) [ true ↦ pos n | false ↦ negsuc (2 ^ 64 - 1 - n) ]

-- function, block, column; the other bytes are 0, and the column of a count
unfoldable pub aggregate_is : List ℕ → Parser Element
aggregate_is xs =
    let f = get_or xs 0 0 in let k = get_or xs 1 0 in let c = get_or xs 2 0 in
    only (ltb f 5 && (eqb (number64 (drop 3 xs)) 0 && (not (eqb f 0) || eqb c 0))) (aggregate f k c)

-- a variable's argument is not 0 to 15 where it is negative either: as an unsigned number it is far past 15
unfoldable pub element_of : ℕ → List ℕ → Parser Element
element_of zero xs = only (eqb (number64 xs) 0) empty
element_of (suc zero) xs = give (constant (signed (number64 xs)))
element_of (suc (suc zero)) xs = give (variable (number64 xs))
element_of (suc (suc (suc zero))) xs = give (fixed (number64 xs))
element_of (suc (suc (suc (suc zero)))) xs = aggregate_is xs
element_of (suc (suc (suc (suc (suc k))))) xs = fail

unfoldable pub element : (ℕ → Bool) → Parser Element
element kinds = do
  k ← byte
  k' ← only (kinds k) k
  xs ← eight
  element_of k' xs

abbrev pub row_kinds : ℕ → Bool
row_kinds k = ltb k 4

abbrev pub condition_kinds : ℕ → Bool
condition_kinds k = ltb 0 k && ltb k 5

abbrev pub output_kinds : ℕ → Bool
output_kinds k = eqb k 2 || eqb k 4

unfoldable pub relation : Parser RelationRow
relation = do
  t ← byte
  n ← byte
  es ← times n (element row_kinds)
  give (record { table = t; entries = es })

unfoldable pub condition : Parser Condition
condition = do
  o ← byte
  o' ← only (ltb o 6) o
  x ← element condition_kinds
  y ← element condition_kinds
  give (record { operator = o'; left = x; right = y })

unfoldable pub output : Parser (List Element)
output = do
  n ← byte
  times n (element output_kinds)
