-- The bytes of a question and of a plan, record by record: shorthand for the tables of examples.
--   number n                 the eight bytes of an argument below 65,536
--   blank, const, var, fix, agg   the elements, nine bytes each
--   bk, row, cond, out, en   the records BK, RW, CD, OL, EN
--   pl path column           a plan's record
use Prim.Native.Nat.{ℕ, ◌/◌, ◌%◌}
use mathlib.Core.List.{List, [], ◌∷◌, ◌++◌}
use lib.ListN.{length}

abbrev pub number : ℕ → List ℕ
number n = n % 256 ∷ n / 256 ∷ 0 ∷ 0 ∷ 0 ∷ 0 ∷ 0 ∷ 0 ∷ []

abbrev pub blank : List ℕ
blank = 0 ∷ number 0

abbrev pub const : ℕ → List ℕ
const x = 1 ∷ number x

abbrev pub var : ℕ → List ℕ
var v = 2 ∷ number v

abbrev pub fix : ℕ → List ℕ
fix v = 3 ∷ number v

-- function (0 count, 1 sum, 2 min, 3 max, 4 ave), block, column
abbrev pub agg : ℕ → ℕ → ℕ → List ℕ
agg f k c = 4 ∷ f ∷ k ∷ c ∷ 0 ∷ 0 ∷ 0 ∷ 0 ∷ 0 ∷ []

abbrev pub joined : List (List ℕ) → List ℕ
joined [] = []
joined (x ∷ xs) = x ++ joined xs

abbrev pub bk : ℕ → List ℕ
bk p = 66 ∷ 75 ∷ p ∷ []

abbrev pub row : ℕ → List (List ℕ) → List ℕ
row t es = 82 ∷ 87 ∷ t ∷ length es ∷ joined es

-- an operator (0 =, 1 ≠, 2 <, 3 ≤, 4 >, 5 ≥) and two elements
abbrev pub cond : ℕ → List ℕ → List ℕ → List ℕ
cond o x y = 67 ∷ 68 ∷ o ∷ (x ++ y)

abbrev pub out : List (List ℕ) → List ℕ
out es = 79 ∷ 76 ∷ length es ∷ joined es

abbrev pub en : List ℕ
en = 69 ∷ 78 ∷ []

-- a path (0 file, 1 index, 2 merging) and its column
abbrev pub pl : ℕ → ℕ → List ℕ
pl p c = 80 ∷ 76 ∷ p ∷ c ∷ []
