-- Request No. 2, "Rows in one order", as statements over the words of the result, as a program reads them: the rows
-- ascend, first column first, each by exact value; so runs that give the same rows give them in the same words. Each
-- statement has a theorem of its name in proofs/ResultOrder.
--   result_value ws n r c   the value in row r, column c of n columns: words 2 × (r × n + c) and the next
--   Precedes n ws r r'     row r is less than row r': less in some column, and equal in the columns before it
--   RowsAscend n k ws      of k rows of n columns each precedes the next
--   AnyTwoAscend n k ws    of any two of them the earlier precedes the later: so none stands twice
--   row_words_of a ws        the words of the rows of answer a: the first 2 × rows × columns
--   SameWords a a' ws ws'  as many rows, as many columns, and the rows in the same words
--   ResultAscends          after every accepted run the rows ascend; RowsBetween: any two of them do
--   PlansSameWords         any two accepted runs of one question over the same data, under plans, budgets and buffers of
--                          their own, give the same words
--   PlansSameResult        where the results held the same words before, they hold the same words after
--   PlansSameAfter         so it is of any two runs that demand 3 compares, unless one is over its budget
use Prim.Native.Nat.{Ordering}
use Rattle.std.specs.Prelude.{ℕ, suc, ◌+◌, ◌*◌, ◌<◌, List, ◌≡◌, ℤ, take}
use Rattle.model.specs.Answer.{answer_of, result_after}
use Rattle.model.specs.PlanAgreement.{Accepted, Admitted}
use Rattle.model.specs.Refusal.{Lengths}
use Rattle.model.specs.Tables.{word, nat_of}
use Rattle.model.specs.Value.{Value, order}
use Rattle.model.specs.declared.Answer.{Answer}

abbrev pub result_value : List ℤ → ℕ → ℕ → ℕ → Value
result_value ws n r c = record { num = word ws (2 * (r * n + c)); den = nat_of (word ws (suc (2 * (r * n + c)))) }

pub record Precedes (n : ℕ) (ws : List ℤ) (r r' : ℕ) : Type 0 where
  pub at : ℕ
  pub inside : at < n
  pub equal-before : (c : ℕ) → c < at → result_value ws n r c ≡ result_value ws n r' c
  pub less : order (result_value ws n r at) (result_value ws n r' at) ≡ Ordering.lt

abbrev pub RowsAscend : ℕ → ℕ → List ℤ → Type 0
RowsAscend n k ws = (r : ℕ) → suc r < k → Precedes n ws r (suc r)

abbrev pub AnyTwoAscend : ℕ → ℕ → List ℤ → Type 0
AnyTwoAscend n k ws = (r r' : ℕ) → r < r' → r' < k → Precedes n ws r r'

abbrev pub row_words_of : Answer → List ℤ → List ℤ
row_words_of a ws = take (2 * (a.rows * a.columns)) ws

pub record SameWords (a a' : Answer) (ws ws' : List ℤ) : Type 0 where
  pub rows : a.rows ≡ a'.rows
  pub columns : a.columns ≡ a'.columns
  pub words : row_words_of a ws ≡ row_words_of a' ws'

abbrev pub ResultAscends : Type 0
ResultAscends =
    (l : Lengths) (d : List ℤ) (qs ps : List ℕ) (budget : ℕ) (words : List ℤ) → (answer_of l d qs ps budget).number ≡ 0
    → RowsAscend (answer_of l d qs ps budget).columns (answer_of l d qs ps budget).rows
    (result_after l d qs ps budget words)

abbrev pub RowsBetween : Type 0
RowsBetween =
    (l : Lengths) (d : List ℤ) (qs ps : List ℕ) (budget : ℕ) (words : List ℤ) → (answer_of l d qs ps budget).number ≡ 0
    → AnyTwoAscend (answer_of l d qs ps budget).columns (answer_of l d qs ps budget).rows
    (result_after l d qs ps budget words)

abbrev pub PlansSameWords : Type 0
PlansSameWords =
    (l l' : Lengths) (d : List ℤ) (qs ps ps' : List ℕ) (budget budget' : ℕ) (words words' : List ℤ)
    → (answer_of l d qs ps budget).number ≡ 0 → (answer_of l' d qs ps' budget').number ≡ 0
    → SameWords (answer_of l d qs ps budget) (answer_of l' d qs ps' budget')
    (result_after l d qs ps budget words) (result_after l' d qs ps' budget' words')

abbrev pub PlansSameResult : Type 0
PlansSameResult =
    (l l' : Lengths) (d : List ℤ) (qs ps ps' : List ℕ) (budget budget' : ℕ) (words : List ℤ)
    → (answer_of l d qs ps budget).number ≡ 0 → (answer_of l' d qs ps' budget').number ≡ 0
    → result_after l d qs ps budget words ≡ result_after l' d qs ps' budget' words

abbrev pub PlansSameAfter : Type 0
PlansSameAfter =
    (l l' : Lengths) (d : List ℤ) (qs ps ps' : List ℕ) (budget budget' : ℕ) (words : List ℤ)
    → Accepted l d qs → Accepted l' d qs → Admitted qs ps → Admitted qs ps'
    → ((answer_of l d qs ps budget).number ≡ 12 → ⊥) → ((answer_of l' d qs ps' budget').number ≡ 12 → ⊥)
    → result_after l d qs ps budget words ≡ result_after l' d qs ps' budget' words
