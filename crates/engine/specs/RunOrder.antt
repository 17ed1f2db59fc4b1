-- Request No. 2, "Rows in one order", as statements about runs: what `run` answered and left in the result (`RanAs`). The
-- words are those of the model's ResultOrder. Each statement has a theorem of its name in proofs/RunsOrdered.
--   RunAscends       after every accepted run the rows in the result ascend; RunBetween: any two of them do
--   RunsSameWords    any two accepted runs of one question over the same data, under plans, budgets and buffers of their
--                    own, leave the same words of rows
--   RunsSameResult   where the results held the same words before, they hold the same words after
--   RunsSameAfter    so it is of any two runs that demand 3 compares, unless one is over its budget
use Rattle.std.specs.Prelude.{ℕ, List, ◌≡◌, ℤ}
use Rattle.model.specs.Refusal.{Lengths}
use Rattle.model.specs.ResultOrder.{RowsAscend, AnyTwoAscend, SameWords}
use Rattle.model.specs.declared.Answer.{Answer}
use Rattle.engine.specs.RunAgreement.{RanAs, TwoRunsOf}

abbrev pub RunAscends : Type 0
RunAscends =
    (l : Lengths) (d : List ℤ) (qs ps : List ℕ) (budget : ℕ) (a : Answer) (r r' : List ℤ)
    → RanAs l d qs ps budget a r r' → a.number ≡ 0 → RowsAscend a.columns a.rows r'

abbrev pub RunBetween : Type 0
RunBetween =
    (l : Lengths) (d : List ℤ) (qs ps : List ℕ) (budget : ℕ) (a : Answer) (r r' : List ℤ)
    → RanAs l d qs ps budget a r r' → a.number ≡ 0 → AnyTwoAscend a.columns a.rows r'

abbrev pub RunsSameWords : Type 0
RunsSameWords =
    (l l' : Lengths) (d : List ℤ) (qs ps ps' : List ℕ) (budget budget' : ℕ) (a b : Answer) (r r' s s' : List ℤ)
    → RanAs l d qs ps budget a r r' → RanAs l' d qs ps' budget' b s s' → a.number ≡ 0 → b.number ≡ 0
    → SameWords a b r' s'

abbrev pub RunsSameResult : Type 0
RunsSameResult =
    (l l' : Lengths) (d : List ℤ) (qs ps ps' : List ℕ) (budget budget' : ℕ) (a b : Answer) (r r' s' : List ℤ)
    → RanAs l d qs ps budget a r r' → RanAs l' d qs ps' budget' b r s' → a.number ≡ 0 → b.number ≡ 0 → r' ≡ s'

abbrev pub RunsSameAfter : Type 0
RunsSameAfter =
    (d : List ℤ) (qs ps ps' : List ℕ) (budget budget' : ℕ) (a b : Answer) (r r' s' : List ℤ)
    → TwoRunsOf d qs ps ps' budget budget' a b r r' r s' → (a.number ≡ 12 → ⊥) → (b.number ≡ 12 → ⊥) → r' ≡ s'
