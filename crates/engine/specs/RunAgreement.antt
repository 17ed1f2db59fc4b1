-- Demand 3 as a statement about two runs: what `run` answered and left in the result, for one accepted question and its
-- tables, under two admitted plans, each with buffers and a budget of its own. The statements are `AnyRunsAgree` and
-- `ChangeNeverRaised`; their theorems are `runs-agree` and `change_never_raised` in proofs/RunsAgree. The words are those
-- of the model's PlanAgreement.
--   RanAs l d qs ps b a r r'   a run with these arguments answered a, and the result held r before and r' after
--   SameRows ..                both gave the rows of matching: the same words w stand at the front of both results
--   RunsAgree ..               each run is as OneRun says and, unless one is over its budget, both are too large or both
--                              gave the same rows
--   TwoRunsOf d qs ..          the premises: two such runs of one accepted question, under two admitted plans
--   AnyRunsAgree               any two such runs agree
--   ChangeNeverRaised          a path changed from file to index, or from index to merging on the same column, never
--                              raises the trials reported under one budget
use Rattle.std.specs.Prelude.{ℕ, ◌≤◌, List, ◌⊎◌, ◌≡◌, ℤ}
use Rattle.model.specs.Answer.{answer_of, result_after}
use Rattle.model.specs.Lists.{overwrite}
use Rattle.model.specs.PlanAgreement.{Accepted, Admitted, OneRun, BothLarge, BothGiven, OneChanged}
use Rattle.model.specs.Refusal.{Lengths}
use Rattle.model.specs.declared.Answer.{Answer}

pub record RanAs (l : Lengths) (d : List ℤ) (qs ps : List ℕ) (budget : ℕ) (a : Answer) (r r' : List ℤ) : Type 0 where
  pub answered : a ≡ answer_of l d qs ps budget
  pub left : r' ≡ result_after l d qs ps budget r

module _ (d : List ℤ) (qs : List ℕ) where
  pub record SameRows (a b : Answer) (r r' s s' : List ℤ) : Type 0 where
    pub words : List ℤ
    pub given : BothGiven d qs a b words words
    pub first : r' ≡ overwrite words r
    pub second : s' ≡ overwrite words s

  pub record RunsAgree (ps ps' : List ℕ) (budget budget' : ℕ) (a b : Answer) (r r' s s' : List ℤ) : Type 0 where
    pub one : OneRun d qs ps budget a
    pub other : OneRun d qs ps' budget' b
    pub agree : (a.number ≡ 12 → ⊥) → (b.number ≡ 12 → ⊥) → BothLarge d qs a b ⊎ SameRows a b r r' s s'

  pub record TwoRunsOf (ps ps' : List ℕ) (budget budget' : ℕ) (a b : Answer) (r r' s s' : List ℤ) : Type 0 where
    pub lengths : Lengths
    pub lengths' : Lengths
    pub ran : RanAs lengths d qs ps budget a r r'
    pub ran' : RanAs lengths' d qs ps' budget' b s s'
    pub accepted : Accepted lengths d qs
    pub accepted' : Accepted lengths' d qs
    pub admitted : Admitted qs ps
    pub admitted' : Admitted qs ps'

abbrev pub AnyRunsAgree : Type 0
AnyRunsAgree =
    (d : List ℤ) (qs ps ps' : List ℕ) (budget budget' : ℕ) (a b : Answer) (r r' s s' : List ℤ)
    → TwoRunsOf d qs ps ps' budget budget' a b r r' s s' → RunsAgree d qs ps ps' budget budget' a b r r' s s'

abbrev pub ChangeNeverRaised : Type 0
ChangeNeverRaised =
    (d : List ℤ) (qs ps ps' : List ℕ) (budget : ℕ) (a b : Answer) (r r' s s' : List ℤ)
    → TwoRunsOf d qs ps ps' budget budget a b r r' s s' → OneChanged qs ps ps' → b.trials ≤ a.trials
