-- The theorems at job J: their premises are met, and what they say can be seen.
use Prim.Native.Nat.{ℕ, zero, suc, ◌<◌, ◌≤◌}
use native.Mathlib.Omega.{arith}
use mathlib.Core.List.{List, [], ◌∷◌}
use mathlib.Core.Path.{◌≡◌, refl}
use lib.IntN.{ℤ}
use lib.ListN.{length}
use Rattle.model.specs.Answer.{count, answer_of, result_after}
use Rattle.model.specs.Index.{index_of, index_number, index_after}
use Rattle.model.specs.Lists.{All, overwrite}
use Rattle.model.specs.Matching.{set_of}
use Rattle.model.specs.Plan.{path_in}
use Rattle.model.specs.PlanAgreement.{root, Accepted, TwoRuns, file-to-index, index-to-merging, OneChanged}
use Rattle.model.specs.Records.{question_of}
use Rattle.model.specs.ResultOrder.{RowsAscend, AnyTwoAscend, SameWords}
use Rattle.model.specs.AbsentValues.{Fits}
use Rattle.model.specs.Scan.{unbound}
use Rattle.model.specs.Scope.{levels}
use Rattle.model.proofs.AbsentValues.{values_fit}
use Rattle.model.proofs.Examples.{enough, integers, data_j, question_j, plan_j, rows_j}
use Rattle.model.proofs.Opens.{opens}
use Rattle.model.proofs.PlansAgree.{plans_agree, change_never_raises}
use Rattle.model.proofs.ResultOrder.{result_ascends, rows-between, plans_same-words, plans_same-result}
use Rattle.model.proofs.ResultOrder.{plans_same-after}

pub J_accepted : Accepted enough data_j question_j
unfolding opens
J_accepted = refl

-- file for block 1 at budget 20, merging at budget 7
pub J_plans : TwoRuns enough enough data_j question_j (plan_j 0 0) (plan_j 2 1) 20 7
unfolding opens
J_plans = plans_agree enough enough data_j question_j (plan_j 0 0) (plan_j 2 1) 20 7 J_accepted J_accepted tt tt

-- the result after J by file, index and merging, each at its count of trials, over any words
module _ (words : List ℤ) where
  abbrev by-file : List ℤ
  by-file = result_after enough data_j question_j (plan_j 0 0) 20 words

  abbrev by_index : List ℤ
  by_index = result_after enough data_j question_j (plan_j 1 1) 10 words

  abbrev by-merging : List ℤ
  by-merging = result_after enough data_j question_j (plan_j 2 1) 8 words

  -- the twelve words of the rows in front, the others kept
  pub J-words : (by-file ≡ overwrite (integers rows_j) words) × (by_index ≡ overwrite (integers rows_j) words)
      × (by-merging ≡ overwrite (integers rows_j) words)
  unfolding opens
  J-words = (refl, refl, refl)

  -- three rows of two columns that ascend, neighbours and any two
  pub J-ascends : RowsAscend 2 3 by-merging × AnyTwoAscend 2 3 by-merging
  unfolding opens
  J-ascends = (
    result_ascends enough data_j question_j (plan_j 2 1) 8 words refl,
    rows-between enough data_j question_j (plan_j 2 1) 8 words refl,
  )

  -- the whole results: where both gave rows, and where neither is over its budget
  pub J-same-result : by-file ≡ by-merging
  unfolding opens
  J-same-result = plans_same-result enough enough data_j question_j (plan_j 0 0) (plan_j 2 1) 20 8 words refl refl

  pub J-same-after : by-file ≡ by-merging
  unfolding opens
  J-same-after =
      plans_same-after enough enough data_j question_j (plan_j 0 0) (plan_j 2 1) 20 8 words J_accepted J_accepted tt tt
      (λ e. omega arith) (λ e. omega arith)

-- the words of the rows, over results that held other words
pub J_same-words : (words words' : List ℤ)
    → SameWords (answer_of enough data_j question_j (plan_j 0 0) 20) (answer_of enough data_j question_j (plan_j 2 1) 8)
    (by-file words) (by-merging words')
unfolding opens
J_same-words words words' =
    plans_same-words enough enough data_j question_j (plan_j 0 0) (plan_j 2 1) 20 8 words words' refl refl

-- index on 1 made merging on 1, and file made index on 1
to_merging : OneChanged question_j (plan_j 1 1) (plan_j 2 1)
unfolding opens
to_merging = record { at = 1; here = index-to-merging; elsewhere = others }
  where
    others : (j : ℕ) → j < length (question_of question_j) → (j ≡ 1 → ⊥) → path_in (plan_j 2 1) j ≡ path_in (plan_j 1 1) j
    others zero l h = refl
    others (suc zero) l h = absurd (h refl)
    others (suc (suc j)) l h = absurd (omega arith)

to_index : OneChanged question_j (plan_j 0 0) (plan_j 1 1)
unfolding opens
to_index = record { at = 1; here = file-to-index; elsewhere = others }
  where
    others : (j : ℕ) → j < length (question_of question_j) → (j ≡ 1 → ⊥) → path_in (plan_j 1 1) j ≡ path_in (plan_j 0 0) j
    others zero l h = refl
    others (suc zero) l h = absurd (h refl)
    others (suc (suc j)) l h = absurd (omega arith)

pub J_changes : (count data_j question_j (plan_j 2 1) ≤ count data_j question_j (plan_j 1 1))
    × (count data_j question_j (plan_j 1 1) ≤ count data_j question_j (plan_j 0 0))
J_changes = (
  change_never_raises data_j question_j (plan_j 1 1) (plan_j 2 1) to_merging,
  change_never_raises data_j question_j (plan_j 0 0) (plan_j 1 1) to_index,
)

-- every value of block 0's set is in bounds or absent (No. 3)
pub J_fits : All (λ w. All Fits w) (set_of levels data_j (question_of question_j) 0 unbound)
unfolding opens
J_fits = values_fit enough data_j question_j J_accepted tt levels 0 unbound root

-- the index on the pan of the samples, and on their Brix; both halves of the answer
pub J_index : index_of data_j 1 2 ≡ 2 ∷ 3 ∷ 0 ∷ 1 ∷ []
unfolding opens
J_index = refl

pub J_index-after : index_after data_j 1 2 (9 ∷ 9 ∷ 9 ∷ 9 ∷ 9 ∷ []) ≡ 2 ∷ 3 ∷ 0 ∷ 1 ∷ 9 ∷ []
unfolding opens
J_index-after = refl

pub J_index_refused : (index_number data_j 2 0 9 ≡ 7) × (index_number data_j 1 3 0 ≡ 7) × (index_number data_j 1 2 3 ≡ 2)
unfolding opens
J_index_refused = (refl, refl, refl)
