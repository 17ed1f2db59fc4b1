-- Request No. 2 for runs (specs/RunOrder has its statements): the model's theorems, said of what runs answered and left in
-- their results. Assumes nothing.
use Prim.Native.Nat.{ℕ}
use mathlib.Core.List.{List}
use mathlib.Core.Path.{◌≡◌, sym, ◌∙◌, ap, subst}
use lib.IntN.{ℤ}
use Rattle.model.specs.Answer.{answer_of, result_after}
use Rattle.model.specs.Refusal.{Lengths}
use Rattle.model.specs.ResultOrder.{RowsAscend, AnyTwoAscend, SameWords}
use Rattle.model.specs.declared.Answer.{Answer}
use Rattle.model.proofs.ResultOrder.{result_ascends, rows-between, plans_same-words, plans_same-result}
use Rattle.model.proofs.ResultOrder.{plans_same-after}
use Rattle.engine.specs.RunAgreement.{RanAs}
use Rattle.engine.specs.RunOrder.{RunAscends, RunBetween, RunsSameWords, RunsSameResult, RunsSameAfter}

module _ (l : Lengths) (d : List ℤ) (qs ps : List ℕ) (budget : ℕ) (a : Answer) (r r' : List ℤ)
    (ran : RanAs l d qs ps budget a r r') where
  -- the number of the run is the definition's
  given : a.number ≡ 0 → (answer_of l d qs ps budget).number ≡ 0
  given z = sym (ap (λ (x : Answer). x.number) ran.answered) ∙ z

  -- what the definitions have of answer and result the run has
  as-ran : (P : Answer → List ℤ → Type 0) → P (answer_of l d qs ps budget) (result_after l d qs ps budget r) → P a r'
  as-ran P p = subst (λ x. P x r') (sym ran.answered) (subst (P (answer_of l d qs ps budget)) (sym ran.left) p)

pub run_ascends : RunAscends
run_ascends l d qs ps budget a r r' ran z =
    as-ran l d qs ps budget a r r' ran (λ x w. RowsAscend x.columns x.rows w)
    (result_ascends l d qs ps budget r (given l d qs ps budget a r r' ran z))

pub run-between : RunBetween
run-between l d qs ps budget a r r' ran z =
    as-ran l d qs ps budget a r r' ran (λ x w. AnyTwoAscend x.columns x.rows w)
    (rows-between l d qs ps budget r (given l d qs ps budget a r r' ran z))

pub runs-same-words : RunsSameWords
runs-same-words l l' d qs ps ps' budget budget' a b r r' s s' ran ran' z z' =
    as-ran l d qs ps budget a r r' ran (λ x w. SameWords x b w s')
    (as-ran l' d qs ps' budget' b s s' ran'
    (λ y v. SameWords (answer_of l d qs ps budget) y (result_after l d qs ps budget r) v)
    (plans_same-words l l' d qs ps ps' budget budget' r s (given l d qs ps budget a r r' ran z)
    (given l' d qs ps' budget' b s s' ran' z')))

pub runs-same-result : RunsSameResult
runs-same-result l l' d qs ps ps' budget budget' a b r r' s' ran ran' z z' =
    ran.left
    ∙ plans_same-result l l' d qs ps ps' budget budget' r (given l d qs ps budget a r r' ran z)
    (given l' d qs ps' budget' b r s' ran' z')
    ∙ sym ran'.left

pub runs-same-after : RunsSameAfter
runs-same-after d qs ps ps' budget budget' a b r r' s' two free free' =
    two.ran.left
    ∙ plans_same-after two.lengths two.lengths' d qs ps ps' budget budget' r two.accepted two.accepted'
    two.admitted two.admitted'
    (λ n. free (ap (λ (x : Answer). x.number) two.ran.answered ∙ n))
    (λ n. free' (ap (λ (x : Answer). x.number) two.ran'.answered ∙ n))
    ∙ sym two.ran'.left
