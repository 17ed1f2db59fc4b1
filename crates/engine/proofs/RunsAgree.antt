-- Demand 3 for runs (specs/RunAgreement has its statements): the model's theorems, said of what two runs answered and left
-- in their results. Assumes nothing.
use Prim.Native.Nat.{ℕ}
use native.Mathlib.Omega.{arith}
use mathlib.Core.List.{List}
use mathlib.Core.Logic.{◌⊎◌, inl, inr}
use mathlib.Core.Path.{sym, ◌∙◌, ap, subst}
use lib.IntN.{ℤ}
use Rattle.model.specs.Answer.{answer_of, written_of, result_after}
use Rattle.model.specs.Lists.{overwrite}
use Rattle.model.specs.PlanAgreement.{OneRun, BothLarge, BothGiven, BothLargeOrGiven}
use Rattle.model.specs.Refusal.{Lengths}
use Rattle.model.specs.declared.Answer.{Answer}
use Rattle.model.proofs.PlansAgree.{plans_agree, change_never_raises}
use Rattle.engine.specs.RunAgreement.{SameRows, RunsAgree, TwoRunsOf, AnyRunsAgree, ChangeNeverRaised}

module _ (d : List ℤ) (qs ps ps' : List ℕ) (budget budget' : ℕ) (a b : Answer) (r r' s s' : List ℤ)
    (two : TwoRunsOf d qs ps ps' budget budget' a b r r' s s') where
  abbrev l : Lengths
  l = two.lengths

  abbrev l' : Lengths
  l' = two.lengths'

  abbrev x : Answer
  x = answer_of l d qs ps budget

  abbrev y : Answer
  y = answer_of l' d qs ps' budget'

  same : BothLargeOrGiven l l' d qs ps ps' budget budget' → BothLarge d qs x y ⊎ SameRows d qs x y r r' s s'
  unfolding result_after
  same (inl h) = inl h
  same (inr h) =
      inr (record {
        words = written_of l d qs ps budget;
        given = subst (λ w. BothGiven d qs x y (written_of l d qs ps budget) w) (sym h.same-words) h;
        first = two.ran.left;
        second = two.ran'.left ∙ ap (λ w. overwrite w s) (sym h.same-words);
      })

  agreed : RunsAgree d qs ps ps' budget budget' a b r r' s s'
  agreed =
      let t = plans_agree l l' d qs ps ps' budget budget' two.accepted two.accepted' two.admitted two.admitted' in
      let e = two.ran.answered in
      let e' = two.ran'.answered in
      record {
        one = subst (OneRun d qs ps budget) (sym e) t.one;
        other = subst (OneRun d qs ps' budget') (sym e') t.other;
        agree = λ free free'.
            subst (λ z. BothLarge d qs z b ⊎ SameRows d qs z b r r' s s') (sym e)
            (subst (λ z. BothLarge d qs x z ⊎ SameRows d qs x z r r' s s') (sym e')
            (same (t.agree
            (λ n. free (ap (λ (z : Answer). z.number) e ∙ n))
            (λ n. free' (ap (λ (z : Answer). z.number) e' ∙ n)))));
      }

pub runs-agree : AnyRunsAgree
runs-agree = agreed

pub change_never_raised : ChangeNeverRaised
change_never_raised d qs ps ps' budget a b r r' s s' two c =
    let t = agreed d qs ps ps' budget budget a b r r' s s' two in
    let m = change_never_raises d qs ps ps' c in
    let u = t.one.reported in
    let v = t.other.reported in
    omega arith
