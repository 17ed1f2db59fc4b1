-- Demand 3 (specs/PlanAgreement has its statement): `plans_agree`, `change_never_raises`.
use Prim.Native.Nat.{ℕ, zero, suc, ◌+◌, ◌<◌, ◌≤◌}
use native.Mathlib.Decide.{ℕ_discrete}
use native.Mathlib.Nat.{min-eq_left, min-eq_right, le_of_lt}
use native.Mathlib.Omega.{arith}
use mathlib.Core.Bool.{Bool, true, false}
use mathlib.Core.List.{List, [], map}
use mathlib.Core.Logic.{◌⊎◌, inl, inr}
use mathlib.Core.Path.{◌≡◌, refl, sym, ◌∙◌, ap, subst}
use lib.Dec.{T, ltb, ltb→lt, nltb→le}
use lib.IntN.{ℤ}
use lib.ListN.{length}
use Rattle.model.specs.Answer.{count, settled, ran_to, outcome_of, answer_of}
use Rattle.model.specs.Lists.{range}
use Rattle.model.specs.Matching.{too_large}
use Rattle.model.specs.Outcome.{figures_of}
use Rattle.model.specs.Plan.{Path, path_at, plan_admitted, path_in, plan_of}
use Rattle.model.specs.PlanAgreement.{Accepted, Admitted, OneRun, BothLargeOrGiven, PlansAgree, Changed}
use Rattle.model.specs.PlanAgreement.{file-to-index, index-to-merging, ChangeNeverRaises}
use Rattle.model.specs.Question.{Block}
use Rattle.model.specs.Records.{question_of}
use Rattle.model.specs.Refusal.{Lengths, first_of, causes, plan_causes, refusal}
use Rattle.model.specs.declared.Outcome.{Outcome}
use Rattle.model.specs.declared.Outcome.TheVariants.{Given, OverBudget, TooLarge}
use Rattle.model.proofs.AnswerLaws.{given-rows}
use Rattle.model.proofs.Overlarge.{overlarge-of, of-overlarge}
use Rattle.model.proofs.RefusalLaws.{first-append, first_passes}
use Rattle.model.proofs.TrialLaws.{Better, same, by_index, by-merging, trials-le}

-- one run that no cause up to 11 refuses
module _ (l : Lengths) (d : List ℤ) (qs ps : List ℕ) (budget : ℕ) (ok : Accepted l d qs) (adm : Admitted qs ps) where
  abbrev q : List Block
  q = question_of qs

  abbrev n : ℕ
  n = count d qs ps

  plan-passes : first_of (plan_causes qs ps) ≡ 0
  unfolding plan_causes first_of
  plan-passes = first_passes 11 (plan_admitted q ps) [] adm

  pub ran : outcome_of l d qs ps budget ≡ ran_to d q (plan_of (length q) ps) budget
  unfolding outcome_of refusal
  ran = rw (first-append (causes l d qs) (plan_causes qs ps) ok plan-passes, outcome_of)

  abbrev Over : Type 0
  Over = (budget < n) × (outcome_of l d qs ps budget ≡ OverBudget budget)

  abbrev Inside : Type 0
  Inside = (n ≤ budget) × (outcome_of l d qs ps budget ≡ settled (too_large d q) d q n)

  outcome : Over ⊎ Inside
  unfolding ran_to
  outcome = go (ltb budget n) refl
    where
      go : (t : Bool) → ltb budget n ≡ t → Over ⊎ Inside
      go true e = inl (ltb→lt budget n (rw e tt), ran ∙ rw (e, ran_to))
      go false e = inr (nltb→le budget n (rw e tt), ran ∙ rw (e, ran_to))

  settled-trials : (t : Bool) → (figures_of (settled t d q n)).trials ≡ n
  unfolding settled
  settled-trials true = refl
  settled-trials false = refl

  settled-not-12 : (t : Bool) → (figures_of (settled t d q n)).number ≡ 12 → ⊥
  unfolding settled
  settled-not-12 true e = omega arith
  settled-not-12 false e = omega arith

  -- the number and the trials of an outcome
  numbered : (o : Outcome) → outcome_of l d qs ps budget ≡ o → (answer_of l d qs ps budget).number ≡ (figures_of o).number
  unfolding answer_of
  numbered o e = ap (λ x. (figures_of x).number) e

  tried : (o : Outcome) → outcome_of l d qs ps budget ≡ o → (answer_of l d qs ps budget).trials ≡ (figures_of o).trials
  unfolding answer_of
  tried o e = ap (λ x. (figures_of x).trials) e

  pub one-run : OneRun d qs ps budget (answer_of l d qs ps budget)
  one-run = go outcome
    where
      go : Over ⊎ Inside → OneRun d qs ps budget (answer_of l d qs ps budget)
      go (inl h) =
          record {
            over-budget = λ e. h.0;
            over-budget-only = λ k. numbered (OverBudget budget) h.1;
            reported = tried (OverBudget budget) h.1 ∙ sym (min-eq_right (le_of_lt h.0));
          }
      go (inr h) =
          record {
            over-budget = λ e. absurd (settled-not-12 (too_large d q) (sym (numbered _ h.1) ∙ e));
            over-budget-only = λ k. absurd (let m = h.0 in omega arith);
            reported = tried _ h.1 ∙ settled-trials (too_large d q) ∙ sym (min-eq_left h.0);
          }

  -- within the budget
  within-budget : ((answer_of l d qs ps budget).number ≡ 12 → ⊥)
      → outcome_of l d qs ps budget ≡ settled (too_large d q) d q n
  within-budget free = go outcome
    where
      go : Over ⊎ Inside → outcome_of l d qs ps budget ≡ settled (too_large d q) d q n
      go (inl h) = absurd (free (numbered (OverBudget budget) h.1))
      go (inr h) = h.1

  large-13 : too_large d q ≡ true → ((answer_of l d qs ps budget).number ≡ 12 → ⊥) → (answer_of l d qs ps budget).number ≡ 13
  unfolding settled
  large-13 e free = numbered (TooLarge n) (within-budget free ∙ ap (λ t. settled t d q n) e)

  given-0 : too_large d q ≡ false → ((answer_of l d qs ps budget).number ≡ 12 → ⊥) → (answer_of l d qs ps budget).number ≡ 0
  unfolding settled
  given-0 e free = numbered (Given _ _ n) (within-budget free ∙ ap (λ t. settled t d q n) e)

pub plans_agree : PlansAgree
plans_agree l l' d qs ps ps' budget budget' ok ok' adm adm' =
    record {
      one = one-run l d qs ps budget ok adm;
      other = one-run l' d qs ps' budget' ok' adm';
      agree = λ free free'. go free free' (too_large d (question_of qs)) refl;
    }
  where
    go : ((answer_of l d qs ps budget).number ≡ 12 → ⊥) → ((answer_of l' d qs ps' budget').number ≡ 12 → ⊥)
        → (t : Bool) → too_large d (question_of qs) ≡ t → BothLargeOrGiven l l' d qs ps ps' budget budget'
    go free free' true e =
        inl (record {
          overlarge = overlarge-of d qs (rw e tt);
          first = large-13 l d qs ps budget ok adm e free;
          second = large-13 l' d qs ps' budget' ok' adm' e free';
        })
    go free free' false e =
        let z = given-0 l d qs ps budget ok adm e free in
        let z' = given-0 l' d qs ps' budget' ok' adm' e free' in
        let g = given-rows l d qs ps budget z in
        let g' = given-rows l' d qs ps' budget' z' in
        inr (record {
          not-overlarge = λ o. subst T e (of-overlarge d qs o);
          first = z;
          second = z';
          same_rows = g.rows ∙ sym g'.rows;
          same-columns = g.columns ∙ sym g'.columns;
          same-words = g.written ∙ sym g'.written;
          rows-of-matching = g.rows;
          columns-of-block-0 = g.columns;
          words-of-matching = g.written;
        })

-- one path changed
better_paths : (f g : ℕ → Path) (a n : ℕ) → ((j : ℕ) → j < a + n → Better (f j) (g j))
    → (k : ℕ) → Better (path_at (map f (range a n)) k) (path_at (map g (range a n)) k)
unfolding range
better_paths f g a zero h k = same
better_paths f g a (suc n) h zero = h a (omega arith)
better_paths f g a (suc n) h (suc k) = better_paths f g (suc a) n (λ j l. h j (omega arith)) k

pub change_never_raises : ChangeNeverRaises
unfolding plan_of
change_never_raises d qs ps ps' o =
    trials-le d (question_of qs) (plan_of (length (question_of qs)) ps) (plan_of (length (question_of qs)) ps')
    (better_paths (path_in ps) (path_in ps') 0 (length (question_of qs))
    (λ j l. at j (omega arith) (ℕ_discrete j o.at)))
  where
    step : (p p' : Path) → Changed p p' → Better p p'
    step p p' file-to-index = by_index
    step p p' index-to-merging = by-merging

    at : (j : ℕ) → j < length (question_of qs) → Dec (j ≡ o.at) → Better (path_in ps j) (path_in ps' j)
    at j l (yes e) = rw e (step (path_in ps o.at) (path_in ps' o.at) o.here)
    at j l (no f) = subst (λ x. Better (path_in ps j) x) (sym (o.elsewhere j l f)) same
