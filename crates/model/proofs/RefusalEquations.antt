-- The equations of specs/Refusal, one for each case; of a cause in front: RefusalLaws, `first_passes`, `first_stops`.
use Prim.Native.Nat.{ℕ, suc, ◌<◌}
use native.Mathlib.Omega.{arith}
use mathlib.Core.Bool.{Bool, true, false, ◌&&◌}
use mathlib.Core.List.{List, [], ◌∷◌, ◌++◌}
use mathlib.Core.Path.{◌≡◌, refl}
use lib.Dec.{leb}
use lib.IntN.{ℤ}
use Rattle.model.specs.Checks.{counts_fit, all_there, all_bound, sums_whole, constant_fits}
use Rattle.model.specs.Lists.{All, all, concat_map}
use Rattle.model.specs.Plan.{plan_admitted}
use Rattle.model.specs.Question.{elements}
use Rattle.model.specs.Records.{well_formed, question_of}
use Rattle.model.specs.Refusal.{Cause, first_of, Lengths, result_length, sets_length, files_length, indexes_length}
use Rattle.model.specs.Refusal.{work_long, result_long, buffer_causes, data_causes, question_causes, plan_causes}
use Rattle.model.specs.Refusal.{causes, refusal}
use Rattle.model.specs.Tables.{laid_out, in_range}

pub first_of-nil : first_of [] ≡ 0
unfolding first_of
first_of-nil = refl

pub first_of_refused : (cs ds : List Cause) (n : ℕ) → first_of cs ≡ suc n → first_of (cs ++ ds) ≡ suc n
unfolding first_of
first_of_refused [] ds n e = absurd (omega arith)
first_of_refused (c ∷ cs) ds n e = go c.1 refl e (first_of_refused cs ds n)
  where
    go : (t : Bool) → c.1 ≡ t → first_of (c ∷ cs) ≡ suc n → (first_of cs ≡ suc n → first_of (cs ++ ds) ≡ suc n)
        → first_of ((c ∷ cs) ++ ds) ≡ suc n
    go true h = rw (h, first_of) (λ e r. r e)
    go false h = rw (h, first_of) (λ e r. e)

pub first_of-passed : (cs ds : List Cause) → All (λ c. 0 < c.0) cs → first_of cs ≡ 0 → first_of (cs ++ ds) ≡ first_of ds
unfolding first_of
first_of-passed [] ds u e = refl
first_of-passed (c ∷ cs) ds u e = go c.1 refl e (first_of-passed cs ds u.1)
  where
    go : (t : Bool) → c.1 ≡ t → first_of (c ∷ cs) ≡ 0 → (first_of cs ≡ 0 → first_of (cs ++ ds) ≡ first_of ds)
        → first_of ((c ∷ cs) ++ ds) ≡ first_of ds
    go true h = rw (h, first_of) (λ e r. r e)
    go false h = rw (h, first_of) (λ e r. absurd (let p = u.0 in omega arith))

pub work_long_is : (l : Lengths)
    → work_long l ≡ leb sets_length l.sets && leb files_length l.files && leb indexes_length l.indexes
unfolding work_long
work_long_is l = refl

pub result_long_is : (l : Lengths) → result_long l ≡ leb result_length l.result
unfolding result_long
result_long_is l = refl

pub buffer_causes_is : (l : Lengths) → buffer_causes l ≡ (1, work_long l) ∷ (2, result_long l) ∷ []
unfolding buffer_causes
buffer_causes_is l = refl

pub data_causes_is : (d : List ℤ) → data_causes d ≡ (3, laid_out d) ∷ (4, in_range d) ∷ []
unfolding data_causes
data_causes_is d = refl

pub question_causes_is : (d : List ℤ) (qs : List ℕ)
    → question_causes d qs
    ≡ (5, well_formed qs) ∷ (6, counts_fit (question_of qs)) ∷ (7, all_there d (question_of qs))
    ∷ (8, all_bound (question_of qs))
    ∷ (9, all (sums_whole (question_of qs)) (concat_map elements (question_of qs)))
    ∷ (10, all constant_fits (concat_map elements (question_of qs))) ∷ []
unfolding question_causes
question_causes_is d qs = refl

pub plan_causes_is : (qs ps : List ℕ) → plan_causes qs ps ≡ (11, plan_admitted (question_of qs) ps) ∷ []
unfolding plan_causes
plan_causes_is qs ps = refl

pub causes_is : (l : Lengths) (d : List ℤ) (qs : List ℕ)
    → causes l d qs ≡ buffer_causes l ++ (data_causes d ++ question_causes d qs)
unfolding causes
causes_is l d qs = refl

module _ (l : Lengths) (d : List ℤ) (qs ps : List ℕ) where
  pub refusal_is : refusal l d qs ps ≡ first_of (causes l d qs ++ plan_causes qs ps)
  unfolding refusal
  refusal_is = refl

  pub refusal-early : (n : ℕ) → first_of (causes l d qs) ≡ suc n → refusal l d qs ps ≡ suc n
  unfolding refusal
  refusal-early n e = first_of_refused (causes l d qs) (plan_causes qs ps) n e

  numbered : All (λ c. 0 < c.0) (causes l d qs)
  unfolding causes buffer_causes data_causes question_causes
  numbered = omega arith

  pub refusal-plan : first_of (causes l d qs) ≡ 0 → refusal l d qs ps ≡ first_of (plan_causes qs ps)
  unfolding refusal
  refusal-plan e = first_of-passed (causes l d qs) (plan_causes qs ps) numbered e
