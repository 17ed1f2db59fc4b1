-- Causes of refusal in their order (01, "Causes of refusal": "The lowest number that applies is given").
--   Cause              a number, and the test that its cause does not apply
--   first_of cs         the number of the first cause that applies, 0 where none does
--   Lengths            the lengths of the lent buffers: result, sets, aggregate files, indexes
--   buffer_causes l     1 and 2; data_causes d: 3 and 4; question_causes d qs: 5 to 10; plan_causes qs ps: 11
--   causes l d qs      1 to 10: those checked before the plan
--   refusal l d qs ps  the lowest of 1 to 11 that applies, 0 where none does
use Rattle.std.specs.Prelude.{ℕ, Bool, true, false, ◌&&◌, List, [], ◌∷◌, ◌++◌, leb, ℤ}
use Rattle.model.specs.Checks.{counts_fit, all_there, all_bound, sums_whole, constant_fits}
use Rattle.model.specs.Lists.{all, concat_map}
use Rattle.model.specs.Plan.{plan_admitted}
use Rattle.model.specs.Question.{elements}
use Rattle.model.specs.Records.{well_formed, question_of}
use Rattle.model.specs.Tables.{laid_out, in_range}

abbrev pub Cause : Type 0
Cause = ℕ × Bool

unfoldable pub first_of : List Cause → ℕ
first_of [] = 0
first_of (c ∷ cs) = elim c.1 [ true ↦ first_of cs | false ↦ c.0 ]

pub record Lengths : Type 0 where
  pub result : ℕ
  pub sets : ℕ
  pub files : ℕ
  pub indexes : ℕ

abbrev pub result_length : ℕ
result_length = 2048

abbrev pub sets_length : ℕ
sets_length = 8192

abbrev pub files_length : ℕ
files_length = 8192

abbrev pub indexes_length : ℕ
indexes_length = 1280

unfoldable pub work_long : Lengths → Bool
work_long l = leb sets_length l.sets && leb files_length l.files && leb indexes_length l.indexes

unfoldable pub result_long : Lengths → Bool
result_long l = leb result_length l.result

unfoldable pub buffer_causes : Lengths → List Cause
buffer_causes l = (1, work_long l) ∷ (2, result_long l) ∷ []

unfoldable pub data_causes : List ℤ → List Cause
data_causes d = (3, laid_out d) ∷ (4, in_range d) ∷ []

unfoldable pub question_causes : List ℤ → List ℕ → List Cause
question_causes d qs =
    let q = question_of qs in
    (5, well_formed qs) ∷ (6, counts_fit q) ∷ (7, all_there d q) ∷ (8, all_bound q)
    ∷ (9, all (sums_whole q) (concat_map elements q)) ∷ (10, all constant_fits (concat_map elements q)) ∷ []

unfoldable pub plan_causes : List ℕ → List ℕ → List Cause
plan_causes qs ps = (11, plan_admitted (question_of qs) ps) ∷ []

unfoldable pub causes : Lengths → List ℤ → List ℕ → List Cause
causes l d qs = buffer_causes l ++ (data_causes d ++ question_causes d qs)

unfoldable pub refusal : Lengths → List ℤ → List ℕ → List ℕ → ℕ
refusal l d qs ps = first_of (causes l d qs ++ plan_causes qs ps)
