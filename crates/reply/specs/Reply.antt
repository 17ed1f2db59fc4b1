-- The text for the bytes of a job (01, "The listing"), under any budget: of a job its answer, of other bytes "bad job". With the
-- listing's budget it is the model's listing (proofs/ReplyLaws: `reply_listing`).
--   answered_under b d qs ps   the text of the answer to a question over tables by a plan, under budget b
--   reply_to b j      the text for job j; reply_of b bs: for the bytes bs
--   budgeted_of bs    the text for a job and the budget behind it, in the last fourteen bytes; else "bad job"
use Rattle.std.specs.Prelude.{ℕ, ◌-◌, List, ℤ, length, take, drop}
use Rattle.std.proofs.Math.Option.{none, some}
use Rattle.model.specs.Answer.{answer_of}
use Rattle.model.specs.Listing.{Job, job_of, words_of, answer_text, bad_job, long_enough}
use Rattle.model.specs.Matching.{result}
use Rattle.model.specs.Records.{question_of}
use Rattle.job.specs.Budgets.{budget_in}

unfoldable pub answered_under : ℕ → List ℤ → (qs ps : List ℕ) → List ℕ
answered_under b d qs ps = answer_text (answer_of long_enough d qs ps b) (result d (question_of qs))

unfoldable pub reply_to : ℕ → Job → List ℕ
reply_to b j = answered_under b (words_of j.«data») j.question j.plan

unfoldable pub reply_of : ℕ → List ℕ → List ℕ
reply_of b bs = elim (job_of bs) [ none ↦ bad_job | some j ↦ reply_to b j ]

unfoldable pub budgeted_of : List ℕ → List ℕ
budgeted_of bs =
    let n = length bs - 14 in
    elim (budget_in (drop n bs)) [ none ↦ bad_job | some b ↦ reply_of b (take n bs) ]
