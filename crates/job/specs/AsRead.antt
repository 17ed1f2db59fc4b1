-- Request No. 2, "Rows in one order", at the listing, as a statement: below its first line stand the rows as they are read
-- off the words of the result, from first to last, none moved. Its theorem is `listing_as_read` in proofs/ListingLaws.
--   answer_to j            the answer to job j, in buffers that are long enough, under the listing's budget
--   result_to j words      the result's words after it, from those before
--   ListingAsRead         of an accepted job, whatever the result held before
use Rattle.std.specs.Prelude.{ℕ, List, ◌++◌, ◌≡◌, ℤ}
use Rattle.std.proofs.Math.Option.{some}
use Rattle.model.specs.Answer.{answer_of, result_after}
use Rattle.model.specs.Listing.{Job, job_of, words_of, ok_line, listing_budget, long_enough, listing_of}
use Rattle.model.specs.declared.Answer.{Answer}
use Rattle.job.specs.Texts.{lines_text}

abbrev pub answer_to : Job → Answer
answer_to j = answer_of long_enough (words_of j.«data») j.question j.plan listing_budget

abbrev pub result_to : Job → List ℤ → List ℤ
result_to j words = result_after long_enough (words_of j.«data») j.question j.plan listing_budget words

abbrev pub ListingAsRead : Type 0
ListingAsRead =
    (bs : List ℕ) (j : Job) (words : List ℤ) → job_of bs ≡ some j → (answer_to j).number ≡ 0
    → listing_of bs ≡ ok_line (answer_to j) ++ lines_text (result_to j words) (answer_to j).columns (answer_to j).rows
