-- The text over the result's words is the model's text of the answer, whatever the result held before.
--   answer-told         for any buffers, data, question, plan and budget
--   answer-as-read      the rows of an accepted answer stand in its text as they are read off the result's words
--   listing_as_read     so it is of the listing (specs/AsRead has its statement)
use Prim.Native.Nat.{ℕ}
use mathlib.Core.List.{List, ◌++◌}
use mathlib.Core.Path.{◌≡◌, sym, ◌∙◌, ap, subst}
use lib.IntN.{ℤ}
use lib.ListN.{length}
use Rattle.model.specs.Answer.{answer_of, written_of, result_after}
use Rattle.model.specs.Listing.{words_of, ok_line, answer_text, listing_budget, long_enough, job_text, listing_of}
use Rattle.model.specs.Lists.{All, overwrite}
use Rattle.model.specs.Matching.{result}
use Rattle.model.specs.Question.{block_at}
use Rattle.model.specs.Records.{question_of}
use Rattle.model.specs.Refusal.{Lengths}
use Rattle.model.specs.RowSet.{Row}
use Rattle.model.specs.declared.Answer.{Answer}
use Rattle.model.proofs.AnswerLaws.{ended, gives, refuses, given-rows, Ended}
use Rattle.model.proofs.WordLaws.{result-columns}
use Rattle.job.specs.AsRead.{ListingAsRead}
use Rattle.job.specs.Texts.{lines_text, text}
use Rattle.job.proofs.TextLaws.{text_written, text_refused, rows_read}

module _ (l : Lengths) (d : List ℤ) (qs ps : List ℕ) (budget : ℕ) (words : List ℤ) where
  abbrev a : Answer
  a = answer_of l d qs ps budget

  abbrev rs : List Row
  rs = result d (question_of qs)

  columns-are : a.columns ≡ length (block_at (question_of qs) 0).outputs → All (λ r. length r ≡ a.columns) rs
  columns-are e = subst (λ (n : ℕ). All (λ r. length r ≡ n) rs) (sym e) (result-columns d (question_of qs))

  pub answer-told : text a (result_after l d qs ps budget words) ≡ answer_text a rs
  unfolding result_after
  answer-told = go (ended l d qs ps budget)
    where
      go : Ended l d qs ps budget → text a (overwrite (written_of l d qs ps budget) words) ≡ answer_text a rs
      go (gives z r) =
          ap (λ ws. text a (overwrite ws words)) r.written
          ∙ text_written a rs words r.rows (columns-are r.columns)
      go (refuses n w) = text_refused a (overwrite (written_of l d qs ps budget) words) rs n

  pub answer-as-read : a.number ≡ 0
      → answer_text a rs ≡ ok_line a ++ lines_text (result_after l d qs ps budget words) a.columns a.rows
  unfolding result_after
  answer-as-read z =
      let g = given-rows l d qs ps budget z in
      rows_read a rs words z g.rows (columns-are g.columns)
      ∙ ap (λ ws. ok_line a ++ lines_text (overwrite ws words) a.columns a.rows) (sym g.written)

pub listing_as_read : ListingAsRead
unfolding listing_of job_text
listing_as_read bs j words e z =
    rw (e, listing_of)
    (answer-as-read long_enough (words_of j.«data») j.question j.plan listing_budget words z)
