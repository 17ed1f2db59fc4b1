-- The text for the bytes of a job, from what the calls give.
--   words-told      the words of the data in front of the words lent are the data's
--   reply_job       the reply to the parts of a job; reply_bad: to bytes that are no job
--   lengths_are     the buffers have the named lengths; answer_run: the text over what a run leaves in the result
--   reply_listing   under the listing's budget it is the model's listing
use Prim.Native.Nat.{ℕ, ◌/◌, ◌≤◌, min}
use native.Mathlib.Omega.{arith}
use mathlib.Core.List.{List, ◌++◌}
use mathlib.Core.Option.{Option, none, some}
use Rattle.std.specs.Prelude.{Some, None}
use mathlib.Core.Path.{◌≡◌, refl, ◌∙◌, ap, ap₂}
use lib.IntN.{ℤ}
use lib.ListN.{length, take, drop, replicate, length-take, length-replicate}
use lib.Seq.{take_all, take-append_seam}
use Rattle.model.specs.Answer.{answer_of, result_after}
use Rattle.model.specs.Listing.{Job, job_of, words_of, bad_job, listing_budget, long_enough, job_text, listing_of}
use Rattle.model.specs.Lists.{overwrite}
use Rattle.model.specs.Refusal.{Lengths}
use Rattle.model.specs.declared.Answer.{Answer}
use Rattle.engine.specs.Runs.{lengths_of}
use Rattle.job.specs.Places.{parts_of, job_in}
use Rattle.job.specs.Texts.{text}
use Rattle.job.specs.declared.Parts.{Parts}
use Rattle.job.proofs.JobLaws.{job-told}
use Rattle.job.proofs.ListingLaws.{answer-told}
use Rattle.job.proofs.WordLaws.{words-length}
use Rattle.reply.specs.Reply.{answered_under, reply_to, reply_of}

-- ---- the words of the data
words_front : {A : Type 0} (xs ys : List A) (n : ℕ) → n ≡ length xs → take n (overwrite xs ys) ≡ xs
unfolding overwrite
words_front xs ys n e = ap (λ m. take m (xs ++ drop (length xs) ys)) e ∙ take-append_seam xs (drop (length xs) ys)

quarter : (n : ℕ) → n ≤ 65536 → n / 4 ≤ 16384
quarter n h = omega arith

pub words-told : (m : ℕ) (bs ds : List ℕ) → ds ≡ take m bs → m ≤ 65536 → (zs : List ℤ) → length zs ≡ 16384 → (n : ℕ)
    → n ≡ min (length ds / 4) (length zs) → (ws : List ℤ) → ws ≡ overwrite (take (length zs) (words_of ds)) zs
    → take n ws ≡ words_of (take m bs)
words-told m bs ds ds-are short zs room n n-is ws ws-are =
    let l = words-length ds in
    let k = ap length ds-are ∙ length-take m bs in
    let q = quarter (length ds) (omega arith) in
    let whole : take (length zs) (words_of ds) ≡ words_of ds = take_all (length zs) (words_of ds) (omega arith) in
    ap (take n) (ws-are ∙ ap (λ xs. overwrite xs zs) whole)
    ∙ words_front (words_of ds) zs n (omega arith) ∙ ap words_of ds-are

-- ---- the reply
reply_some : (b : ℕ) (bs : List ℕ) (j : Job) → job_of bs ≡ some j → reply_of b bs ≡ reply_to b j
unfolding reply_of
reply_some b bs j e = rw (e, reply_of) refl

reply_none : (b : ℕ) (bs : List ℕ) → job_of bs ≡ none → reply_of b bs ≡ bad_job
unfolding reply_of
reply_none b bs e = rw (e, reply_of) refl

pub reply_job : (b : ℕ) (bs : List ℕ) (p : Parts) → parts_of bs ≡ Some p
    → reply_of b bs
    ≡ answered_under b (words_of (take p.data_length (drop p.«data» bs)))
    (take p.question_length (drop p.question bs)) (take p.plan_length (drop p.plan bs))
unfolding reply_to job_in
reply_job b bs p e = reply_some b bs _ (job-told bs ∙ ap (job_in bs) e)

pub reply_bad : (b : ℕ) (bs : List ℕ) → parts_of bs ≡ None → reply_of b bs ≡ bad_job
unfolding job_in
reply_bad b bs e = reply_none b bs (job-told bs ∙ ap (job_in bs) e)

-- the buffers of a run, before it
pub lengths_are : (z : ℤ)
    → lengths_of (replicate 2048 z) (replicate 8192 z) (replicate 8192 z) (replicate 1280 0) ≡ long_enough
lengths_are z = λ i. record {
  result = length-replicate 2048 z i;
  sets = length-replicate 8192 z i;
  files = length-replicate 8192 z i;
  indexes = length-replicate {A = ℕ} 1280 0 i;
}

pub answer_run : (l : Lengths) → l ≡ long_enough → (d : List ℤ) (qs ps : List ℕ) (b : ℕ) (words : List ℤ) (a : Answer)
    (ws : List ℤ) → a ≡ answer_of l d qs ps b → ws ≡ result_after l d qs ps b words
    → text a ws ≡ answered_under b d qs ps
unfolding answered_under
answer_run l l-is d qs ps b words a ws a-is ws-is =
    ap₂ text (a-is ∙ ap (λ m. answer_of m d qs ps b) l-is) (ws-is ∙ ap (λ m. result_after m d qs ps b words) l-is)
    ∙ answer-told long_enough d qs ps b words

pub reply_listing : (bs : List ℕ) → reply_of listing_budget bs ≡ listing_of bs
unfolding reply_of reply_to answered_under listing_of job_text
reply_listing bs = go (job_of bs)
  where
    go : (o : Option Job)
        → ◌≡◌ {A = List ℕ} (elim o [ none ↦ bad_job | some j ↦ reply_to listing_budget j ])
        (elim o [ none ↦ bad_job | some j ↦ job_text j ])
    go none = refl
    go (some j) = refl
