-- Computed examples of the listing (01, "The listing"): job J and its four lines, refusals, and bytes that are no job.
--   four n               n as four bytes, the lowest first; part m bs: a part with its length
--   job ds qs ps         the bytes of a job; job_j: job J; lines_j: its four lines
--   listings             bytes of standard input, each with what is printed; listings_right: so it is
use Prim.Native.Nat.{ℕ, ◌/◌, ◌%◌}
use mathlib.Core.List.{List, [], ◌∷◌, ◌++◌, map}
use mathlib.Core.Option.{none}
use mathlib.Core.Path.{◌≡◌, refl}
use lib.IntN.{pos, negsuc}
use lib.ListN.{length, take, set, replicate}
use Rattle.model.specs.Listing.{DA, QU, PN, bad_job, contents, words_of, integer_text, listing_of}
use Rattle.model.specs.Lists.{concat_map}
use Rattle.model.specs.Records.{Mark}
use Rattle.model.proofs.Examples.{pans, samples, question_j, plan_j}
use Rattle.model.proofs.Opens.{opens}

abbrev pub four : ℕ → List ℕ
four n = n % 256 ∷ n / 256 % 256 ∷ n / 65536 % 256 ∷ n / 16777216 ∷ []

abbrev pub part : Mark → List ℕ → List ℕ
part m bs = m.first ∷ m.second ∷ (four (length bs) ++ bs)

abbrev pub job : List ℕ → List ℕ → List ℕ → List ℕ
job ds qs ps = part DA ds ++ (part QU qs ++ part PN ps)

abbrev pub bytes_j : List ℕ
bytes_j = concat_map four ((2 ∷ 1 ∷ 4 ∷ 3 ∷ 4 ∷ []) ++ (pans ++ samples))

abbrev pub job_j : List ℕ
job_j = job bytes_j question_j (plan_j 2 1)

-- ok 3 2 8, 1 1823/2, 2 905, 3 -
abbrev pub lines_j : List ℕ
lines_j =
    (111 ∷ 107 ∷ 32 ∷ 51 ∷ 32 ∷ 50 ∷ 32 ∷ 56 ∷ 10 ∷ [])
    ++ ((49 ∷ 32 ∷ 49 ∷ 56 ∷ 50 ∷ 51 ∷ 47 ∷ 50 ∷ 10 ∷ [])
    ++ ((50 ∷ 32 ∷ 57 ∷ 48 ∷ 53 ∷ 10 ∷ []) ++ (51 ∷ 32 ∷ 45 ∷ 10 ∷ [])))

-- a refusal's line: no, a space, the digits
abbrev pub no : List ℕ → List ℕ
no ds = 110 ∷ 111 ∷ 32 ∷ (ds ++ (10 ∷ []))

pub record Listed : Type 0 where
  pub input : List ℕ
  pub printed : List ℕ

abbrev pub listed : List ℕ → List ℕ → Listed
listed bs t = record { input = bs; printed = t }

pub listings : List Listed
listings =
    listed job_j lines_j
    -- refused: no data, no question, no plan; another column
    ∷ listed (job [] [] []) (no (51 ∷ []))
    ∷ listed (job bytes_j [] []) (no (53 ∷ []))
    ∷ listed (job bytes_j question_j []) (no (49 ∷ 49 ∷ []))
    ∷ listed (job bytes_j question_j (plan_j 2 2)) (no (49 ∷ 49 ∷ []))
    -- no job: nothing, a wrong mark, a part cut, a byte after the plan, data of three bytes
    ∷ listed [] bad_job
    ∷ listed (set job_j 1 66) bad_job
    ∷ listed (take 12 job_j) bad_job
    ∷ listed (job_j ++ (0 ∷ [])) bad_job
    ∷ listed (job (1 ∷ 0 ∷ 0 ∷ []) question_j (plan_j 2 1)) bad_job
    ∷ []

pub listings_right : map (λ l. listing_of l.input) listings ≡ map (λ l. l.printed) listings
unfolding opens listings
listings_right = refl

-- no part has 65,537 bytes
pub long_part : contents 65537 (replicate 65537 0) ≡ none
unfolding opens
long_part = refl

-- words below zero, and the least one
pub words_right : words_of (254 ∷ 255 ∷ 255 ∷ 255 ∷ 0 ∷ 0 ∷ 0 ∷ 128 ∷ []) ≡ negsuc 1 ∷ negsuc 2147483647 ∷ []
unfolding opens
words_right = refl

-- -10, 0 and 1,000
pub integers_right : map integer_text (negsuc 9 ∷ pos 0 ∷ pos 1000 ∷ [])
    ≡ (45 ∷ 49 ∷ 48 ∷ []) ∷ (48 ∷ []) ∷ (49 ∷ 48 ∷ 48 ∷ 48 ∷ []) ∷ []
unfolding opens
integers_right = refl
