-- The parts of a job by place, as the code reads them. That they are the model's job is proved (proofs/JobLaws:
-- `job-told`).
--   four bs i           the four bytes from place i on as a number, the lowest first, those past the end 0
--   stands bs i x y     a part with mark x y stands whole at place i
--   part_at bs i x y     where its contents lie, and how many bytes they are; none where no such part stands
--   whole d p n         the parts make a job of n bytes: data of whole words, nothing after the plan
--   laid d q p          the parts of a job; joined d q p n: these, if they make a job of n bytes
--   with_plan, with_question   the parts, from those before the plan, or before the question
--   parts_of bs          the parts of the job in bs, none where one of them does not stand, or they make no job
--   job_in bs p          the job that the parts tell of, if there are any
use Rattle.std.specs.Prelude.{ℕ, ◌+◌, ◌*◌, ◌-◌, ◌%◌, Bool, ◌&&◌, cond, Option, Some, None, List, eqb, leb, length, get_or, take, drop}
use Rattle.std.specs.Option.{option_and_then}
use Rattle.std.proofs.Math.Option as maybe
use Rattle.std.proofs.Math.Option.{none, some}
use Rattle.model.specs.Listing.{Job}
use Rattle.job.specs.declared.Part.{Part}
use Rattle.job.specs.declared.Parts.{Parts}

abbrev pub four : List ℕ → ℕ → ℕ
four bs i = ((get_or bs (i + 3) 0 * 256 + get_or bs (i + 2) 0) * 256 + get_or bs (i + 1) 0) * 256 + get_or bs i 0

abbrev pub stands : List ℕ → ℕ → ℕ → ℕ → Bool
stands bs i x y =
    eqb (get_or bs i 0) x && eqb (get_or bs (i + 1) 0) y && leb (four bs (i + 2)) 65536
    && leb (four bs (i + 2) + 6) (length bs - i)

unfoldable pub part_at : List ℕ → ℕ → ℕ → ℕ → Option Part
part_at bs i x y = cond (stands bs i x y) (Some (record { at = i + 6; size = four bs (i + 2) })) None

abbrev pub whole : Part → Part → ℕ → Bool
whole d p n = eqb (d.size % 4) 0 && eqb (p.at + p.size) n

abbrev pub laid : Part → Part → Part → Parts
laid d q p =
    record {
      «data» = d.at;
      data_length = d.size;
      question = q.at;
      question_length = q.size;
      plan = p.at;
      plan_length = p.size;
    }

abbrev pub joined : Part → Part → Part → ℕ → Option Parts
joined d q p n = cond (whole d p n) (Some (laid d q p)) None

abbrev pub with_plan : List ℕ → Part → Part → Option Parts
with_plan bs d q = option_and_then (λ p. joined d q p (length bs)) (part_at bs (q.at + q.size) 80 78)

abbrev pub with_question : List ℕ → Part → Option Parts
with_question bs d = option_and_then (with_plan bs d) (part_at bs (d.at + d.size) 81 85)

unfoldable pub parts_of : List ℕ → Option Parts
parts_of bs = option_and_then (with_question bs) (part_at bs 0 68 65)

unfoldable pub job_in : List ℕ → Option Parts → maybe.Option Job
job_in bs None = none
job_in bs (Some p) =
    some
    (record {
      «data» = take p.data_length (drop p.«data» bs);
      question = take p.question_length (drop p.question bs);
      plan = take p.plan_length (drop p.plan bs);
    })
