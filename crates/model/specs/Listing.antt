-- The listing (01, "The listing"): the job in the bytes of standard input, and the bytes that the program prints.
--   DA, QU, PN           the marks of a job's parts
--   part_most             the most bytes of a part
--   contents n           n bytes, where they are there and a part may have so many
--   part_of m             a part: mark m, a 4-byte length, the lowest byte first, and so many bytes
--   Job                  a job: the bytes of its data, of its question and of its plan
--   parts                the parts DA, QU, PN in order; job_of bs: the job that the bytes are, or none
--   signed32 n           n as 32-bit two's complement; words_of bs: data bytes as words, the lowest byte first
--   digits_in f n         the decimal digits of n, where it has at most f; digits n: all of them
--   integer_text x        an integer; value_text v: a value, its numerator alone where the denominator is 1, a minus sign
--                        alone where it is absent (No. 3)
--   row_text r            a row's line, its fields split by a space; rows_text rs: the lines of rows
--   ok_line a, no_line n   the first line of an accepted answer; the line of a refusal by number n
--   answer_text a rs      what is printed for answer a, with rows rs where it is accepted, as they stand in the result (No. 2);
--                        bad_job: for no job
--   listing_budget        the budget of the listing; long_enough: buffers of the least lengths that are not refused
--   job_text j            what is printed for a job; listing_of bs: for the bytes of standard input
use Rattle.std.specs.Prelude.{ℕ, zero, suc, ◌+◌, ◌-◌, ◌/◌, ◌%◌, ◌^◌, true, false, ◌&&◌, cond, List, [], ◌∷◌, ◌++◌, eqb, ltb, leb, ℤ, pos, negsuc, length, take, drop}
use Rattle.std.proofs.Math.Option.{Option, none, some}
use Rattle.model.specs.Answer.{answer_of}
use Rattle.model.specs.Format.{Parser, ◌>>=◌, give, only, number64}
use Rattle.model.specs.Lists.{concat_map}
use Rattle.model.specs.Matching.{result}
use Rattle.model.specs.Records.{Mark, marked, ends, question_of}
use Rattle.model.specs.Refusal.{Lengths, result_length, sets_length, files_length, indexes_length}
use Rattle.model.specs.RowSet.{Row}
use Rattle.model.specs.Value.{Value}
use Rattle.model.specs.declared.Answer.{Answer}

abbrev pub DA : Mark
DA = record { first = 68; second = 65 }

abbrev pub QU : Mark
QU = record { first = 81; second = 85 }

abbrev pub PN : Mark
PN = record { first = 80; second = 78 }

abbrev pub part_most : ℕ
part_most = 65536

unfoldable pub contents : ℕ → Parser (List ℕ)
contents n bs = cond (leb n part_most && leb n (length bs)) (some (take n bs, drop n bs)) none

unfoldable pub part_of : Mark → Parser (List ℕ)
part_of m bs =
    cond (marked m bs && leb 6 (length bs)) (contents (number64 (take 4 (drop 2 bs))) (drop 6 bs)) none

pub record Job : Type 0 where
  pub «data» : List ℕ
  pub question : List ℕ
  pub plan : List ℕ

unfoldable pub parts : Parser Job
parts = do
  d ← part_of DA
  d' ← only (eqb (length d % 4) 0) d
  q ← part_of QU
  p ← part_of PN
  give (record { «data» = d'; question = q; plan = p })

unfoldable pub job_of : List ℕ → Option Job
job_of bs = elim (parts bs) [
  | none ↦ none
  | some j ↦ elim (ends j.1) [ true ↦ some j.0 | false ↦ none ]
]

unfoldable pub signed32 : ℕ → ℤ
signed32 n = cond (ltb n (2 ^ 31)) (pos n) (negsuc (2 ^ 32 - 1 - n))

unfoldable pub words_of : List ℕ → List ℤ
words_of [] = []
words_of (a ∷ []) = []
words_of (a ∷ b ∷ []) = []
words_of (a ∷ b ∷ c ∷ []) = []
words_of (a ∷ b ∷ c ∷ d ∷ bs) = signed32 (number64 (a ∷ b ∷ c ∷ d ∷ [])) ∷ words_of bs

unfoldable pub digits_in : ℕ → ℕ → List ℕ
digits_in zero n = []
digits_in (suc f) n = cond (ltb n 10) ((48 + n) ∷ []) (digits_in f (n / 10) ++ ((48 + n % 10) ∷ []))

unfoldable pub digits : ℕ → List ℕ
digits n = digits_in (suc n) n

unfoldable pub integer_text : ℤ → List ℕ
integer_text (pos n) = digits n
integer_text (negsuc n) = 45 ∷ digits (suc n)

unfoldable pub value_text : Value → List ℕ
value_text v = cond (eqb v.den 0) (45 ∷ [])
    (cond (eqb v.den 1) (integer_text v.num) (integer_text v.num ++ (47 ∷ digits v.den)))

unfoldable pub row_text : Row → List ℕ
row_text [] = 10 ∷ []
row_text (v ∷ []) = value_text v ++ (10 ∷ [])
row_text (v ∷ w ∷ vs) = value_text v ++ (32 ∷ row_text (w ∷ vs))

unfoldable pub rows_text : List Row → List ℕ
rows_text rs = concat_map row_text rs

-- "ok ROWS COLUMNS TRIALS"
unfoldable pub ok_line : Answer → List ℕ
ok_line a =
    (111 ∷ 107 ∷ 32 ∷ [])
    ++ (digits a.rows ++ (32 ∷ (digits a.columns ++ (32 ∷ (digits a.trials ++ (10 ∷ []))))))

-- "no NUMBER"
unfoldable pub no_line : ℕ → List ℕ
no_line n = (110 ∷ 111 ∷ 32 ∷ []) ++ (digits n ++ (10 ∷ []))

unfoldable pub answer_text : Answer → List Row → List ℕ
answer_text a rs = cond (eqb a.number 0) (ok_line a ++ rows_text rs) (no_line a.number)

-- "bad job"
abbrev pub bad_job : List ℕ
bad_job = 98 ∷ 97 ∷ 100 ∷ 32 ∷ 106 ∷ 111 ∷ 98 ∷ 10 ∷ []

abbrev pub listing_budget : ℕ
listing_budget = 1000000000

abbrev pub long_enough : Lengths
long_enough = record { result = result_length; sets = sets_length; files = files_length; indexes = indexes_length }

unfoldable pub job_text : Job → List ℕ
job_text j =
    answer_text (answer_of long_enough (words_of j.«data») j.question j.plan listing_budget)
    (result (words_of j.«data») (question_of j.question))

unfoldable pub listing_of : List ℕ → List ℕ
listing_of bs = elim (job_of bs) [ none ↦ bad_job | some j ↦ job_text j ]
