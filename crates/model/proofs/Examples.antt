-- The paper's starred examples (01, "Trial boils", as No. 3 amends J's last line), from data words, question bytes and
-- plan bytes to the answer and the words written: one table, `starred`, and one theorem over it, `starred_right`.
-- `further` has cases of the same form for what the starred ones leave open.
--   Example            data, question, plan, budget; the expected number, rows, columns, trials and written words
--   computed e         what the definitions give for an example, with buffers just long enough; expected e: what it
--                      states
--   pans, samples      J's tables; data_j: its words
--   top_j cs es         J's block 0 with conditions cs and output list es; each_j es: its block 1 with output list es
use Prim.Native.Nat.{ℕ}
use mathlib.Core.List.{List, [], ◌∷◌, ◌++◌, map}
use mathlib.Core.Path.{◌≡◌, refl}
use lib.IntN.{ℤ, pos}
use Rattle.model.specs.Answer.{answer_of, written_of}
use Rattle.model.specs.Refusal.{Lengths, result_length, sets_length, files_length, indexes_length}
use Rattle.model.specs.declared.Answer.{Answer}
use Rattle.model.proofs.ExampleBytes.{blank, const, var, fix, agg, bk, row, cond, out, en, pl}
use Rattle.model.proofs.Opens.{opens}

pub record Example : Type 0 where
  pub words : List ℤ
  pub question : List ℕ
  pub plan : List ℕ
  pub budget : ℕ
  pub answer : Answer
  pub written : List ℤ

abbrev pub enough : Lengths
enough = record { result = result_length; sets = sets_length; files = files_length; indexes = indexes_length }

abbrev pub computed : Example → Answer × List ℤ
computed e = (
  answer_of enough e.words e.question e.plan e.budget,
  written_of enough e.words e.question e.plan e.budget,
)

abbrev pub expected : Example → Answer × List ℤ
expected e = (e.answer, e.written)

abbrev pub answers : ℕ → ℕ → ℕ → ℕ → Answer
answers n r c t = record { number = n; rows = r; columns = c; trials = t }

abbrev pub integers : List ℕ → List ℤ
integers xs = map pos xs

-- the pans 1, 2, 3, 2; the samples by number, pan and tenths of Brix
abbrev pub pans : List ℕ
pans = 1 ∷ 2 ∷ 3 ∷ 2 ∷ []

abbrev pub samples : List ℕ
samples = 11 ∷ 1 ∷ 910 ∷ 12 ∷ 1 ∷ 913 ∷ 13 ∷ 2 ∷ 905 ∷ 14 ∷ 2 ∷ 905 ∷ []

abbrev pub data_j : List ℤ
data_j = integers ((2 ∷ 1 ∷ 4 ∷ 3 ∷ 4 ∷ []) ++ (pans ++ samples))

abbrev pub top_j : List ℕ → List (List ℕ) → List ℕ
top_j cs es = bk 255 ++ (row 0 (var 0 ∷ []) ++ (cs ++ out es))

abbrev pub each_j : List (List ℕ) → List ℕ
each_j es = bk 0 ++ (row 1 (var 1 ∷ fix 0 ∷ var 2 ∷ []) ++ out es)

abbrev pub ask_j : List ℕ → List ℕ
ask_j cs = top_j cs (var 0 ∷ agg 4 1 1 ∷ []) ++ (each_j (var 1 ∷ var 2 ∷ []) ++ en)

abbrev pub question_j : List ℕ
question_j = ask_j []

abbrev pub plan_j : ℕ → ℕ → List ℕ
plan_j p c = pl 0 0 ++ pl p c

abbrev pub example : List ℤ → List ℕ → List ℕ → ℕ → Answer → List ℕ → Example
example d qs ps budget a ws =
    record { words = d; question = qs; plan = ps; budget = budget; answer = a; written = integers ws }

abbrev pub rows_j : List ℕ
rows_j = 1 ∷ 1 ∷ 1823 ∷ 2 ∷ 2 ∷ 1 ∷ 905 ∷ 1 ∷ 3 ∷ 1 ∷ 0 ∷ 0 ∷ []

-- the sum of the output columns of block 1: the value alone, or with the sample
abbrev pub summed : List (List ℕ) → ℕ → List ℕ
summed es c = top_j [] (var 0 ∷ agg 1 1 c ∷ []) ++ (each_j es ++ en)

-- a block without relation rows that counts all samples
abbrev pub count_all : List ℕ
count_all =
    bk 255 ++ (out (agg 0 1 0 ∷ []) ++ (bk 0 ++ (row 1 (var 1 ∷ var 0 ∷ var 2 ∷ []) ++ (out (var 1 ∷ []) ++ en))))

-- an all-empty relation row over a table without rows, and below it a count of nothing
abbrev pub no_pans : List ℤ
no_pans = integers (1 ∷ 1 ∷ 0 ∷ [])

abbrev pub dropped : List ℕ
dropped =
    bk 255 ++ (row 0 (blank ∷ []) ++
    (out (agg 0 1 0 ∷ []) ++ (bk 0 ++ (row 0 (var 0 ∷ []) ++ (out (var 0 ∷ []) ++ en)))))

abbrev pub billion : ℕ
billion = 1000000000

pub starred : List Example
starred =
    -- J with file for block 1, with index on 1, with merging on 1
    example data_j question_j (plan_j 0 0) billion (answers 0 3 2 20) rows_j
    ∷ example data_j question_j (plan_j 1 1) billion (answers 0 3 2 10) rows_j
    ∷ example data_j question_j (plan_j 2 1) billion (answers 0 3 2 8) rows_j
    -- budgets 8 and 7
    ∷ example data_j question_j (plan_j 2 1) 8 (answers 0 3 2 8) rows_j
    ∷ example data_j question_j (plan_j 2 1) 7 (answers 12 0 0 7) []
    -- ave at least 911: pan 1 only; at least 912: no rows
    ∷ example data_j (ask_j (cond 5 (agg 4 1 1) (const 911))) (plan_j 2 1) billion (answers 0 1 2 8)
    (1 ∷ 1 ∷ 1823 ∷ 2 ∷ [])
    ∷ example data_j (ask_j (cond 5 (agg 4 1 1) (const 912))) (plan_j 2 1) billion (answers 0 0 2 8) []
    -- the sum of the value alone: 905 for pan 2; with the sample: 1,810
    ∷ example data_j (summed (var 2 ∷ []) 0) (plan_j 2 1) billion (answers 0 3 2 8)
    (1 ∷ 1 ∷ 1823 ∷ 1 ∷ 2 ∷ 1 ∷ 905 ∷ 1 ∷ 3 ∷ 1 ∷ 0 ∷ 1 ∷ [])
    ∷ example data_j (summed (var 1 ∷ var 2 ∷ []) 1) (plan_j 2 1) billion (answers 0 3 2 8)
    (1 ∷ 1 ∷ 1823 ∷ 1 ∷ 2 ∷ 1 ∷ 1810 ∷ 1 ∷ 3 ∷ 1 ∷ 0 ∷ 1 ∷ [])
    -- block 0 without relation rows: one row, 4
    ∷ example data_j count_all (plan_j 0 0) billion (answers 0 1 1 4) (4 ∷ 1 ∷ [])
    -- an all-empty relation row over no rows: one match, no trial
    ∷ example no_pans dropped (plan_j 0 0) 0 (answers 0 1 1 0) (0 ∷ 1 ∷ [])
    ∷ []

pub starred_right : map computed starred ≡ map expected starred
unfolding opens starred
starred_right = refl
