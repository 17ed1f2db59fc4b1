-- Further computed examples of the same form as proofs/Examples: what the starred ones leave open, and refusals,
-- several causes at once among them.
--   further, further_right   accepted questions
--   Refused                  buffer lengths, data, question, plan, and the expected number; budget 0
--   refusals, refusals_right refused ones: the lowest number that applies
use Prim.Native.Nat.{ℕ}
use mathlib.Core.List.{List, [], ◌∷◌, ◌++◌, map}
use mathlib.Core.Path.{◌≡◌, refl}
use lib.IntN.{ℤ, pos, negsuc}
use lib.ListN.{set, take}
use Rattle.model.specs.Refusal.{Lengths, refusal}
use Rattle.model.proofs.ExampleBytes.{blank, const, var, fix, agg, bk, row, cond, out, en, pl}
use Rattle.model.proofs.Examples.{Example, example, computed, expected, answers, integers, enough, pans, data_j}
use Rattle.model.proofs.Examples.{top_j, each_j, ask_j, question_j, plan_j, billion}
use Rattle.model.proofs.Opens.{opens}

-- equal values in different rows: 910, 910, 913 average 911
abbrev pub equal_values : List ℤ
equal_values =
    integers ((2 ∷ 1 ∷ 4 ∷ 3 ∷ 4 ∷ []) ++ (pans ++ (11 ∷ 1 ∷ 910 ∷ 12 ∷ 1 ∷ 910 ∷ 13 ∷ 1 ∷ 913 ∷ 14 ∷ 2 ∷ 905 ∷ [])))

-- pan 1 averages 1/2 of one and zero, pan 2 averages 2/4: one value
abbrev pub halves : List ℤ
halves = integers ((2 ∷ 1 ∷ 2 ∷ 3 ∷ 6 ∷ []) ++ ((1 ∷ 2 ∷ []) ++
    (11 ∷ 1 ∷ 0 ∷ 12 ∷ 1 ∷ 1 ∷ 13 ∷ 2 ∷ 0 ∷ 14 ∷ 2 ∷ 1 ∷ 15 ∷ 2 ∷ 0 ∷ 16 ∷ 2 ∷ 1 ∷ [])))

-- three levels: for each pan, all pans with the number of their samples, counted
abbrev pub three_levels : List ℕ
three_levels =
    top_j [] (var 0 ∷ agg 0 1 0 ∷ []) ++ (bk 0 ++ (row 0 (var 1 ∷ []) ++ (out (var 1 ∷ agg 0 2 0 ∷ [])
    ++ (bk 1 ++ (row 1 (var 2 ∷ fix 1 ∷ blank ∷ []) ++ (out (var 2 ∷ []) ++ en))))))

abbrev pub three_plan : ℕ → ℕ → List ℕ
three_plan p c = pl 0 0 ++ (pl 0 0 ++ pl p c)

abbrev pub three_rows : List ℕ
three_rows = 1 ∷ 1 ∷ 3 ∷ 1 ∷ 2 ∷ 1 ∷ 3 ∷ 1 ∷ 3 ∷ 1 ∷ 3 ∷ 1 ∷ []

pub further : List Example
further =
    -- a plain condition: the child is evaluated for the two matches of pan 2 alone
    example data_j (ask_j (cond 0 (var 0) (const 2))) (plan_j 0 0) billion (answers 0 1 2 12) (2 ∷ 1 ∷ 905 ∷ 1 ∷ [])
    -- a condition on an aggregate spares no evaluation
    ∷ example data_j (ask_j (cond 2 (agg 4 1 1) (const 911))) (plan_j 0 0) billion (answers 0 1 2 20)
    (2 ∷ 1 ∷ 905 ∷ 1 ∷ [])
    ∷ example equal_values question_j (plan_j 2 1) billion (answers 0 3 2 8)
    (1 ∷ 1 ∷ 911 ∷ 1 ∷ 2 ∷ 1 ∷ 905 ∷ 1 ∷ 3 ∷ 1 ∷ 0 ∷ 0 ∷ [])
    ∷ example halves (top_j [] (agg 4 1 1 ∷ []) ++ (each_j (var 1 ∷ var 2 ∷ []) ++ en)) (plan_j 1 1) billion
    (answers 0 1 1 8)
    (1 ∷ 2 ∷ [])
    -- a merging block below is evaluated anew in each evaluation of its parent: 4 + 4 × (4 + 2 + 2 + 0)
    ∷ example data_j three_levels (three_plan 2 1) billion (answers 0 3 2 36) three_rows
    ∷ example data_j three_levels (three_plan 1 1) billion (answers 0 3 2 44) three_rows
    ∷ example data_j three_levels (three_plan 0 0) billion (answers 0 3 2 84) three_rows
    ∷ []

pub further_right : map computed further ≡ map expected further
unfolding opens further
further_right = refl

pub record Refused : Type 0 where
  pub lengths : Lengths
  pub words : List ℤ
  pub question : List ℕ
  pub plan : List ℕ
  pub number : ℕ

abbrev pub refused : List ℤ → List ℕ → List ℕ → ℕ → Refused
refused d qs ps n = record { lengths = enough; words = d; question = qs; plan = ps; number = n }

abbrev pub refused_by : Refused → ℕ
refused_by e = refusal e.lengths e.words e.question e.plan

-- one word short of a work buffer, and of the result
abbrev pub short_work : Lengths
short_work = record { result = 0; sets = 8191; files = 8192; indexes = 1280 }

abbrev pub short_result : Lengths
short_result = record { result = 2047; sets = 8192; files = 8192; indexes = 1280 }

abbrev pub bad_cell : List ℤ
bad_cell = set data_j 20 (pos 1000001)

pub refusals : List Refused
refusals =
    record { lengths = short_work; words = []; question = []; plan = []; number = 1 }
    ∷ record { lengths = short_result; words = []; question = []; plan = []; number = 2 }
    ∷ refused [] [] [] 3
    ∷ refused (set bad_cell 0 (pos 3)) [] [] 3
    ∷ refused (set data_j 1 (negsuc 0)) question_j (plan_j 1 1) 3
    ∷ refused bad_cell [] [] 4
    ∷ refused (set data_j 20 (negsuc 1000000)) question_j (plan_j 1 1) 4
    ∷ refused data_j [] [] 5
    ∷ refused data_j (set question_j 0 67) (plan_j 1 1) 5
    ∷ refused data_j (take 40 question_j) (plan_j 1 1) 5
    ∷ refused data_j (en ++ en) [] 5
    -- a count limit passed, and malformed later: 5
    ∷ refused data_j (bk 255 ++ (out [] ++ (en ++ en))) [] 5
    ∷ refused data_j en [] 6
    ∷ refused data_j (bk 255 ++ (out [] ++ en)) [] 6
    -- four aggregates of an absent block: 6; three: 7
    ∷ refused data_j (bk 255 ++ (out (agg 0 77 0 ∷ agg 0 77 0 ∷ agg 0 77 0 ∷ agg 0 77 0 ∷ []) ++ en)) [] 6
    ∷ refused data_j (bk 255 ++ (out (agg 0 77 0 ∷ agg 0 77 0 ∷ agg 0 77 0 ∷ []) ++ en)) [] 7
    ∷ refused data_j (set question_j 5 2) (plan_j 1 1) 7
    ∷ refused data_j (top_j [] (var 16 ∷ []) ++ en) [] 7
    ∷ refused data_j (top_j [] (var 1 ∷ []) ++ en) [] 8
    -- a fixed variable of no ancestor
    ∷ refused data_j
    (bk 255
    ++ (row 0 (fix 0 ∷ [])
    ++ (out (agg 0 1 0 ∷ []) ++ (bk 0 ++ (row 0 (var 0 ∷ []) ++ (out (var 0 ∷ []) ++ en)))))) [] 8
    -- ave of an ave column
    ∷ refused data_j (top_j [] (agg 4 1 1 ∷ []) ++ (bk 0 ++ (row 0 (var 1 ∷ []) ++ (out (var 1 ∷ agg 4 2 0 ∷ [])
    ++ (bk 1 ++ (row 1 (var 2 ∷ fix 1 ∷ blank ∷ []) ++ (out (var 2 ∷ []) ++ en))))))) [] 9
    -- the constant 10^15 + 1, and 10^15 itself under a plan that is short
    ∷ refused data_j (top_j (cond 0 (var 0) (1 ∷ 1 ∷ 128 ∷ 198 ∷ 164 ∷ 126 ∷ 141 ∷ 3 ∷ 0 ∷ [])) (var 0 ∷ []) ++ en)
    (pl 0 0) 10
    ∷ refused data_j (top_j (cond 0 (var 0) (1 ∷ 0 ∷ 128 ∷ 198 ∷ 164 ∷ 126 ∷ 141 ∷ 3 ∷ 0 ∷ [])) (var 0 ∷ []) ++ en) [] 11
    ∷ refused data_j question_j (plan_j 1 2) 11
    ∷ refused data_j question_j (pl 2 0 ++ pl 0 0) 11
    ∷ []

pub refusals_right : map refused_by refusals ≡ map (λ e. e.number) refusals
unfolding opens refusals
refusals_right = refl
