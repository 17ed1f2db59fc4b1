-- Computed examples of absent values (No. 3), of the same form as proofs/Examples.
--   least_brix          of each pan the least Brix of its samples, alone
--   below_pans es       block 0 has no relation rows and gives es of block 1: each pan with its samples' least Brix
--   three_files         file for three blocks
--   empty_pans          two pans and no sample; signed_samples: pans with -5, 0 and 3, and one with no sample
--   absents, absents_right   the examples
use Prim.Native.Nat.{ℕ}
use mathlib.Core.List.{List, [], ◌∷◌, ◌++◌, map}
use mathlib.Core.Path.{◌≡◌, refl}
use lib.IntN.{ℤ, pos, negsuc}
use lib.ListN.{set}
use Rattle.model.proofs.ExampleBytes.{const, var, fix, agg, bk, row, cond, out, en, pl}
use Rattle.model.proofs.Examples.{Example, example, computed, expected, answers, integers, data_j}
use Rattle.model.proofs.Examples.{top_j, each_j, ask_j, plan_j, billion}
use Rattle.model.proofs.Opens.{opens}

abbrev pub least_brix : List ℕ
least_brix = top_j [] (agg 2 1 1 ∷ []) ++ (each_j (var 1 ∷ var 2 ∷ []) ++ en)

abbrev pub below_pans : List (List ℕ) → List ℕ
below_pans es =
    bk 255 ++ (out es
    ++ (bk 0 ++ (row 0 (var 0 ∷ []) ++ (out (var 0 ∷ agg 2 2 1 ∷ [])
    ++ (bk 1 ++ (row 1 (var 1 ∷ fix 0 ∷ var 2 ∷ []) ++ (out (var 1 ∷ var 2 ∷ []) ++ en)))))))

abbrev pub three_files : List ℕ
three_files = pl 0 0 ++ (pl 0 0 ++ pl 0 0)

abbrev pub empty_pans : List ℤ
empty_pans = integers (2 ∷ 1 ∷ 2 ∷ 3 ∷ 0 ∷ 3 ∷ 4 ∷ [])

abbrev pub signed_samples : List ℤ
signed_samples =
    set (integers ((2 ∷ 1 ∷ 4 ∷ 3 ∷ 3 ∷ []) ++ ((1 ∷ 2 ∷ 3 ∷ 4 ∷ []) ++ (11 ∷ 1 ∷ 5 ∷ 12 ∷ 2 ∷ 0 ∷ 13 ∷ 3 ∷ 3 ∷ []))))
    11 (negsuc 4)

pub absents : List Example
absents =
    -- no operator is met by pan 3: ave ≠ 0, ave = 0, ave = ave, ave ≠ ave
    example data_j (ask_j (cond 1 (agg 4 1 1) (const 0))) (plan_j 2 1) billion (answers 0 2 2 8)
    (1 ∷ 1 ∷ 1823 ∷ 2 ∷ 2 ∷ 1 ∷ 905 ∷ 1 ∷ [])
    ∷ example data_j (ask_j (cond 0 (agg 4 1 1) (const 0))) (plan_j 1 1) billion (answers 0 0 2 10) []
    ∷ example data_j (ask_j (cond 0 (agg 4 1 1) (agg 4 1 1))) (plan_j 0 0) billion (answers 0 2 2 20)
    (1 ∷ 1 ∷ 1823 ∷ 2 ∷ 2 ∷ 1 ∷ 905 ∷ 1 ∷ [])
    ∷ example data_j (ask_j (cond 1 (agg 4 1 1) (agg 4 1 1))) (plan_j 2 1) billion (answers 0 0 2 8) []
    -- two absents are one row; absent stands before -5, 0 and 3
    ∷ example empty_pans least_brix (plan_j 2 1) billion (answers 0 1 1 2) (0 ∷ 0 ∷ [])
    ∷ record {
      words = signed_samples;
      question = least_brix;
      plan = plan_j 1 1;
      budget = billion;
      answer = answers 0 4 1 7;
      written = pos 0 ∷ pos 0 ∷ negsuc 4 ∷ pos 1 ∷ pos 0 ∷ pos 1 ∷ pos 3 ∷ pos 1 ∷ [];
    }
    -- over the column absent, 905, 910: count 3, sum 1,815, min 905; max 910, ave 1,815 over 2
    ∷ example data_j (below_pans (agg 0 1 0 ∷ agg 1 1 1 ∷ agg 2 1 1 ∷ [])) three_files billion (answers 0 1 3 20)
    (3 ∷ 1 ∷ 1815 ∷ 1 ∷ 905 ∷ 1 ∷ [])
    ∷ example data_j (below_pans (agg 3 1 1 ∷ agg 4 1 1 ∷ [])) three_files billion (answers 0 1 2 20)
    (910 ∷ 1 ∷ 1815 ∷ 2 ∷ [])
    -- over absents alone: count 2, sum 0, the others absent
    ∷ example empty_pans (below_pans (agg 0 1 0 ∷ agg 1 1 1 ∷ agg 2 1 1 ∷ [])) three_files billion (answers 0 1 3 2)
    (2 ∷ 1 ∷ 0 ∷ 1 ∷ 0 ∷ 0 ∷ [])
    ∷ example empty_pans (below_pans (agg 3 1 1 ∷ agg 4 1 1 ∷ [])) three_files billion (answers 0 1 2 2)
    (0 ∷ 0 ∷ 0 ∷ 0 ∷ [])
    ∷ []

pub absents_right : map computed absents ≡ map expected absents
unfolding opens absents
absents_right = refl
