-- The count of trials in the order in which an engine makes them: one table row at a time, the children at each
-- match, files kept between.
use Prim.Native.Nat.{ℕ, ◌+◌}
use native.Mathlib.Nat.{zero-add}
use native.Mathlib.Omega.{arith}
use mathlib.Core.List.{List, [], ◌∷◌, ◌++◌}
use mathlib.Core.Option.{none, some}
use mathlib.Core.Path.{◌≡◌, refl, sym, ◌∙◌}
use lib.IntN.{ℤ}
use lib.ListN.{length}
use Rattle.model.specs.Lists.{filter, concat_map, sum_over}
use Rattle.model.specs.Matching.{matches, plain_hold, children}
use Rattle.model.specs.Plan.{Path, file, index, merging, path_at}
use Rattle.model.specs.Question.{RelationRow, Block, block_at}
use Rattle.model.specs.Scan.{Binding, match_row, add_match, scan_rows}
use Rattle.model.specs.Tables.{table_rows}
use Rattle.model.specs.Trials.{wants, evaluated_at, file_trials}
use Rattle.model.proofs.Files.{step_file, walk_cost, seen, walk-cost}
use Rattle.model.proofs.Lists.{sum-append, sum-plus, sum-each}
use Rattle.model.proofs.Tests.{filter-append}

module _ {A : Type 0} (f : Binding → ℤ) (ev : Binding → A) where
  unfoldable pub walk_file : List (ℤ × A) → List Binding → List (ℤ × A)
  walk_file fl [] = fl
  walk_file fl (m ∷ ms) = walk_file (step_file f ev fl m) ms

  walk-append : (g : Binding → ℕ) (fl : List (ℤ × A)) (l r : List Binding)
      → walk_cost f ev g fl (l ++ r) ≡ walk_cost f ev g fl l + walk_cost f ev g (walk_file fl l) r
  unfolding walk_cost walk_file
  walk-append g fl [] r = sym (zero-add _)
  walk-append g fl (m ∷ ms) r = omega (arith, walk-append g (step_file f ev fl m) ms r)

  pub file-append : (fl : List (ℤ × A)) (l r : List Binding) → walk_file fl (l ++ r) ≡ walk_file (walk_file fl l) r
  unfolding walk_file
  file-append fl [] r = refl
  file-append fl (m ∷ ms) r = file-append (step_file f ev fl m) ms r

-- one child, by its path; `ev` gives what its evaluation yields, `g` its trials
module _ {A : Type 0} (q : List Block) (c : ℕ) (ev : Binding → A) (g : Binding → ℕ) where
  unfoldable pub child_cost : Path → List (ℤ × A) → List Binding → ℕ
  child_cost file fl ms = sum_over g ms
  child_cost (index k) fl ms = sum_over g ms
  child_cost (merging k) fl ms = walk_cost (wants q c k) ev g fl ms

  unfoldable pub child_file : Path → List (ℤ × A) → List Binding → List (ℤ × A)
  child_file file fl ms = fl
  child_file (index k) fl ms = fl
  child_file (merging k) fl ms = walk_file (wants q c k) ev fl ms

  pub child-total : (p : Path) (ms : List Binding) → child_cost p [] ms ≡ sum_over g (evaluated_at p q c ms)
  unfolding child_cost evaluated_at seen
  child-total file ms = refl
  child-total (index k) ms = refl
  child-total (merging k) ms = walk-cost (wants q c k) ev g [] ms

  child-append : (p : Path) (fl : List (ℤ × A)) (l r : List Binding)
      → child_cost p fl (l ++ r) ≡ child_cost p fl l + child_cost p (child_file p fl l) r
  unfolding child_cost child_file
  child-append file fl l r = sum-append g l r
  child-append (index k) fl l r = sum-append g l r
  child-append (merging k) fl l r = walk-append (wants q c k) ev g fl l r

-- all named children of block k; F has the file of each
module _ {A : Type 0} (d : List ℤ) (q : List Block) (p : List Path) (k : ℕ) (ev : ℕ → Binding → A)
    (g : ℕ → Binding → ℕ) where
  unfoldable pub all_cost : (ℕ → List (ℤ × A)) → List Binding → ℕ
  all_cost F ms = sum_over (λ c. child_cost q c (ev c) (g c) (path_at p c) (F c) ms) (children q k)

  unfoldable pub all_file : (ℕ → List (ℤ × A)) → List Binding → ℕ → List (ℤ × A)
  all_file F ms c = child_file q c (ev c) (g c) (path_at p c) (F c) ms

  pub all_append : (F : ℕ → List (ℤ × A)) (l r : List Binding)
      → all_cost F (l ++ r) ≡ all_cost F l + all_cost (all_file F l) r
  unfolding all_cost all_file
  all_append F l r =
      sum-each _ (λ c. child_cost q c (ev c) (g c) (path_at p c) (F c) l + child_cost q c (ev c) (g c) (path_at p c)
      (all_file F l c) r) (children q k) (λ c i. child-append q c (ev c) (g c) (path_at p c) (F c) l r)
      ∙ sum-plus (λ c. child_cost q c (ev c) (g c) (path_at p c) (F c) l)
      (λ c. child_cost q c (ev c) (g c) (path_at p c) (all_file F l c) r) (children q k)

  -- from a binding, the relation rows ws left
  unfoldable pub cost_from : List RelationRow → Binding → (ℕ → List (ℤ × A)) → ℕ
  cost_from ws b F = file_trials d ws b + all_cost F (filter (plain_hold (block_at q k)) (matches d ws b))

  unfoldable pub found : List RelationRow → Binding → List Binding
  found ws b = filter (plain_hold (block_at q k)) (matches d ws b)

  -- the table rows xs left to try for the relation row w
  unfoldable pub cost_over : RelationRow → List RelationRow → Binding → List (List ℤ) → (ℕ → List (ℤ × A)) → ℕ
  cost_over w ws b xs F = length xs + sum_over (λ m. file_trials d ws m) (scan_rows xs w.entries b) + all_cost F
      (filter (plain_hold (block_at q k)) (concat_map (λ m. matches d ws m) (scan_rows xs w.entries b)))

  pub cost-rows : (w : RelationRow) (ws : List RelationRow) (b : Binding) (F : ℕ → List (ℤ × A))
      → cost_from (w ∷ ws) b F ≡ cost_over w ws b (table_rows d w.table) F
  unfolding cost_from cost_over file_trials matches
  cost-rows w ws b F = refl

  pub row_misses : (w : RelationRow) (ws : List RelationRow) (b : Binding) (x : List ℤ) (xs : List (List ℤ))
      (F : ℕ → List (ℤ × A)) → match_row x w.entries b ≡ none → cost_over w ws b (x ∷ xs) F ≡ 1 + cost_over w ws b xs F
  unfolding cost_over scan_rows add_match
  row_misses w ws b x xs F e = rw e (omega arith)

  pub row-matches : (w : RelationRow) (ws : List RelationRow) (b m : Binding) (x : List ℤ) (xs : List (List ℤ))
      (F : ℕ → List (ℤ × A)) → match_row x w.entries b ≡ some m
      → cost_over w ws b (x ∷ xs) F ≡ 1 + cost_from ws m F + cost_over w ws b xs (all_file F (found ws m))
  unfolding cost_over cost_from found scan_rows add_match concat_map sum_over
  row-matches w ws b m x xs F e =
      rw (
        e,
        filter-append (plain_hold (block_at q k)) (matches d ws m)
            (concat_map (λ m. matches d ws m) (scan_rows xs w.entries b)),
        all_append F (filter (plain_hold (block_at q k)) (matches d ws m))
            (filter (plain_hold (block_at q k)) (concat_map (λ m. matches d ws m) (scan_rows xs w.entries b))),
      )
      (omega arith)
