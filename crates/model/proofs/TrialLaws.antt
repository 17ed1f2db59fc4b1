-- (T1) A better path for a block never raises the count of trials.
use Prim.Native.Nat.{ℕ, zero, suc, ◌+◌, ◌≤◌, zero-le}
use native.Mathlib.Nat.{le_refl, le_trans}
use native.Mathlib.Omega.{arith}
use mathlib.Core.Bool.{Bool, true, false}
use mathlib.Core.List.{List, [], ◌∷◌}
use mathlib.Core.Path.{◌≡◌, refl}
use lib.IntN.{ℤ}
use lib.ListN.{length, set}
use Rattle.model.specs.Lists.{any, sum_over}
use Rattle.model.specs.Matching.{live, passing, children}
use Rattle.model.specs.Plan.{Path, file, index, merging, path_at}
use Rattle.model.specs.Question.{RelationRow, Block, block_at}
use Rattle.model.specs.Scan.{Binding, unbound}
use Rattle.model.specs.Scope.{levels}
use Rattle.model.specs.Trials.{rows_having, tried_rows, own_trials, wants, firsts, evaluated_at, trials_in, trials}
use Rattle.model.specs.Value.{equal_z}
use Rattle.model.proofs.Lists.{sum_mono}
use Rattle.model.proofs.Tests.{filter-length}

pub sum-firsts : (f : Binding → ℕ) (g : Binding → ℤ) (seen : List ℤ) (l : List Binding)
    → sum_over f (firsts g seen l) ≤ sum_over f l
unfolding firsts sum_over
sum-firsts f g seen [] = zero-le
sum-firsts f g seen (m ∷ ms) =
    go (sum-firsts f g seen ms) (sum-firsts f g (g m ∷ seen) ms) (any (equal_z (g m)) seen) refl
  where
    go : sum_over f (firsts g seen ms) ≤ sum_over f ms → sum_over f (firsts g (g m ∷ seen) ms) ≤ sum_over f ms
        → (t : Bool) → any (equal_z (g m)) seen ≡ t → sum_over f (firsts g seen (m ∷ ms)) ≤ f m + sum_over f ms
    go r r' true e = rw (e, firsts) (omega arith)
    go r r' false e = rw (e, firsts) (omega arith)

-- `Better p p'`: p' is p, or index for file, or merging for index on its column
pub data Better : Path → Path → Type 0 where
  same : {p : Path} → Better p p
  by_index : {c : ℕ} → Better file (index c)
  by-merging : {c : ℕ} → Better (index c) (merging c)

tried_le : (p p' : Path) (d : List ℤ) (w : RelationRow) (b : Binding) → Better p p'
    → length (tried_rows p' d w b) ≤ length (tried_rows p d w b)
unfolding tried_rows rows_having
tried_le p p' d w b same = le_refl _
tried_le p p' d w b by_index = filter-length _ _
tried_le p p' d w b by-merging = le_refl _

own-le : (p p' : Path) (d : List ℤ) (ws : List RelationRow) (b : Binding) → Better p p'
    → own_trials p' d ws b ≤ own_trials p d ws b
unfolding own_trials
own-le p p' d [] b h = zero-le
own-le p p' d (w ∷ ws) b h = omega (arith, tried_le p p' d w b h)

evaluated-le : (f : Binding → ℕ) (p p' : Path) (q : List Block) (k : ℕ) (ms : List Binding) → Better p p'
    → sum_over f (evaluated_at p' q k ms) ≤ sum_over f (evaluated_at p q k ms)
unfolding evaluated_at
evaluated-le f p p' q k ms same = le_refl _
evaluated-le f p p' q k ms by_index = le_refl _
evaluated-le f p p' q k ms (by-merging {c = c}) = sum-firsts f (wants q k c) [] ms

module _ (d : List ℤ) (q : List Block) (p p' : List Path) (better : (k : ℕ) → Better (path_at p k) (path_at p' k)) where
  pub trials_in-le : (n k : ℕ) (b : Binding) → trials_in n d q p' k b ≤ trials_in n d q p k b
  unfolding trials_in
  trials_in-le zero k b = zero-le
  trials_in-le (suc n) k b =
      let ms = passing d (block_at q k) b in
      omega (
        arith,
        own-le (path_at p k) (path_at p' k) d (live (block_at q k)) b (better k),
        sum_mono (λ c. sum_over (λ m. trials_in n d q p' c m) (evaluated_at (path_at p' c) q c ms))
            (λ c. sum_over (λ m. trials_in n d q p c m) (evaluated_at (path_at p c) q c ms)) (children q k) (λ c.
            le_trans
            (evaluated-le (λ m. trials_in n d q p' c m) (path_at p c) (path_at p' c) q c ms (better c))
            (sum_mono (λ m. trials_in n d q p' c m) (λ m. trials_in n d q p c m) (evaluated_at (path_at p c) q c ms)
            (λ m. trials_in-le n c m))),
      )

  pub trials-le : trials d q p' ≤ trials d q p
  unfolding trials
  trials-le = trials_in-le levels 0 unbound

-- one block changed, the others unchanged
pub one_better : (p : List Path) (j : ℕ) (x : Path) → Better (path_at p j) x → (k : ℕ)
    → Better (path_at p k) (path_at (set p j x) k)
one_better [] j x h k = same
one_better (y ∷ p) zero x h zero = h
one_better (y ∷ p) zero x h (suc k) = same
one_better (y ∷ p) (suc j) x h zero = same
one_better (y ∷ p) (suc j) x h (suc k) = one_better p j x h k

pub change_le : (d : List ℤ) (q : List Block) (p : List Path) (j : ℕ) (x : Path) → Better (path_at p j) x
    → trials d q (set p j x) ≤ trials d q p
change_le d q p j x h = trials-le d q p (set p j x) (one_better p j x h)
