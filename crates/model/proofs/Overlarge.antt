-- Too large, as the paper words it: `too_large` is true exactly when some evaluated set has over 256 rows.
use Prim.Native.Nat.{ℕ, suc, zero}
use mathlib.Core.Bool.{Bool, ◌||◌}
use mathlib.Core.List.{List}
use mathlib.Core.Logic.{◌⊎◌, inl, inr}
use lib.Dec.{T, ltb, ltb→lt, lt→ltb}
use lib.IntN.{ℤ}
use lib.ListN.{length}
use Rattle.model.specs.Lists.{In, any}
use Rattle.model.specs.Matching.{passing, children, set_of, limit, large_below, too_large, result}
use Rattle.model.specs.PlanAgreement.{Evaluated, root, child, Overlarge}
use Rattle.model.specs.Question.{Block, block_at}
use Rattle.model.specs.Records.{question_of}
use Rattle.model.specs.Scan.{Binding, unbound}
use Rattle.model.specs.Scope.{levels}
use Rattle.model.proofs.Tests.{any_of, of-any, or_right, or_left, or_cases}

module _ (d : List ℤ) (qs : List ℕ) where
  abbrev q : List Block
  q = question_of qs

  -- the set of an evaluation is too large, or one below it
  unfoldable pub large_from : ℕ → Binding → ℕ → Bool
  large_from n m c = ltb limit (length (set_of n d q c m)) || large_below n d q c m

  -- downwards: where a set from an evaluation on is large, it is that of an evaluation
  module _ (n k : ℕ) (b : Binding) (e : Evaluated d q n k b) where
    here-large : T (ltb limit (length (set_of n d q k b))) → Overlarge d qs
    here-large t =
        record { left = n; block = k; binding = b; evaluated = e; over = ltb→lt limit (length (set_of n d q k b)) t }

  below-large : (n k : ℕ) (b : Binding) → Evaluated d q n k b → T (large_below n d q k b) → Overlarge d qs
  unfolding large_below large_from
  below-large (suc n) k b e t = go (or_cases (ltb limit (length (set_of n d q y.0 x.0)))
      (large_below n d q y.0 x.0) y.2) (below-large n y.0 x.0 below)
    where
      x : (m : Binding) × In m (passing d (block_at q k) b) × T (any (large_from n m) (children q k))
      x = of-any (λ m. any (large_from n m) (children q k)) (passing d (block_at q k) b) t

      y : (c : ℕ) × In c (children q k) × T (large_from n x.0 c)
      y = of-any (large_from n x.0) (children q k) x.2

      below : Evaluated d q n y.0 x.0
      below = child e x.1 y.1

      go : T (ltb limit (length (set_of n d q y.0 x.0))) ⊎ T (large_below n d q y.0 x.0)
          → (T (large_below n d q y.0 x.0) → Overlarge d qs) → Overlarge d qs
      go (inl s) r = here-large n y.0 x.0 below s
      go (inr s) r = r s
  below-large zero k b e t = elim t [ ]

  pub overlarge-of : T (too_large d q) → Overlarge d qs
  unfolding too_large result
  overlarge-of t = go (or_cases (ltb limit (length (set_of levels d q 0 unbound))) (large_below levels d q 0 unbound) t)
    where
      go : T (ltb limit (length (set_of levels d q 0 unbound))) ⊎ T (large_below levels d q 0 unbound) → Overlarge d qs
      go (inl s) = here-large levels 0 unbound root s
      go (inr s) = below-large levels 0 unbound root s

  -- upwards: a large set of an evaluation makes the question too large
  up : (n k : ℕ) (b : Binding) → Evaluated d q n k b → T (large_from n b k) → T (too_large d q)
  unfolding too_large result large_below large_from
  up n k b root t = t
  up n k b (child {k = k'} {b = b'} e i j) t =
      up (suc n) k' b' e
      (or_right (ltb limit (length (set_of (suc n) d q k' b'))) _
      (any_of (λ m. any (large_from n m) (children q k')) b (passing d (block_at q k') b') i
      (any_of (large_from n b) k (children q k') j t)))

  pub evaluated-large : (n k : ℕ) (b : Binding) → Evaluated d q n k b → T (large_below n d q k b) → T (too_large d q)
  unfolding large_from
  evaluated-large n k b e t = up n k b e (or_right (ltb limit (length (set_of n d q k b))) (large_below n d q k b) t)

  pub of-overlarge : Overlarge d qs → T (too_large d q)
  unfolding large_from
  of-overlarge o =
      up o.left o.block o.binding o.evaluated
      (or_left (ltb limit (length (set_of o.left d q o.block o.binding))) _
      (lt→ltb limit (length (set_of o.left d q o.block o.binding)) o.over))
