-- How many rows a bisection compares with the candidate: for 256 rows at most 9 (`nine_comparisons`). Assumes nothing.
use Prim.Native.Nat.{ℕ, zero, suc, ◌+◌, ◌*◌, ◌-◌, ◌<◌, ◌≤◌}
use native.Mathlib.Omega.{arith}
use mathlib.Core.Path.{◌≡◌, refl}
use mathlib.Core.Bool.{Bool, true, false, cond}
use lib.Dec.{ltb}
use borrow.Author.Tests.{ltb-true, le-ltb}
use Rattle.std.specs.Prelude.{Option, None, Some}
use Rattle.std.specs.declared.cmp.Ordering.{Ordering}
use Rattle.std.specs.declared.cmp.Ordering.TheVariants.{Less, Equal, Greater}
use Rattle.rows.specs.Insertion.{lower, upper, middle}

-- one look, and those after it, where the search goes on
abbrev more : Option Ordering → ℕ → ℕ
more (Some Less) k = suc k
more (Some Equal) k = 1
more (Some Greater) k = suc k
more None k = 1

-- the rows that `bisect` compares, step for step
unfoldable pub comparisons : (ℕ → Option Ordering) → ℕ → ℕ → ℕ → ℕ
comparisons at zero lo hi = 0
comparisons at (suc f) lo hi =
    cond (ltb lo hi)
    (more (at (middle lo hi))
    (comparisons at f (lower (at (middle lo hi)) (middle lo hi) lo) (upper (at (middle lo hi)) (middle lo hi) hi))) 0

unfoldable pub twice : ℕ → ℕ
twice zero = 1
twice (suc k) = 2 * twice k

pub few_comparisons : (at : ℕ → Option Ordering) (k f lo hi : ℕ) → hi - lo < twice k → comparisons at f lo hi ≤ k
unfolding comparisons twice
few_comparisons at k zero lo hi h = omega arith
few_comparisons at zero (suc f) lo hi h = let le : hi ≤ lo = omega arith in simp (le-ltb lo hi le) (omega arith)
few_comparisons at (suc k) (suc f) lo hi h = go (λ a b q. few_comparisons at k f a b q) (ltb lo hi) refl
  where
    next : (o : Option Ordering) → lo < hi → ((a b : ℕ) → b - a < twice k → comparisons at f a b ≤ k)
        → more o (comparisons at f (lower o (middle lo hi) lo) (upper o (middle lo hi) hi)) ≤ suc k
    next (Some Less) l again = omega (arith, again lo (middle lo hi) (omega arith))
    next (Some Equal) l again = omega arith
    next (Some Greater) l again = omega (arith, again (middle lo hi + 1) hi (omega arith))
    next None l again = omega arith

    go : ((a b : ℕ) → b - a < twice k → comparisons at f a b ≤ k) → (t : Bool) → ltb lo hi ≡ t
        → comparisons at (suc f) lo hi ≤ suc k
    go again true t = simp t (next (at (middle lo hi)) (ltb-true lo hi t) again)
    go again false t = simp t (omega arith)

-- in a set of at most 256 rows, 9 at most
pub nine_comparisons : (at : ℕ → Option Ordering) (f count : ℕ) → count ≤ 256 → comparisons at f 0 count ≤ 9
unfolding twice
nine_comparisons at f count h = few_comparisons at 9 f 0 count (omega arith)
