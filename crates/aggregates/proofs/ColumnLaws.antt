-- A column of a set, value by value, and what the tests of the arguments say. Assumes nothing.
use Prim.Native.Nat.{ℕ, zero, suc, ◌+◌, ◌*◌, ◌-◌, ◌<◌, ◌≤◌}
use native.Mathlib.Omega.{arith}
use native.Mathlib.Nat.{mul-le-mul_right}
use mathlib.Core.Path.{◌≡◌, refl, sym, ap, subst}
use mathlib.Core.Bool.{Bool, true}
use mathlib.Core.List.{List, [], ◌∷◌}
use lib.Dec.{T}
use lib.ListN.{length}
use lib.IntN.{ℤ}
use Rattle.value.specs.declared.Value.{Value}
use Rattle.aggregates.specs.Columns.{column_in}
use Rattle.words.specs.Words.{room_of, value_at, read_at}
use Rattle.words.proofs.WordLaws.{read_value}

pub so : (b : Bool) → b ≡ true → T b
so b e = subst T (sym e) tt

-- ---- one value more
module _ (n : ℕ) (l : List ℤ) where
  pub column-step : (j count r : ℕ) → r < count
      → column_in n l j (count - r) ≡ value_at l j ∷ column_in n l (j + n) (count - (r + 1))
  unfolding column_in
  column-step j count r h = let e : count - r ≡ suc (count - (r + 1)) = omega arith in rw e

  pub column-none : (j count r : ℕ) → count ≤ r → column_in n l j (count - r) ≡ []
  unfolding column_in
  column-none j count r h = let e : count - r ≡ 0 = omega arith in rw e

  pub column-length : (j k : ℕ) → length (column_in n l j k) ≡ k
  unfolding column_in
  column-length j zero = refl
  column-length j (suc k) = ap suc (column-length (j + n) k)

-- value c of row r stands within the words
pub column_fits : (n count c r w j : ℕ) → r < count → c < n → count * n ≤ w → j ≡ c + r * n → j < w
column_fits n count c r w j h k q e = omega (arith, mul-le-mul_right n h)

-- so a reading there gives the value
pub column_read : (l : List ℤ) (n count c r j : ℕ) → r < count → c < n → count * n ≤ room_of (length l) → j ≡ c + r * n
    → (v : Value) → v ≡ read_at l j → v ≡ value_at l j
column_read l n count c r j h k q e v is =
    read_value l j v is (column_fits n count c r (room_of (length l)) j h k q e)
