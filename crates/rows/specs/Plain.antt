-- What the private functions of the search by plain integers give; nothing here stands in a public contract.
--   Plain v             v is whole and inside the bounds of exact order
--   PlainTo m x         the first m values of x are plain
use Rattle.std.specs.Prelude.{ℕ, ◌<◌, ◌≤◌, List, ◌≡◌, ℤ, pos, nat_abs}
use Rattle.value.specs.declared.Value.{Value}
use Rattle.words.specs.Words.{value_at}

pub record Plain (v : Value) : Type 0 where
  pub whole : v.den ≡ pos 1
  pub small : nat_abs v.num ≤ 1000000000000000

abbrev pub PlainTo : ℕ → List ℤ → Type 0
PlainTo m x = (i : ℕ) → i < m → Plain (value_at x i)
