-- The loop that compares a candidate with a row: while columns are equal, the rest compares as the whole does.
-- Assumes nothing.
use Prim.Native.Nat.{ℕ, suc, ◌+◌, ◌-◌, ◌<◌, ◌≤◌}
use native.Mathlib.Nat.{sub-zero}
use native.Mathlib.Omega.{arith}
use mathlib.Core.Bool.{Bool, true, not}
use mathlib.Core.List.{List}
use mathlib.Core.Path.{◌≡◌, refl, sym, ◌∙◌, ap}
use lib.IntN.{ℤ}
use Rattle.std.specs.Prelude.{Option, None, Some}
use Rattle.std.specs.Bool.{◌==◌}
use Rattle.std.specs.Option.{option_eq}
use Rattle.std.specs.Ordering.{ordering_index, partial_ordering_then}
use Rattle.std.specs.declared.cmp.Ordering.{Ordering}
use Rattle.std.specs.declared.cmp.Ordering.TheVariants.{Less, Equal, Greater}
use Rattle.value.specs.Exact.{order_of}
use Rattle.rows.specs.Insertion.{compare_from}
use Rattle.words.specs.Words.{value_at}

-- the first c columns are equal
pub record Alike (n : ℕ) (x l : List ℤ) (at c : ℕ) : Type 0 where
  pub within : c ≤ n
  pub rest : compare_from n x 0 l at ≡ compare_from (n - c) x c l (at + c)

-- as the machine tests it
abbrev pub is_not_equal : Option Ordering → Bool
is_not_equal o = not (option_eq (λ x y. ordering_index x == ordering_index y) o (Some Equal))

then_other : (o d : Option Ordering) → is_not_equal o ≡ true → partial_ordering_then o d ≡ o
then_other None d e = refl
then_other (Some Less) d e = refl
then_other (Some Equal) d e = cc
then_other (Some Greater) d e = refl

pub alike_begin : (n : ℕ) (x l : List ℤ) (at : ℕ) → Alike n x l at 0
alike_begin n x l at =
    let e : n - 0 ≡ n = sub-zero n in
    let f : at + 0 ≡ at = omega arith in
    record { within = omega arith; rest = rw (e, f) refl }

module _ (n : ℕ) (x l : List ℤ) (at c : ℕ) (h : Alike n x l at c) where
  module _ (lt : c < n) (o : Option Ordering) (e : o ≡ order_of (value_at x c) (value_at l (at + c))) where
    step : compare_from (n - c) x c l (at + c) ≡ partial_ordering_then o (compare_from (n - (c + 1)) x (c + 1) l (at + (c + 1)))
    unfolding compare_from
    step =
        let k : n - c ≡ suc (n - (c + 1)) = omega arith in
        let f : at + (c + 1) ≡ at + c + 1 = omega arith in
        rw (k, e, f) refl

    pub alike_more : o ≡ Some Equal → Alike n x l at (c + 1)
    alike_more t = record { within = omega arith; rest = h.rest ∙ step ∙ ap (λ p. partial_ordering_then p (compare_from (n - (c + 1)) x (c + 1) l (at + (c + 1)))) t }

    pub alike_stop : is_not_equal o ≡ true → o ≡ compare_from n x 0 l at
    alike_stop t = sym (h.rest ∙ step ∙ then_other o _ t)

  pub alike_end : n ≤ c → Some Equal ≡ compare_from n x 0 l at
  unfolding compare_from
  alike_end le =
      let k : n - c ≡ 0 = omega arith in
      sym (h.rest ∙ ap (λ (m : ℕ). compare_from m x c l (at + c)) k)
