-- The step of a walk over conditions, by where it stands: within the bytes it passes one condition, past their end it
-- stays. A condition past the end has two empty elements.
use Prim.Native.Nat.{ℕ, zero, suc, ◌+◌, ◌-◌, ◌≤◌, ◌<◌}
use native.Mathlib.Omega.{arith}
use mathlib.Core.List.{List, ◌∷◌}
use mathlib.Core.Path.{◌≡◌, sym, ap}
use lib.ListN.{length}
use borrow.Author.Tests.{lt-ltb, le-ltb}
use Rattle.syntax.specs.Described.{decode, element_at, condition_at, conditions_at}
use Rattle.syntax.specs.Places.{byte_at, word_at, record_end, condition_end}
use Rattle.syntax.specs.declared.Record.TheVariants.{Cd}
use Rattle.syntax.proofs.Laws.{byte_past}
use Rattle.model.specs.Question.{empty}

module _ (bs : List ℕ) (i : ℕ) where
  pub end-within : i < length bs → condition_end bs i ≡ record_end Cd bs i
  unfolding condition_end
  end-within h = simp (lt-ltb i (length bs) h)

  pub end-past : length bs ≤ i → condition_end bs i ≡ i
  unfolding condition_end
  end-past h = simp (le-ltb i (length bs) h)

  -- past the end a walk stays past the end
  pub past-stays : length bs ≤ i → length bs ≤ condition_end bs i
  past-stays h = omega (arith, end-past h)

  pub element-past : length bs ≤ i → element_at bs i ≡ empty
  unfolding element_at
  element-past h =
      ap
      (λ k. decode k (word_at bs (i + 1)) (byte_at bs (i + 1)) (byte_at bs (i + 2)) (byte_at bs (i + 3)))
      (sym (byte_past bs i h))

pub condition_past : (bs : List ℕ) (i : ℕ) → length bs ≤ i
    → condition_at bs i ≡ record { operator = 0; left = empty; right = empty }
unfolding condition_at
condition_past bs i h = λ j. record {
  operator = sym (byte_past bs (i + 2) (omega arith)) j;
  left = element-past bs (i + 3) (omega arith) j;
  right = element-past bs (i + 12) (omega arith) j;
}

-- of n conditions from a place on the first stands there, and the others follow from its end
pub conditions_next : (bs : List ℕ) (n i : ℕ) → 0 < n
    → conditions_at bs n i ≡ condition_at bs i ∷ conditions_at bs (n - 1) (condition_end bs i)
unfolding conditions_at
conditions_next bs zero i h = absurd (omega arith)
conditions_next bs (suc n) i h = let e : suc n - 1 ≡ n = omega arith in simp e
