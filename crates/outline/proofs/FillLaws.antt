-- The descriptions of five blocks, each in its place.
use Prim.Native.Nat.{ℕ, zero, suc, ◌<◌}
use native.Mathlib.Omega.{arith}
use mathlib.Core.List.{[], ◌∷◌}
use lib.ListN.{get_or}
use Rattle.outline.specs.declared.Outline.{Outline}

pub five_filled : (P : ℕ → Outline → Type 0) (a b c d e : Outline) → P 0 a → P 1 b → P 2 c → P 3 d → P 4 e
    → (k : ℕ) → k < 5 → (o : Outline) → P k (get_or (a ∷ b ∷ c ∷ d ∷ e ∷ []) k o)
five_filled P a b c d e p q r s t zero h o = p
five_filled P a b c d e p q r s t (suc zero) h o = q
five_filled P a b c d e p q r s t (suc (suc zero)) h o = r
five_filled P a b c d e p q r s t (suc (suc (suc zero))) h o = s
five_filled P a b c d e p q r s t (suc (suc (suc (suc zero)))) h o = t
five_filled P a b c d e p q r s t (suc (suc (suc (suc (suc k))))) h o = absurd (omega arith)
