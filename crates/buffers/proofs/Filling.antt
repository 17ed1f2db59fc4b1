-- One more member of a list given the value of those before it.
use Rattle.std.proofs.Common.{◌≡◌, ℕ, zero, suc, ◌+◌, ◌<◌, List, [], ◌∷◌, ◌++◌, length, drop, replicate, refl, ap, add-one, arith}
use Rattle.std.proofs.Math.ListN.{set}

further : {A : Type 0} (v : A) (n : ℕ) (l : List A) → n < length l
    → set (replicate n v ++ drop n l) n v ≡ replicate (suc n) v ++ drop (suc n) l
further v n [] h = absurd (omega arith)
further v zero (x ∷ xs) h = refl
further v (suc n) (x ∷ xs) h = ap (λ k. v ∷ k) (further v n xs (omega arith))

pub filled_more : {A : Type 0} (v : A) (n : ℕ) (l : List A) → n < length l
    → set (replicate n v ++ drop n l) n v ≡ replicate (n + 1) v ++ drop (n + 1) l
filled_more v n l h = rw add-one (further v n l h)
