-- Computed examples of trials paid ahead and of conditions tested early, over J's tables (01): pans 1, 2, 3, 2 and four
-- samples, two of pan 1 and two of pan 2.
--   lower         block: a pan, a sample of it, another pan below it; gives the pan
--   paid          the trials behind a match of the first relation row; whole: of all three relation rows
--   early_test    a pan that is not below the other one: the condition fails, and nothing follows
use Prim.Native.Nat.{ℕ, ◌+◌, ◌*◌}
use mathlib.Core.Bool.{Bool, true, false, ◌||◌}
use mathlib.Core.List.{[], ◌∷◌, map}
use mathlib.Core.Path.{◌≡◌, refl}
use lib.Dec.{eqb}
use lib.IntN.{pos}
use Rattle.model.specs.Plan.{file}
use Rattle.model.specs.Question.{variable, RelationRow, Block}
use Rattle.model.specs.Scan.{Binding, unbound, bind}
use Rattle.model.specs.Trials.{file_trials, own_trials}
use Rattle.model.proofs.EarlyLaws.{hold_so_far}
use Rattle.model.proofs.Examples.{data_j}
use Rattle.model.proofs.Opens.{opens}
use Rattle.model.proofs.ScanStepLaws.{met_from}

abbrev pub pan : RelationRow
pan = record { table = 0; entries = variable 0 ∷ [] }

abbrev pub sample : RelationRow
sample = record { table = 1; entries = variable 1 ∷ variable 0 ∷ variable 2 ∷ [] }

abbrev pub other : RelationRow
other = record { table = 0; entries = variable 3 ∷ [] }

abbrev pub lower : Block
lower =
    record {
      parent = 255;
      relations = pan ∷ sample ∷ other ∷ [];
      conditions = record { operator = 2; left = variable 3; right = variable 0 } ∷ [];
      outputs = variable 0 ∷ [];
    }

-- the variables bound after a pan and another one
abbrev pub both_pans : ℕ → Bool
both_pans v = eqb v 0 || eqb v 3

pub paid : file_trials data_j (sample ∷ other ∷ []) (bind unbound 0 (pos 2)) ≡ 4 + 2 * 4
unfolding opens
paid = refl

pub paid_none : file_trials data_j (sample ∷ other ∷ []) (bind unbound 0 (pos 3)) ≡ 4 + 0 * 4
unfolding opens
paid_none = refl

pub whole : own_trials file data_j (pan ∷ sample ∷ other ∷ []) unbound ≡ 4 + (12 + 12 + 4 + 12)
unfolding opens
whole = refl

abbrev pub pair : ℕ → ℕ → Binding
pair x y = bind (bind unbound 0 (pos x)) 3 (pos y)

pub early_test : map (λ y. hold_so_far both_pans lower (pair 2 y)) (1 ∷ 2 ∷ 3 ∷ []) ≡ true ∷ false ∷ false ∷ []
unfolding opens hold_so_far
early_test = refl

pub early_follows : met_from data_j lower (sample ∷ []) (pair 2 3) ≡ []
unfolding opens met_from
early_follows = refl
