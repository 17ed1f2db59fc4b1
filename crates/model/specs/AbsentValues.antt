-- Request No. 3, "A tank with no samples", as statements in its words. Each has a theorem of its name in
-- proofs/AbsentValues.
--   EmptySetAbsent         min, max and ave of an empty set are absent; count and sum stay zero
--   AbsentMeetsNothing     an absent value meets no comparison, ≠ included, whichever side it stands on
--   AbsentsEqual           two absents are equal when rows are compared
--   AbsentFirst            absent sorts before every value, negatives too
--   told_in c rs            the rows that have a value in column c
--   AggregatePassesOver    sum, min, max and ave pass over absent values, and so are those of an empty set if none
--                          remains
--   AverageByRemaining     an average divides by how many remain
--   CountPassesNone        count counts the rows, absent values or not
--   Fits v                 v is absent, or its numerator is at most 16,777,216,000,000 in size, its denominator 1 to
--                          256, in lowest terms
--   ValuesFit              so is every value of every set that an evaluation meets, unless one is too large
use Prim.Native.Nat.{Ordering}
use Rattle.std.specs.Prelude.{ℕ, suc, ◌<◌, ◌≤◌, false, not, List, [], ◌∷◌, ◌≡◌, T, ℤ, pos, nat_abs, length}
use Rattle.model.specs.Aggregate.{column_at, column_of, total, aggregate_of}
use Rattle.model.specs.Lists.{All, filter}
use Rattle.model.specs.Matching.{set_of, too_large}
use Rattle.model.specs.PlanAgreement.{Accepted, Evaluated}
use Rattle.model.specs.Records.{question_of}
use Rattle.model.specs.Refusal.{Lengths}
use Rattle.model.specs.RowSet.{Row, order_rows}
use Rattle.model.specs.Scan.{Binding}
use Rattle.model.specs.Value.{Value, whole, zero_value, absent, present, gcd, ratio, order, meets}

abbrev pub EmptySetAbsent : Type 0
EmptySetAbsent =
    (c : ℕ) → (aggregate_of 0 c [] ≡ zero_value) × (aggregate_of 1 c [] ≡ zero_value)
    × (aggregate_of 2 c [] ≡ absent) × (aggregate_of 3 c [] ≡ absent) × (aggregate_of 4 c [] ≡ absent)

abbrev pub AbsentMeetsNothing : Type 0
AbsentMeetsNothing = (o : ℕ) (x : Value) → (meets o absent x ≡ false) × (meets o x absent ≡ false)

abbrev pub AbsentsEqual : Type 0
AbsentsEqual = (r r' : Row) → order_rows (absent ∷ r) (absent ∷ r') ≡ order_rows r r'

abbrev pub AbsentFirst : Type 0
AbsentFirst = (x : Value) → T (present x) → order absent x ≡ Ordering.lt

unfoldable pub told_in : ℕ → List Row → List Row
told_in c rs = filter (λ r. present (column_at c r)) rs

abbrev pub AggregatePassesOver : Type 0
AggregatePassesOver = (f c : ℕ) (rs : List Row) → aggregate_of (suc f) c rs ≡ aggregate_of (suc f) c (told_in c rs)

abbrev pub AverageByRemaining : Type 0
AverageByRemaining =
    (c : ℕ) (rs : List Row) → 0 < length (told_in c rs)
    → aggregate_of 4 c rs ≡ ratio (total (column_of c (told_in c rs))) (length (told_in c rs))

abbrev pub CountPassesNone : Type 0
CountPassesNone = (c : ℕ) (rs : List Row) → aggregate_of 0 c rs ≡ whole (pos (length rs))

pub record FitsPresent (v : Value) : Type 0 where
  pub numerator : nat_abs v.num ≤ 16777216000000
  pub positive : 1 ≤ v.den
  pub denominator : v.den ≤ 256
  pub coprime : gcd (nat_abs v.num) v.den ≡ 1

pub data Fits : Value → Type 0 where
  fits-absent : Fits absent
  fits-present : {v : Value} → FitsPresent v → Fits v

abbrev pub ValuesFit : Type 0
ValuesFit =
    (l : Lengths) (d : List ℤ) (qs : List ℕ) → Accepted l d qs → T (not (too_large d (question_of qs)))
    → (n k : ℕ) (b : Binding) → Evaluated d (question_of qs) n k b
    → All (λ r. All Fits r) (set_of n d (question_of qs) k b)
