-- The theorems of specs/AbsentValues (No. 3), each of the name of its statement.
use Prim.Native.Nat.{ℕ, zero, suc, ◌<◌}
use native.Mathlib.Omega.{arith}
use mathlib.Core.Bool.{Bool, true, false, ◌&&◌}
use mathlib.Core.List.{List, [], ◌∷◌}
use mathlib.Core.Path.{◌≡◌, refl, sym, ◌∙◌, ap}
use lib.Dec.{ltb→lt, ltb}
use lib.ListN.{length}
use Rattle.model.specs.AbsentValues.{EmptySetAbsent, AbsentMeetsNothing, AbsentsEqual, AbsentFirst, told_in}
use Rattle.model.specs.AbsentValues.{AggregatePassesOver, AverageByRemaining, CountPassesNone, ValuesFit}
use Rattle.model.specs.Aggregate.{column_at, column_of, present_of, total, sum_of, min_of, max_of, ave_of, aggregate_of}
use Rattle.model.specs.Lists.{filter}
use Rattle.model.specs.RowSet.{Row, lexicographic}
use Rattle.model.specs.Value.{Value, present, ratio, order, meets}
use Rattle.model.proofs.AggregateEquations.{present_of-nil, present_of-kept, present_of-passed}
use Rattle.model.proofs.EvaluatedSizes.{evaluated-fits}
use Rattle.model.proofs.Lists.{map-length}
use Rattle.model.proofs.RefusalLaws.{accepted-passes}
use Rattle.model.proofs.ValueLaws.{absent_before}

pub empty-set-absent : EmptySetAbsent
unfolding aggregate_of present_of filter sum_of min_of max_of ave_of total
empty-set-absent c = (refl, refl, refl, refl, refl)

pub absent-meets_nothing : AbsentMeetsNothing
unfolding meets present
absent-meets_nothing o x = (refl, and-false (ltb 0 x.den))
  where
    and-false : (t : Bool) → t && false ≡ false
    and-false true = refl
    and-false false = refl

pub absents_equal : AbsentsEqual
unfolding lexicographic order
absents_equal r r' = refl

pub absent-first : AbsentFirst
unfolding present
absent-first x t = absent_before x (ltb→lt 0 x.den t)

-- the column of the rows that have a value there is the column's values that are present
told-column : (c : ℕ) (rs : List Row) → column_of c (told_in c rs) ≡ present_of (column_of c rs)
unfolding told_in filter
told-column c [] = sym present_of-nil
told-column c (r ∷ rs) = go (told-column c rs) (present (column_at c r)) refl
  where
    go : column_of c (told_in c rs) ≡ present_of (column_of c rs) → (t : Bool) → present (column_at c r) ≡ t
        → column_of c (told_in c (r ∷ rs)) ≡ present_of (column_of c (r ∷ rs))
    go h true e =
        rw (e, filter) (ap (λ l. column_at c r ∷ l) h ∙ sym (present_of-kept (column_at c r) (column_of c rs) e))
    go h false e = rw (e, filter) (h ∙ sym (present_of-passed (column_at c r) (column_of c rs) e))

-- of values that are present none is passed over
present_again : (xs : List Value) → present_of (present_of xs) ≡ present_of xs
present_again [] = ap present_of present_of-nil
present_again (x ∷ xs) = go (present_again xs) (present x) refl
  where
    go : present_of (present_of xs) ≡ present_of xs → (t : Bool) → present x ≡ t
        → present_of (present_of (x ∷ xs)) ≡ present_of (x ∷ xs)
    go h true e =
        ap present_of (present_of-kept x xs e) ∙ present_of-kept x (present_of xs) e ∙ ap (λ l. x ∷ l) h
        ∙ sym (present_of-kept x xs e)
    go h false e = ap present_of (present_of-passed x xs e) ∙ h ∙ sym (present_of-passed x xs e)

told_again : (c : ℕ) (rs : List Row) → present_of (column_of c rs) ≡ present_of (column_of c (told_in c rs))
told_again c rs = sym (ap present_of (told-column c rs) ∙ present_again (column_of c rs))

pub aggregate-passes-over : AggregatePassesOver
unfolding aggregate_of
aggregate-passes-over zero c rs = ap sum_of (told_again c rs)
aggregate-passes-over (suc zero) c rs = ap min_of (told_again c rs)
aggregate-passes-over (suc (suc zero)) c rs = ap max_of (told_again c rs)
aggregate-passes-over (suc (suc (suc f))) c rs = ap ave_of (told_again c rs)

pub average_by_remaining : AverageByRemaining
unfolding aggregate_of ave_of
average_by_remaining c rs some =
    ap ave_of (sym (told-column c rs)) ∙ over (column_of c (told_in c rs)) (rw long some)
    ∙ ap (ratio (total (column_of c (told_in c rs)))) long
  where
    long : length (column_of c (told_in c rs)) ≡ length (told_in c rs)
    long = map-length (column_at c) (told_in c rs)

    over : (xs : List Value) → 0 < length xs → ave_of xs ≡ ratio (total xs) (length xs)
    over [] h = absurd (omega arith)
    over (x ∷ xs) h = refl

pub count-passes-none : CountPassesNone
unfolding aggregate_of
count-passes-none c rs = refl

pub values_fit : ValuesFit
values_fit l d qs ok small n k b e =
    let p = accepted-passes l d qs ok in evaluated-fits d qs p.tables p.question small n k b e
