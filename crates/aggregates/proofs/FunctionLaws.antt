-- Each function of a column is what its loop gives: sum and average from the total, min and max from the best value.
-- Assumes nothing.
use Prim.Native.Nat.{ℕ, zero, suc, ◌*◌, ◌<◌, ◌≤◌}
use native.Mathlib.Omega.{arith}
use mathlib.Core.Bool.{Bool, true, false, cond}
use mathlib.Core.List.{List, [], ◌∷◌, map}
use mathlib.Core.Path.{◌≡◌, refl, sym, ◌∙◌, ap, subst}
use borrow.Author.Tests.{le-leb}
use lib.Dec.{T}
use lib.IntN.{ℤ, pos, nat_abs}
use lib.ListN.{length, length-map}
use Rattle.model.specs.Aggregate.{present_of, total, sum_of, ave_of}
use Rattle.model.specs.Lists.{all}
use Rattle.model.specs.Value as model
use Rattle.model.proofs.AggregateEquations.{present_of-nil, present_of-kept, present_of-passed}
use Rattle.model.proofs.AggregateLaws.{present-few}
use Rattle.value.specs.declared.Value.{Value}
use Rattle.value.specs.Exact.{exact, in_words, inside_of, average_of}
use mir.Syntax.{w64}
use mir.Val.{to_z, of_z}
use Rattle.value.proofs.Ints.{abs-add, read_back}
use Rattle.value.proofs.Averaging.{average_none, average_of_lem}
use Rattle.value.proofs.Laws.{both, inside_is}
use Rattle.std.specs.Option.{ok_or}
use Rattle.std.specs.Prelude.{None, Some, Ok, Err}
use Rattle.std.proofs.lemmas.Option.{none-some, cond_some}
use Rattle.aggregates.specs.declared.Sum.{Sum}
use Rattle.aggregates.specs.declared.Fault.TheVariants.{Outside}
use Rattle.aggregates.specs.Columns.{column_in, aggregate_of_column, over_words}
use Rattle.aggregates.specs.Folds.{total_of, extreme_of}
use Rattle.aggregates.proofs.ColumnLaws.{so, column-length}

pub over_count : (n c count : ℕ) (l : List ℤ)
    → over_words 0 (column_in n l c count) ≡ Ok (in_words (model.whole (pos count)))
unfolding over_words aggregate_of_column
over_count n c count l =
    let vs = column_in n l c count in
    ap (λ m. Ok (in_words (model.whole (pos m)))) (length-map vs exact ∙ column-length n l c count)

-- a value outside the bounds
none_total : (f : ℕ) (vs : List Value) → total_of vs ≡ None → over_words (suc f) vs ≡ Err Outside
unfolding over_words total_of
none_total f vs = go _ _ (all inside_of vs)
  where
    go : (s : Sum) (v : Value) (t : Bool) → cond t (Some s) None ≡ None → cond t (Ok v) (Err Outside) ≡ Err Outside
    go s v true e = absurd (none-some _ (sym e))
    go s v false e = refl

pub over_sum_none : (vs : List Value) → total_of vs ≡ None → over_words 1 vs ≡ Err Outside
over_sum_none vs e = none_total 0 vs e

pub over_sum : (vs : List Value) (s : Sum) → total_of vs ≡ Some s → over_words 1 vs ≡ Ok (in_words (model.whole s.value))
unfolding over_words aggregate_of_column total_of sum_of
over_sum vs s e =
    let p = cond_some (all inside_of vs) _ s e in
    rw p.0 (ap (λ (s : Sum). Ok (in_words (model.whole s.value))) p.1)

pub over_min : (vs : List Value) → over_words 2 vs ≡ ok_or (extreme_of false vs) Outside
unfolding over_words aggregate_of_column extreme_of
over_min vs = go _ (all inside_of vs)
  where
    go : (v : Value) (t : Bool) → cond t (Ok v) (Err Outside) ≡ ok_or (cond t (Some v) None) Outside
    go v true = refl
    go v false = refl

pub over_max : (vs : List Value) → over_words 3 vs ≡ ok_or (extreme_of true vs) Outside
unfolding over_words aggregate_of_column extreme_of
over_max vs = go _ (all inside_of vs)
  where
    go : (v : Value) (t : Bool) → cond t (Ok v) (Err Outside) ≡ ok_or (cond t (Some v) None) Outside
    go v true = refl
    go v false = refl

-- the sum of at most 256 values is small, so the average is given
true_of : (b : Bool) → T b → b ≡ true
true_of true t = refl
true_of false t = elim t [ ]

sum-small : (vs : List Value) → all inside_of vs ≡ true
    → nat_abs (total (present_of (map exact vs))) ≤ length vs * 1000000000000000
unfolding total all
sum-small [] e = rw present_of-nil (omega arith)
sum-small (v ∷ vs) e =
    let p = both (inside_of v) (all inside_of vs) (so _ e) in
    go p.0 (sum-small vs (true_of _ p.1)) (model.present (exact v)) refl
  where
    go : T (inside_of v) → nat_abs (total (present_of (map exact vs))) ≤ length vs * 1000000000000000
        → (b : Bool) → model.present (exact v) ≡ b
        → nat_abs (total (present_of (exact v ∷ map exact vs))) ≤ suc (length vs) * 1000000000000000
    go i h true b =
        rw (present_of-kept (exact v) (map exact vs) b)
        (omega (arith, abs-add v.num (total (present_of (map exact vs))), (inside_is v i).num, h))
    go i h false b = rw (present_of-passed (exact v) (map exact vs) b) (omega (arith, h))

-- the average of some values: of none it is absent
ave_told : (us : List model.Value) → length us ≤ 256 → nat_abs (total us) ≤ 256000000000000000
    → Some (in_words (ave_of us)) ≡ average_of (total us) (length us)
unfolding ave_of
ave_told [] few small = sym (average_none (total []))
ave_told (u ∷ us) few small =
    sym (average_of_lem (total (u ∷ us)) (length (u ∷ us)) (omega arith) few
    (le-leb (nat_abs (total (u ∷ us))) 256000000000000000 small))

pub over_average_none : (f : ℕ) (vs : List Value) → (f ≡ 0 → ⊥) → total_of vs ≡ None → over_words f vs ≡ Err Outside
over_average_none zero vs n e = absurd (n refl)
over_average_none (suc f) vs n e = none_total f vs e

over_average : (f : ℕ) (vs : List Value) (s : Sum) → 3 < f → length vs ≤ 256 → total_of vs ≡ Some s
    → over_words f vs ≡ ok_or (average_of s.value s.present) Outside
unfolding over_words aggregate_of_column total_of
over_average zero vs s h few e = absurd (omega arith)
over_average (suc zero) vs s h few e = absurd (omega arith)
over_average (suc (suc zero)) vs s h few e = absurd (omega arith)
over_average (suc (suc (suc zero))) vs s h few e = absurd (omega arith)
over_average (suc (suc (suc (suc g)))) vs s h few e =
    let p = cond_some (all inside_of vs) _ s e in
    let told = present_of (map exact vs) in
    rw p.0
    (ap (λ o. ok_or o Outside)
    (ave_told told (omega (arith, present-few (map exact vs), length-map vs exact)) (omega (arith, sum-small vs p.0))
    ∙ ap (λ (s : Sum). average_of s.value s.present) p.1))

above-three : (f : ℕ) → (f ≡ 0 → ⊥) → (f ≡ 1 → ⊥) → (f ≡ 2 → ⊥) → (f ≡ 3 → ⊥) → 3 < f
above-three zero a b c d = absurd (a refl)
above-three (suc zero) a b c d = absurd (b refl)
above-three (suc (suc zero)) a b c d = absurd (c refl)
above-three (suc (suc (suc zero))) a b c d = absurd (d refl)
above-three (suc (suc (suc (suc f)))) a b c d = omega arith

total-small : (vs : List Value) (s : Sum) → length vs ≤ 256 → total_of vs ≡ Some s
    → nat_abs s.value ≤ 256000000000000000
unfolding total_of
total-small vs s few e =
    let p = cond_some (all inside_of vs) _ s e in
    subst (λ (s : Sum). nat_abs s.value ≤ 256000000000000000) p.1 (omega (arith, sum-small vs p.0))

-- the average, of the sum as it is passed on
pub average_in : (f n c count : ℕ) (l : List ℤ) (s : Sum) → (f ≡ 0 → ⊥) → (f ≡ 1 → ⊥) → (f ≡ 2 → ⊥) → (f ≡ 3 → ⊥)
    → count ≤ 256 → total_of (column_in n l c count) ≡ Some s
    → over_words f (column_in n l c count) ≡ ok_or (average_of (to_z w64 (of_z w64 s.value)) s.present) Outside
average_in f n c count l s p q r t few e =
    let k : length (column_in n l c count) ≤ 256 = omega (arith, column-length n l c count) in
    let small = total-small (column_in n l c count) s k e in
    over_average f (column_in n l c count) s (above-three f p q r t) k e
    ∙ ap (λ z. ok_or (average_of z s.present) Outside) (sym (read_back s.value (omega (arith, small))))
