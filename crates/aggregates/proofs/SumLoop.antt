-- The loop that sums a column: the sum so far and that of the values left give the sum of all. Assumes nothing.
use Prim.Native.Nat.{ℕ, suc, ◌+◌, ◌*◌, ◌-◌, ◌^◌, ◌<◌, ◌≤◌}
use native.Mathlib.Omega.{arith}
use native.Mathlib.Nat.{sub-zero}
use mathlib.Core.Path.{◌≡◌, refl, sym, ◌∙◌, ap, ap₂, subst}
use mathlib.Core.Bool.{Bool, true, false, cond}
use mathlib.Core.List.{List, [], ◌∷◌, map}
use lib.Dec.{T}
use lib.IntN.{ℤ, pos, nat_abs, ◌+ℤ◌, +ℤ_idl, +ℤ_idr, +ℤ_assoc}
use mir.Syntax.{w64}
use mir.Val.{SFits, to_z, of_z}
use lib.ListN.{length}
use Rattle.model.specs.Aggregate.{present_of, total}
use Rattle.model.specs.Lists.{all, filter}
use Rattle.model.specs.Value as model
use Rattle.model.proofs.AggregateEquations.{present_of-kept, present_of-passed}
use Rattle.value.specs.declared.Value.{Value}
use Rattle.value.specs.Exact.{exact, inside_of}
use Rattle.value.proofs.Laws.{inside_is, inside-absent}
use Rattle.value.proofs.Ints.{abs-add, sfits_abs, read_back}
use Rattle.aggregates.specs.declared.Sum.{Sum}
use Rattle.aggregates.specs.Columns.{column_in}
use Rattle.aggregates.specs.Folds.{plus_of, total_of}
use Rattle.words.specs.Words.{room_of, value_at, read_at}
use Rattle.aggregates.proofs.ColumnLaws.{so, column-step, column-none, column_read}
use Rattle.std.specs.Prelude.{Option, None, Some}

-- ---- a sum and one value more
module _ (t : Sum) (v : Value) where
  pub plus-value : (plus_of t v).value ≡ t.value +ℤ v.num
  unfolding plus_of
  plus-value = refl

  pub plus-present : (plus_of t v).present ≤ t.present + 1
  unfolding plus_of
  plus-present = go (model.present (exact v))
    where
      go : (b : Bool) → t.present + cond b 1 0 ≤ t.present + 1
      go true = omega arith
      go false = omega arith

-- ---- the sum
unfoldable pub plus_all : Sum → List model.Value → Sum
plus_all t xs = record { value = t.value +ℤ total xs; present = t.present + length xs }

unfoldable pub total_with : Sum → List Value → Option Sum
total_with t vs = cond (all inside_of vs) (Some (plus_all t (present_of (map exact vs)))) None

-- one value more: counted, or absent and adding nothing
module _ (t : Sum) (v : Value) (xs : List model.Value) where
  abbrev whole : ℤ → ℕ → Sum
  whole n k = record { value = n; present = k }

  counted : model.present (exact v) ≡ true → plus_all t (exact v ∷ xs) ≡ plus_all (plus_of t v) xs
  unfolding plus_all total plus_of
  counted e =
      ap₂ whole (sym (+ℤ_assoc t.value v.num (total xs)))
      ((let q : t.present + suc (length xs) ≡ t.present + 1 + length xs = omega arith in q)
      ∙ ap (λ (b : Bool). t.present + cond b 1 0 + length xs) (sym e))

  passed : model.present (exact v) ≡ false → v.num ≡ pos 0 → plus_all t xs ≡ plus_all (plus_of t v) xs
  unfolding plus_all plus_of
  passed e z =
      ap₂ whole (ap (λ n. n +ℤ total xs) (sym (ap (λ n. t.value +ℤ n) z ∙ +ℤ_idr t.value)))
      ((let q : t.present + length xs ≡ t.present + 0 + length xs = omega arith in q)
      ∙ ap (λ (b : Bool). t.present + cond b 1 0 + length xs) (sym e))

plus_more : (t : Sum) (v : Value) (xs : List model.Value) → inside_of v ≡ true
    → plus_all t (present_of (exact v ∷ xs)) ≡ plus_all (plus_of t v) (present_of xs)
plus_more t v xs i = go (model.present (exact v)) refl
  where
    go : (b : Bool) → model.present (exact v) ≡ b
        → plus_all t (present_of (exact v ∷ xs)) ≡ plus_all (plus_of t v) (present_of xs)
    go true e = ap (plus_all t) (present_of-kept (exact v) xs e) ∙ counted t v (present_of xs) e
    go false e =
        ap (plus_all t) (present_of-passed (exact v) xs e)
        ∙ passed t v (present_of xs) e (ap (λ (w : Value). w.num) (inside-absent v (so (inside_of v) i) e))

pub total_begin : (vs : List Value) → total_with (record { value = pos 0; present = 0 }) vs ≡ total_of vs
unfolding total_with total_of plus_all
total_begin vs =
    let xs = present_of (map exact vs) in
    ap (λ z. cond (all inside_of vs) (Some z) None)
    (ap₂ (λ v p. record { value = v; present = p }) (+ℤ_idl (total xs))
    (let e : 0 + length xs ≡ length xs = omega arith in e))

pub total_more : (t : Sum) (v : Value) (vs : List Value) → inside_of v ≡ true
    → total_with t (v ∷ vs) ≡ total_with (plus_of t v) vs
unfolding total_with all
total_more t v vs e = rw (e, plus_more t v (map exact vs) e) refl

pub total_stop : (t : Sum) (v : Value) (vs : List Value) → inside_of v ≡ false → total_with t (v ∷ vs) ≡ None
unfolding total_with all
total_stop t v vs e = rw e refl

pub total_end : (t : Sum) → total_with t [] ≡ Some t
unfolding total_with plus_all all total present_of filter
total_end t =
    ap Some (ap₂ (λ v p. record { value = v; present = p }) (+ℤ_idr t.value)
    (let e : t.present + 0 ≡ t.present = omega arith in e))

pub record Summing (n : ℕ) (l : List ℤ) (c count : ℕ) (t : Sum) (j r : ℕ) : Type 0 where
  pub within : r ≤ count
  pub place : j ≡ c + r * n
  pub small : nat_abs t.value ≤ r * 1000000000000000
  pub few : t.present ≤ r
  pub rest : total_with t (column_in n l j (count - r)) ≡ total_of (column_in n l c count)

module _ (n : ℕ) (l : List ℤ) (c count : ℕ) where
  pub summing_begin : Summing n l c count (record { value = pos 0; present = 0 }) c 0
  summing_begin =
      record {
        within = omega arith;
        place = omega arith;
        small = omega arith;
        few = omega arith;
        rest =
            ap (λ k. total_with (record { value = pos 0; present = 0 }) (column_in n l c k)) (sub-zero count)
            ∙ total_begin (column_in n l c count);
      }

  module _ (t : Sum) (j r : ℕ) (h : Summing n l c count t j r) where
    module _ (lt : r < count) (column : c < n) (fits : count * n ≤ room_of (length l)) (v : Value) (is : v ≡ read_at l j)
      where
        e : v ≡ value_at l j
        e = column_read l n count c r j lt column fits h.place v is

        summed : total_with t (v ∷ column_in n l (j + n) (count - (r + 1))) ≡ total_of (column_in n l c count)
        summed =
            ap (λ x. total_with t (x ∷ column_in n l (j + n) (count - (r + 1)))) e
            ∙ sym (ap (total_with t) (column-step n l j count r lt)) ∙ h.rest

        pub summing_more : inside_of v ≡ true → (s : Sum) → s ≡ plus_of t v → Summing n l c count s (j + n) (r + 1)
        summing_more i s q = record {
          within = omega arith;
          place = omega (arith, h.place);
          small =
              subst (λ z. nat_abs z.value ≤ (r + 1) * 1000000000000000) (sym q)
              (rw (plus-value t v)
              (omega (arith, abs-add t.value v.num, h.small, (inside_is v (so (inside_of v) i)).num)));
          few = subst (λ z. z.present ≤ r + 1) (sym q) (omega (arith, plus-present t v, h.few));
          rest =
              ap (λ z. total_with z (column_in n l (j + n) (count - (r + 1)))) q
              ∙ sym (total_more t v (column_in n l (j + n) (count - (r + 1))) i) ∙ summed;
        }

        pub summing_stop : inside_of v ≡ false → None ≡ total_of (column_in n l c count)
        summing_stop i = sym (total_stop t v (column_in n l (j + n) (count - (r + 1))) i) ∙ summed

    pub summing_end : count ≤ r → Some t ≡ total_of (column_in n l c count)
    summing_end le = sym (ap (total_with t) (column-none n l j count r le) ∙ total_end t) ∙ h.rest

-- ---- one sum of two words
module _ (t : ℤ) (v : Value) (small : nat_abs t ≤ 256000000000000000) (i : T (inside_of v)) where
  operands : to_z w64 (of_z w64 t) +ℤ to_z w64 (of_z w64 v.num) ≡ t +ℤ v.num
  operands =
      ap₂ ◌+ℤ◌ (read_back t (omega arith)) (read_back v.num (omega (arith, (inside_is v i).num)))

  sum-small : nat_abs (t +ℤ v.num) < 2 ^ 63
  sum-small = omega (arith, abs-add t v.num, (inside_is v i).num)

  pub plus_fits : SFits w64 (to_z w64 (of_z w64 t) +ℤ to_z w64 (of_z w64 v.num))
  plus_fits = rw operands (sfits_abs (t +ℤ v.num) sum-small)

  pub plus_is : to_z w64 (of_z w64 (to_z w64 (of_z w64 t) +ℤ to_z w64 (of_z w64 v.num))) ≡ t +ℤ v.num
  plus_is = rw operands (read_back (t +ℤ v.num) sum-small)
