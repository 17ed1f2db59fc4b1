-- Values in words: what the bounds give, order and operators by their cases. Assumes nothing.
use Prim.Native.Nat.{ℕ, zero, suc, ◌^◌, ◌<◌, ◌≤◌, zero-le, compare, Ordering}
use Prim.Native.Nat.compare
use native.Mathlib.Nat.{lt_of_le_of_lt}
use native.Mathlib.Omega.{arith}
use mathlib.Core.Bool.{Bool, true, false, ◌&&◌, cond}
use mathlib.Core.Path.{◌≡◌, refl, sym, ◌∙◌, ap, ap₂, subst}
use mir.Syntax.{w64}
use mir.Val.{to_z, of_z}
use borrow.Author.Tests.{ltb-true, ltb-false, lt-ltb, le-leb}
use lib.Dec.{T, eqb, ltb, leb, eqb→eq, ltb→lt, leb→le, lit<}
use lib.IntN.{ℤ, pos, nat_abs, ◌*ℤ◌, negsuc}
use lib.Signed.{le_z}
use Rattle.std.specs.Prelude.{Option, None, Some}
use Rattle.std.specs.Ordering.{int_cmp}
use Rattle.std.specs.declared.cmp.Ordering as cmp
use Rattle.std.proofs.lemmas.Option.{none-some, same_Some}
use Rattle.model.specs.Value as model
use Rattle.model.specs.Value.{compare_z, order}
use Rattle.model.proofs.ValueLaws.{compare_self, scale_z, both_present}
use Rattle.chart.specs.Chart.{ordering_of, relation_of, relation_by, relation_between, case_of, chart_of}
use Rattle.chart.specs.declared.Relation.TheVariants as chart
use Rattle.chart.proofs.ChartAnswers.{chart_meets}
use Rattle.chart.proofs.Orders.{int_cmp-is, relation_by-of}
use Rattle.value.specs.declared.Value.{Value}
use Rattle.value.specs.Exact.{exact, in_words, inside_of, Fair, tell, order_of, holds_of}
use Rattle.value.proofs.Ints.{abs-zero, abs-mul-le, read_back}

-- a value that is present has a denominator, an absent one none
pub present-some : (v : Value) → model.present (exact v) ≡ true → 0 < nat_abs v.den
unfolding model.present
present-some v e = ltb-true 0 (nat_abs v.den) e

pub present-none : (v : Value) → model.present (exact v) ≡ false → v.den ≡ pos 0
unfolding model.present
present-none v e = abs-zero v.den (omega (arith, ltb-false 0 (nat_abs v.den) e))

-- what the bounds give
pub record Inside (v : Value) : Type 0 where
  pub num : nat_abs v.num ≤ 1000000000000000
  pub den : nat_abs v.den ≤ 256
  pub sign : pos (nat_abs v.den) ≡ v.den

pub both : (a b : Bool) → T (a && b) → T a × T b
both true true t = (tt, tt)
both false b t = elim t [ ]
both true false t = elim t [ ]

fair : (d : ℤ) → T (le_z (pos 1) d) → T (le_z d (pos 256)) → (nat_abs d ≤ 256) × (pos (nat_abs d) ≡ d)
fair (pos n) l u = (leb→le n 256 u, refl)
fair (negsuc _) l u = elim l [ ]

-- absent, or a numerator and a denominator that are small
pub inside-absent : (v : Value) → T (inside_of v) → model.present (exact v) ≡ false → v ≡ in_words model.absent
unfolding inside_of
inside-absent v t e =
    let n = abs-zero v.num (eqb→eq (nat_abs v.num) 0 (rw e at t)) in
    let d = present-none v e in
    λ j. record { num = n j; den = d j }

pub inside_is : (v : Value) → T (inside_of v) → Inside v
unfolding inside_of
inside_is v t = go (model.present (exact v)) refl
  where
    some : T (leb (nat_abs v.num) 1000000000000000 && (le_z (pos 1) v.den && le_z v.den (pos 256))) → Inside v
    some t =
        let p = both (leb (nat_abs v.num) 1000000000000000) (le_z (pos 1) v.den && le_z v.den (pos 256)) t in
        let q = both (le_z (pos 1) v.den) (le_z v.den (pos 256)) p.1 in
        let f = fair v.den q.0 q.1 in
        record { num = leb→le (nat_abs v.num) 1000000000000000 p.0; den = f.0; sign = f.1 }

    go : (b : Bool) → model.present (exact v) ≡ b → Inside v
    go true e = some (rw e at t)
    go false e = rw (inside-absent v t e) (record { num = zero-le; den = zero-le; sign = refl })

-- a product of a numerator and a denominator
module _ (n d : ℤ) (p : nat_abs n ≤ 1000000000000000) (q : nat_abs d ≤ 256) where
  operands : to_z w64 (of_z w64 n) *ℤ to_z w64 (of_z w64 d) ≡ n *ℤ d
  operands = ap₂ ◌*ℤ◌ (read_back n (lt_of_le_of_lt p (lit< tt))) (read_back d (lt_of_le_of_lt q (lit< tt)))

  product_small : nat_abs (n *ℤ d) < 2 ^ 63
  product_small = lt_of_le_of_lt (abs-mul-le n d p q) (lit< tt)

  pub product_is : to_z w64 (of_z w64 (to_z w64 (of_z w64 n) *ℤ to_z w64 (of_z w64 d))) ≡ n *ℤ d
  product_is = rw operands (read_back (n *ℤ d) product_small)

-- two values inside the bounds, their parts passed on
module _ (x y : Value) (p : T (inside_of x)) (q : T (inside_of y)) where
  abbrev passed : ℤ → ℤ
  passed z = to_z w64 (of_z w64 z)

  num-passed : (v : Value) → T (inside_of v) → passed v.num ≡ v.num
  num-passed v t = read_back v.num (lt_of_le_of_lt (inside_is v t).num (lit< tt))

  den-passed : (v : Value) → T (inside_of v) → passed v.den ≡ v.den
  den-passed v t = read_back v.den (lt_of_le_of_lt (inside_is v t).den (lit< tt))

  pub num-small : nat_abs (passed x.num) ≤ 1000000000000000
  num-small = rw (num-passed x p) (inside_is x p).num

  pub den-small : nat_abs (passed y.den) ≤ 256
  den-small = rw (den-passed y q) (inside_is y q).den

  pub crossed : model.present (exact x) && model.present (exact y) ≡ true
      → compare_z (passed x.num *ℤ passed y.den) (passed y.num *ℤ passed x.den) ≡ order (exact x) (exact y)
  unfolding model.order_present model.present
  crossed e =
      let t = both (model.present (exact x)) (model.present (exact y)) (subst T (sym e) tt) in
      ap₂ compare_z (ap₂ ◌*ℤ◌ (num-passed x p) (den-passed y q)) (ap₂ ◌*ℤ◌ (num-passed y q) (den-passed x p))
      ∙ sym (ap₂ (λ d e. compare_z (x.num *ℤ d) (y.num *ℤ e)) (inside_is y q).sign (inside_is x p).sign)
      ∙ sym (both_present (exact x) (exact y) (some x t.0) (some y t.1))
    where
      some : (v : Value) → T (model.present (exact v)) → 0 < nat_abs v.den
      some v t = ltb→lt 0 (nat_abs v.den) t

  -- where one is absent, the denominators tell
  pub denominators : model.present (exact x) && model.present (exact y) ≡ false
      → compare_z x.den y.den ≡ order (exact x) (exact y)
  unfolding order compare_z model.present
  denominators e =
      ap₂ compare_z (sym (inside_is x p).sign) (sym (inside_is y q).sign)
      ∙ go (nat_abs x.den) (nat_abs y.den) e
    where
      go : (d e : ℕ) → ltb 0 d && ltb 0 e ≡ false
          → compare d e ≡ model.absent_first d e (model.order_present (exact x) (exact y))
      go zero zero h = compare_self 0
      go zero (suc e) h = compare.zero-suc e
      go (suc d) zero h = compare.suc-zero d
      go (suc d) (suc e) h =
          absurd (subst T (sym (ap₂ ◌&&◌ (lt-ltb 0 (suc d) (omega arith)) (lt-ltb 0 (suc e) (omega arith))) ∙ h) tt)

pub order-inside : (x y : Value) → inside_of x ≡ true → inside_of y ≡ true
    → order_of x y ≡ tell (order (exact x) (exact y))
unfolding order_of
order-inside x y e f = simp (e, f)

-- an operator of two values, by their order and the chart
module _ (op : ℕ) (x y : Value) where
  pub holds_none : order_of x y ≡ None → holds_of op x y ≡ None
  unfolding holds_of order_of
  holds_none e = go (inside_of x && inside_of y) e
    where
      go : (t : Bool) → cond t (tell (order (exact x) (exact y))) None ≡ None
          → cond t (Some (model.meets op (exact x) (exact y))) None ≡ None
      go true e = absurd (none-some _ (sym e))
      go false e = refl

  pub holds_some : {o : cmp.Ordering} → order_of x y ≡ Some o
      → holds_of op x y
      ≡ Some (chart_of (case_of op (cond (model.present (exact x) && model.present (exact y)) (relation_by o) chart.Absent)))
  unfolding holds_of order_of
  holds_some {o} e = go (inside_of x && inside_of y) e
    where
      there : Bool
      there = model.present (exact x) && model.present (exact y)

      met : (c : Ordering) → relation_between (exact x) (exact y) ≡ cond there (relation_of c) chart.Absent
          → model.meets op (exact x) (exact y)
          ≡ chart_of (case_of op (cond there (relation_by (ordering_of c)) chart.Absent))
      met c e =
          sym (chart_meets op (relation_between (exact x) (exact y)) (exact x) (exact y) refl)
          ∙ ap (λ r. chart_of (case_of op r)) (e ∙ ap (λ r. cond there r chart.Absent) (sym (relation_by-of c)))

      go : (t : Bool) → cond t (tell (order (exact x) (exact y))) None ≡ Some o
          → cond t (Some (model.meets op (exact x) (exact y))) None
          ≡ Some (chart_of (case_of op (cond there (relation_by o) chart.Absent)))
      go true e =
          ap Some (met (order (exact x) (exact y)) refl)
          ∙ ap (λ p. Some (chart_of (case_of op (cond there (relation_by p) chart.Absent)))) (same_Some _ _ e)
      go false e = absurd (none-some _ e)

-- what the chart tells of two values by their order, where there is one; `there` where both are present
abbrev pub judge : ℕ → Bool → Option cmp.Ordering → Option Bool
judge op there None = None
judge op there (Some o) = Some (chart_of (case_of op (cond there (relation_by o) chart.Absent)))

pub holds_by : (op : ℕ) (x y : Value) (o : Option cmp.Ordering) → order_of x y ≡ o
    → holds_of op x y ≡ judge op (model.present (exact x) && model.present (exact y)) o
holds_by op x y None e = holds_none op x y e
holds_by op x y (Some o) e = holds_some op x y e

-- ---- whole values: the numerators tell
inside-whole : (n : ℤ) → inside_of (in_words (model.whole n)) ≡ leb (nat_abs n) 1000000000000000
unfolding inside_of model.present
inside-whole n = go (leb (nat_abs n) 1000000000000000)
  where
    go : (t : Bool) → t && true ≡ t
    go true = refl
    go false = refl

pub wholes_some : (n m : ℤ) {o : cmp.Ordering} → o ≡ int_cmp n m → nat_abs n ≤ 1000000000000000
    → nat_abs m ≤ 1000000000000000 → Some o ≡ order_of (in_words (model.whole n)) (in_words (model.whole m))
unfolding order_of order model.order_present
wholes_some n m e h k =
    rw (ap₂ ◌&&◌ (small n h) (small m k))
    (ap Some (e ∙ int_cmp-is n m) ∙ ap tell (sym (scale_z n m 1 (omega arith))))
  where
    small : (z : ℤ) → nat_abs z ≤ 1000000000000000 → inside_of (in_words (model.whole z)) ≡ true
    small z h = inside-whole z ∙ le-leb (nat_abs z) 1000000000000000 h

-- ---- values of the model within the bounds
pub fair_inside : (v : model.Value) → Fair v → inside_of (in_words v) ≡ true
unfolding inside_of
fair_inside v f = go (model.present (exact (in_words v))) refl
  where
    go : (b : Bool) → model.present (exact (in_words v)) ≡ b → inside_of (in_words v) ≡ true
    go true e =
        simp (
          e,
          le-leb (nat_abs v.num) 1000000000000000 f.num,
          le-leb 1 v.den (present-some (in_words v) e),
          le-leb v.den 256 f.den,
        )
    go false e = simp e (ap (λ z. eqb (nat_abs z) 0) (f.none (ap nat_abs (present-none (in_words v) e))))

pub fair_order : (v w : model.Value) → Fair v → Fair w → order_of (in_words v) (in_words w) ≡ tell (order v w)
fair_order v w f g = order-inside (in_words v) (in_words w) (fair_inside v f) (fair_inside w g)

pub fair_holds : (op : ℕ) (v w : model.Value) → Fair v → Fair w
    → holds_of op (in_words v) (in_words w) ≡ Some (model.meets op v w)
unfolding holds_of
fair_holds op v w f g = simp (fair_inside v f, fair_inside w g)
