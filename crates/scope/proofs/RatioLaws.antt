-- Whether an output column is a ratio, by the item that stands there.
use Prim.Native.Nat.{ℕ, zero, suc, ◌-◌, ◌≤◌, ◌<◌}
use native.Mathlib.Omega.{arith}
use mathlib.Core.Bool.{Bool, true, false, ◌&&◌, ◌||◌}
use mathlib.Core.List.{List}
use mathlib.Core.Path.{◌≡◌, refl, sym, ap, ◌∙◌, subst}
use lib.Dec.{T, eqb, ltb}
use lib.ListN.{get_or}
use borrow.Author.Tests.{ltb-true, ltb-false, lt-ltb, ne_eqb}
use Rattle.model.specs.Checks.{ratio_by, ratio_element, ratio_at}
use Rattle.model.specs.Question.{Block, empty, aggregate, block_at}
use Rattle.model.proofs.CheckEquations.{ratio_at-spent, ratio_at_level}
use Rattle.syntax.specs.Described.{decode}
use Rattle.syntax.specs.declared.Item.{Item}
use Rattle.syntax.proofs.Laws.{both, on}
use Rattle.scope.specs.Columns.{element_of, passes_on, is_average}

no : {P : Type 0} → false ≡ true → P
no e = absurd (subst T (sym e) tt)

-- ---- by the function: min and max pass the column's on, an average is a ratio, and no other
by_passes : (f : ℕ) (r : Bool) → eqb f 2 || eqb f 3 ≡ true → ratio_by f r ≡ r
by_passes zero r e = no e
by_passes (suc zero) r e = no e
by_passes (suc (suc zero)) r e = refl
by_passes (suc (suc (suc zero))) r e = refl
by_passes (suc (suc (suc (suc f)))) r e =
    let k = suc (suc (suc (suc f))) in no (rw (ne_eqb k 2 (λ g. omega arith), ne_eqb k 3 (λ g. omega arith)) at e)

by_plain : (f : ℕ) (r : Bool) → eqb f 2 || eqb f 3 ≡ false → ratio_by f r ≡ ltb 3 f
by_plain zero r e = refl
by_plain (suc zero) r e = refl
by_plain (suc (suc zero)) r e = no (sym e)
by_plain (suc (suc (suc zero))) r e = no (sym e)
by_plain (suc (suc (suc (suc f)))) r e = sym (lt-ltb 3 (suc (suc (suc (suc f)))) (omega arith))

-- ---- by the kind: 4 and more decode to an aggregate
decode-aggregate : (k a f b c : ℕ) → 3 < k → decode k a f b c ≡ aggregate f b c
decode-aggregate zero a f b c h = absurd (omega arith)
decode-aggregate (suc zero) a f b c h = absurd (omega arith)
decode-aggregate (suc (suc zero)) a f b c h = absurd (omega arith)
decode-aggregate (suc (suc (suc zero))) a f b c h = absurd (omega arith)
decode-aggregate (suc (suc (suc (suc k)))) a f b c h = refl

decode-other : (g : ℕ → ℕ → Bool) (k a f b c : ℕ) → k ≤ 3 → ratio_element g (decode k a f b c) ≡ false
decode-other g zero a f b c h = refl
decode-other g (suc zero) a f b c h = refl
decode-other g (suc (suc zero)) a f b c h = refl
decode-other g (suc (suc (suc zero))) a f b c h = refl
decode-other g (suc (suc (suc (suc k)))) a f b c h = absurd (omega arith)

module _ (g : ℕ → ℕ → Bool) (e : Item) where
  aggregate-is : 3 < e.kind → ratio_element g (element_of e) ≡ ratio_by e.function (g e.block e.column)
  aggregate-is h =
      ap (ratio_element g) (decode-aggregate e.kind e.argument e.function e.block e.column h)

  pub element-passes : passes_on e ≡ true → ratio_element g (element_of e) ≡ g e.block e.column
  element-passes t =
      let p = both (ltb 3 e.kind) _ t in
      aggregate-is (ltb-true 3 e.kind p.0) ∙ by_passes e.function (g e.block e.column) p.1

  pub element-plain : passes_on e ≡ false → ratio_element g (element_of e) ≡ is_average e
  element-plain t =
      on (ltb 3 e.kind)
      (λ k.
      aggregate-is (ltb-true 3 e.kind k)
      ∙ by_plain e.function (g e.block e.column)
      (sym (ap (λ b. b && (eqb e.function 2 || eqb e.function 3)) k) ∙ t)
      ∙ sym (ap (λ b. b && ltb 3 e.function) k))
      (λ k.
      decode-other g e.kind e.argument e.function e.block e.column (ltb-false 3 e.kind k)
      ∙ sym (ap (λ b. b && ltb 3 e.function) k))

-- ---- a level
module _ (q : List Block) (block column : ℕ) where
  pub ratio-spent : (n : ℕ) → n ≡ 0 → false ≡ ratio_at n q block column
  ratio-spent n h = rw h (sym (ratio_at-spent q block column))

  pub ratio-level : (n : ℕ) → (n ≡ 0 → ⊥)
      → ratio_at n q block column
      ≡ ratio_element (λ k x. ratio_at (n - 1) q k x) (get_or (block_at q block).outputs column empty)
  ratio-level zero h = absurd (h refl)
  ratio-level (suc n) h = let d : suc n - 1 ≡ n = omega arith in rw d (ratio_at_level n q block column)

  module _ (n : ℕ) (h : n ≡ 0 → ⊥) (e : Item) (e-is : element_of e ≡ get_or (block_at q block).outputs column empty) where
    pub ratio-passes : passes_on e ≡ true → ratio_at (n - 1) q e.block e.column ≡ ratio_at n q block column
    ratio-passes t =
        sym
        (ratio-level n h
        ∙ ap (ratio_element (λ k x. ratio_at (n - 1) q k x)) (sym e-is)
        ∙ element-passes (λ k x. ratio_at (n - 1) q k x) e t)

    pub ratio-plain : passes_on e ≡ false → is_average e ≡ ratio_at n q block column
    ratio-plain t =
        sym
        (ratio-level n h
        ∙ ap (ratio_element (λ k x. ratio_at (n - 1) q k x)) (sym e-is)
        ∙ element-plain (λ k x. ratio_at (n - 1) q k x) e t)
