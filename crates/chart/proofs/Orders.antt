-- The library's order of integers is the model's. Assumes nothing.
use Prim.Native.Nat.{Ordering}
use mathlib.Core.Bool.{Bool, true, false, cond}
use mathlib.Core.Path.{◌≡◌, refl, sym, ◌∙◌, ap, ap₂}
use lib.IntN.{ℤ}
use lib.Signed.{lt_z}
use Rattle.std.specs.Ordering.{int_cmp}
use Rattle.std.specs.declared.cmp.Ordering as cmp
use Rattle.std.specs.declared.cmp.Ordering.TheVariants.{Less, Equal, Greater}
use Rattle.model.specs.Value.{compare_z}
use Rattle.model.proofs.ValueLaws.{is-less, is_greater, is_equal}
use Rattle.chart.specs.Chart.{ordering_of, relation_of, relation_by}

pub int_cmp-is : (x y : ℤ) → int_cmp x y ≡ ordering_of (compare_z x y)
int_cmp-is x y = go (lt_z x y) (lt_z y x) refl refl
  where
    go : (a b : Bool) → lt_z x y ≡ a → lt_z y x ≡ b
        → cond a Less (cond b Greater Equal) ≡ ordering_of (compare_z x y)
    go true b e f = sym (ap ordering_of (is-less x y e))
    go false true e f = sym (ap ordering_of (is_greater x y f))
    go false false e f = sym (ap ordering_of (is_equal x y e f))

pub relation_by-of : (c : Ordering) → relation_by (ordering_of c) ≡ relation_of c
relation_by-of Ordering.lt = refl
relation_by-of Ordering.eq = refl
relation_by-of Ordering.gt = refl

pub stands : {x y x' y' : ℤ} {o p : cmp.Ordering} → x' ≡ x → y' ≡ y → o ≡ int_cmp x' y' → o ≡ p
    → relation_by p ≡ relation_of (compare_z x y)
stands {x} {y} d e f g =
    ap relation_by (sym g ∙ f ∙ ap₂ int_cmp d e ∙ int_cmp-is x y) ∙ relation_by-of (compare_z x y)
