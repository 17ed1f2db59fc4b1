-- Plain values and rows: their order by their numerators, and the loop that compares a row's plain columns. Assumes
-- nothing.
use Prim.Native.Nat.{ℕ, ◌+◌, ◌<◌, ◌≤◌}
use native.Mathlib.Omega.{arith}
use mathlib.Core.Bool.{Bool, true, false}
use mathlib.Core.List.{List}
use mathlib.Core.Path.{◌≡◌, refl, sym, ◌∙◌, ap₂, subst}
use borrow.Author.Tests.{ltb-true, ltb-false}
use lib.Dec.{ltb}
use lib.IntN.{ℤ, pos, nat_abs}
use Rattle.std.specs.Prelude.{Option, None, Some, IfSome}
use Rattle.std.specs.Ordering.{int_cmp}
use Rattle.std.specs.declared.cmp.Ordering.{Ordering}
use Rattle.std.specs.declared.cmp.Ordering.TheVariants.{Equal}
use Rattle.std.proofs.lemmas.Cmp.{int_cmp_total, tied_itself}
use Rattle.model.specs.Value.{whole}
use Rattle.value.specs.declared.Value.{Value}
use Rattle.value.specs.Exact.{in_words, order_of}
use Rattle.value.proofs.Laws.{wholes_some}
use Rattle.rows.specs.Insertion.{compare_from}
use Rattle.words.specs.Words.{value_at}
use Rattle.rows.specs.Plain.{Plain, PlainTo}
use Rattle.rows.proofs.CompareLoop.{Alike, is_not_equal, alike_stop}

-- ---- the order of plain values
as_whole : (v : Value) → Plain v → in_words (whole v.num) ≡ v
as_whole v p = λ j. record { num = v.num; den = sym p.whole j }

pub plain_order : (x y : Value) {o : Ordering} → Plain x → Plain y → o ≡ int_cmp x.num y.num → order_of x y ≡ Some o
plain_order x y p q e =
    sym (wholes_some x.num y.num e p.small q.small ∙ ap₂ order_of (as_whole x p) (as_whole y q))

-- a plain value equals another of denominator 1 and the same numerator, which so is plain too
pub plain_equal : (x y : Value) → Plain x → y.den ≡ pos 1 → x.num ≡ y.num → order_of x y ≡ Some Equal
plain_equal x y p d e =
    plain_order x y p (record { whole = d; small = subst (λ z. nat_abs z ≤ 1000000000000000) e p.small })
    (sym equal)
  where
    equal : int_cmp x.num y.num ≡ Equal
    equal = rw e (tied_itself int_cmp_total y.num)

-- ---- the plain columns before the first that is not
pub plain_none : (x : List ℤ) → PlainTo 0 x
plain_none x i h = absurd (omega arith)

pub plain_more : (c : ℕ) (x : List ℤ) → PlainTo c x → Plain (value_at x c) → PlainTo (c + 1) x
plain_more c x p q i h = go (ltb i c) refl
  where
    go : (t : Bool) → ltb i c ≡ t → Plain (value_at x i)
    go true e = p i (ltb-true i c e)
    go false e = let z : c ≡ i = omega (arith, ltb-false i c e) in subst (λ k. Plain (value_at x k)) z q

-- ---- the loop over the plain columns: where one is not equal, its order is that of the rows
pub plain_stop : (n : ℕ) (x l : List ℤ) (at c : ℕ) → Alike n x l at c → c < n → (o : Option Ordering)
    → IfSome o (λ p. order_of (value_at x c) (value_at l (at + c)) ≡ Some p) → is_not_equal o ≡ true
    → IfSome o (λ p. compare_from n x 0 l at ≡ Some p)
plain_stop n x l at c h lt None d t = d
plain_stop n x l at c h lt (Some p) d t = sym (alike_stop n x l at c h lt (Some p) (sym d) t)
