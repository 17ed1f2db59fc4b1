-- A plain column that is not equal tells the order where it tells any.
use native.Mathlib.Omega.{arith}
use mathlib.Core.Path.{◌≡◌, sym, ap₂, ◌∙◌, subst}
use Rattle.std.specs.Prelude.{Some, IfSome}
use Rattle.value.specs.Exact.{order_of}
use Rattle.rows.proofs.PlainLaws.{plain_stop}
use Rattle.rows.proofs.plain.compare.Goals as goal

pub returns-then-ne : goal.returns-then-ne
returns-then-ne c =
    let d = subst (λ p. IfSome c.order-o.result (λ o. p ≡ Some o))
    (ap₂ order_of c.get.ensures c.get-in-loop-c.ensures) c.order-o.ensures in
    plain_stop _ _ _ _ _ c.loop-c.invariant (omega arith) c.order-o.result d (sym c.ne.ensures ∙ c.if-ne.true)
