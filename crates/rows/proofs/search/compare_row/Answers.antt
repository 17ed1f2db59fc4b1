-- A column that is not equal tells the order.
use mathlib.Core.Path.{sym, ap₂, ◌∙◌}
use Rattle.value.specs.Exact.{order_of}
use Rattle.rows.proofs.CompareLoop.{alike_stop}
use Rattle.rows.proofs.search.compare_row.Goals as goal

pub returns-then-ne : goal.returns-then-ne
returns-then-ne c =
    let e = c.order-o.ensures ∙ ap₂ order_of c.get.ensures c.get-in-loop-c.ensures in
    alike_stop _ _ _ _ _ c.loop-c.invariant c.loop-c-test.true _ e (sym c.ne.ensures ∙ c.if-ne.true)
