-- `order_inside` meets its contract: both present, or one absent. Assumes nothing.
use mathlib.Core.Bool.{◌&&◌}
use mathlib.Core.Path.{sym, ap, ap₂, ◌∙◌}
use Rattle.chart.proofs.Orders.{int_cmp-is}
use Rattle.chart.specs.Chart.{ordering_of}
use Rattle.value.proofs.Laws.{num-small, den-small, crossed, denominators}
use Rattle.value.proofs.order_inside.Goals as goal

pub cross-requires : goal.cross-requires
cross-requires c =
    let a = c.args in
    let p = c.requires in record { n_bound = (num-small a.x a.y p.0 p.1, den-small a.x a.y p.0 p.1); m_bound = (num-small a.y a.x p.1 p.0, den-small a.y a.x p.1 p.0) }

pub returns-then-present : goal.returns-then-present
returns-then-present c =
    let a = c.args in
    let p = c.requires in
    let both = sym (ap₂ ◌&&◌ c.present.ensures c.present-2.ensures) in
    c.cross.ensures ∙ ap ordering_of (crossed a.x a.y p.0 p.1 (both ∙ c.if-present.true))

pub returns : goal.returns
returns c =
    let a = c.args in
    let p = c.requires in
    let both = sym (ap₂ ◌&&◌ c.present.ensures c.present-2.ensures) in
    c.cmp.ensures ∙ int_cmp-is _ _ ∙ ap ordering_of (denominators a.x a.y p.0 p.1 (both ∙ c.if-present.false))
