-- `cross` meets its contract: both products fit, and the library compares them. Assumes nothing.
use mathlib.Core.Path.{ap₂, ◌∙◌}
use Rattle.std.specs.Ordering.{int_cmp}
use Rattle.chart.proofs.Orders.{int_cmp-is}
use Rattle.value.proofs.Laws.{product_is}
use Rattle.value.proofs.cross.Goals as goal

pub returns : goal.returns
returns c =
    let s = c.args in
    let left = product_is s.n s.e c.requires.n_bound.0 c.requires.n_bound.1 in
    let right = product_is s.m s.d c.requires.m_bound.0 c.requires.m_bound.1 in
    c.cmp.ensures ∙ ap₂ int_cmp left right ∙ int_cmp-is _ _
