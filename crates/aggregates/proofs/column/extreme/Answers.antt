-- A value more is compared with the best so far, which is absent at first.
use mathlib.Core.Path.{sym, ◌∙◌}
use Rattle.aggregates.proofs.ExtremeLoop.{choosing_begin, choosing_more}
use Rattle.aggregates.proofs.column.extreme.Goals as goal

pub loop-r-init : goal.loop-r-init
loop-r-init c = choosing_begin _ _ _ _ _ _ c.absent-best.ensures

pub loop-r-preserved : goal.loop-r-preserved
loop-r-preserved c =
    let p = c.requires in
    choosing_more _ _ _ _ _ _ _ _ c.loop-r.invariant c.loop-r-test.true p.2 p.3 c.read-v.result c.read-v.ensures
    (sym c.inside.ensures ∙ c.if-not-inside.false) _ c.better-best.ensures
