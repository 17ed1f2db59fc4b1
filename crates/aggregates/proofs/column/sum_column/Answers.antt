-- A value more is summed.
use mathlib.Core.Path.{sym, ◌∙◌}
use Rattle.aggregates.proofs.SumLoop.{summing_more}
use Rattle.aggregates.proofs.column.sum_column.Goals as goal

pub loop-r-preserved : goal.loop-r-preserved
loop-r-preserved c =
    let p = c.requires in
    summing_more _ _ _ _ _ _ _ c.loop-r.invariant c.loop-r-test.true p.2 p.3 c.read-v.result c.read-v.ensures
    (sym c.inside.ensures ∙ c.if-not-inside.false) _ c.plus-t.ensures
