-- `filing::recall_mark` meets its contract: the calls give the mark's group and trials, and equal bits are equal values.
use native.Mathlib.Omega.{arith}
use mathlib.Core.Path.{refl, ap, ◌∙◌}
use mir.Facts.{to_z-of_z}
use mir.Syntax.{w64}
use Rattle.filing.specs.Memo.{key_group}
use Rattle.filing.proofs.MarkLaws.{mark_is}
use Rattle.filing.proofs.MemoLaws.{same_bits}
use Rattle.filing.proofs.recall_mark.Goals as goal

pub returns : goal.returns
returns c =
    let a = c.args in
    let met = c.read-met in
    mark_is a.marks.now a.key a.key c.key_group-group.result c.trials_in.result met.result c.marked.result _ refl
    (c.key_group-group.ensures.0 ∙ ap key_group (to_z-of_z {w = w64} {z = a.key} c.ranges.key)) met.ensures c.marked.ensures
    (same_bits met.result.den a.key (omega arith) c.ranges.key.sfits) c.trials_in.ensures
