-- A minus sign before the size of a negative number.
use Rattle.std.proofs.Common.{ap, ◌∙◌, nat_abs}
use mir.Facts.{to_z-of_z}
use Rattle.job.proofs.RowLaws.{integer-negative, integer-plain}
use Rattle.job.proofs.SignLaws.{text-negative, text-plain}
use Rattle.job.proofs.put.integer.Goals as goal

pub returns-then-x-lt0 : goal.returns-then-x-lt0
returns-then-x-lt0 c =
    let x = c.args.x in let f = c.ranges.x in let n = c.unsigned_abs-n in
    integer-negative x n.result (n.ensures.value ∙ ap nat_abs (to_z-of_z f)) (text-negative x f c.if-x-lt0.true)
    c.byte-next.ensures c.number.ensures

pub returns : goal.returns
returns c =
    let x = c.args.x in let f = c.ranges.x in let n = c.unsigned_abs-n in
    integer-plain x n.result (n.ensures.value ∙ ap nat_abs (to_z-of_z f)) (text-plain x f c.if-x-lt0.false)
    c.number-2.ensures
