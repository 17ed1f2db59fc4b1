use Rattle.std.proofs.Common.{◌<◌, ap, ◌∙◌, length, take, arith}
use Rattle.std.proofs.Math.ListN.{set}
use Rattle.buffers.proofs.Filling.{filled_more}
use Rattle.buffers.proofs.fill_front.Goals as goal

pub loop-x-preserved : goal.loop-x-preserved
loop-x-preserved g c =
    let i = c.loop-x.x-index in let v = c.args.value in
    let h : i < length (take c.args.n c.args.out.now) = omega arith in
    ap (λ l. set l i v) c.loop-x.invariant ∙ filled_more v i (take c.args.n c.args.out.now) h
