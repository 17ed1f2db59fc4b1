-- Four words written in turn.
use Rattle.capi.proofs.CallLaws.{four-put}
use Rattle.capi.proofs.put_figures.Goals as goal

pub returns : goal.returns
returns c =
    let a = c.args.a in
    rw c.from.ensures (four-put a.number a.rows a.columns a.trials c.args.figures.now c.requires)
