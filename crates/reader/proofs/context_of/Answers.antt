use Rattle.reader.proofs.BlockLoops.{context_is}
use Rattle.reader.proofs.context_of.Goals as goal

pub returns : goal.returns
returns c = context_is c.args.s.now
    c.args.q c.args.twice
    c.args.j c.from.result
    c.own-own.result c.above_of-above.result c.kept.result
    c.from.ensures c.kept.ensures c.own-own.ensures
    c.above_of-above.ensures
