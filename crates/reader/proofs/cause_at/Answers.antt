use Rattle.reader.proofs.BlockLoops.{cause_joined}
use Rattle.reader.proofs.cause_at.Goals as goal

pub returns : goal.returns
returns c =
    let a = c.args in
    let all = cause_joined a.words.now a.s.now a.q a.twice a.j in
    let place = c.place_cause.ensures a.s.now in
    cc (c.min.ensures, c.block_cause.ensures, c.kept-b.ensures, c.context_of-x.ensures, c.from.ensures, place, all)
