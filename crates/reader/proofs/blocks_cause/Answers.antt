use native.Mathlib.Omega.{arith}
use mathlib.Core.Path.{◌∙◌, ap}
use Rattle.reader.specs.Walk.{blocks_cause}
use Rattle.reader.proofs.BlockLoops.{walked-begin, walked_more, walked_end}
use Rattle.reader.proofs.blocks_cause.Goals as goal

pub loop-j-init : goal.loop-j-init
loop-j-init c = walked-begin c.args.words.now c.args.s.now
    c.args.q c.twice_of-twice.result c.args.n

pub returns : goal.returns
returns c = walked_end c.args.words.now
    c.args.s.now c.args.q
    c.twice_of-twice.result c.args.n c.loop-j.j
    c.loop-j.least c.loop-j-test.false c.loop-j.invariant
    ∙ ap (λ two. blocks_cause c.args.words.now
    c.args.s.now c.args.q two
    c.args.n 0 11) c.twice_of-twice.ensures

pub loop-j-preserved : goal.loop-j-preserved
loop-j-preserved c =
    let a = c.args in
    let l = c.loop-j in
    walked_more a.words.now a.s.now a.q c.twice_of-twice.result a.n l.j l.least _ c.loop-j-test.true (grind arith) l.invariant
