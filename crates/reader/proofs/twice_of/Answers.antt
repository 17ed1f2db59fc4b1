use Rattle.reader.proofs.MaskLoops.{seen_none, seen_more, seen_all, own_is}
use Rattle.syntax.specs.Described.{blocks_in}
use Rattle.reader.proofs.twice_of.Goals as goal

pub loop-k-init : goal.loop-k-init
loop-k-init c = seen_none (blocks_in c.args.s.now c.args.q) c.args.n

pub loop-k-preserved : goal.loop-k-preserved
loop-k-preserved c = seen_more (blocks_in c.args.s.now
    c.args.q) c.args.n
    c.loop-k.k c.loop-k.seen
    c.loop-k.twice c.own-own.result c.loop-k-test.true
    (own_is c.args.s.now c.block_of.result _ c.own-own.result
    (c.block_of.ensures c.args.s.now) c.own-own.ensures)
    c.loop-k.invariant

pub returns : goal.returns
returns c = seen_all (blocks_in c.args.s.now c.args.q)
    c.args.n c.loop-k.k c.loop-k.seen c.loop-k.twice
    c.loop-k-test.false c.loop-k.invariant
