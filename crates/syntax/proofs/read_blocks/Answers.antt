use native.Mathlib.Omega.{arith}
use mathlib.Core.Path.{ap}
use Rattle.syntax.specs.declared.Question.{Question}
use Rattle.syntax.proofs.Laws.{default_is, walked-in, walked-turn, walked_start, walked_done, put_end}
use Rattle.syntax.proofs.read_blocks.Goals as goal

pub loop-b-init : goal.loop-b-init
loop-b-init c = rw (default_is c.default.result c.default.ensures) (walked_start c.args.s.now)

pub put_block-q-requires : goal.put_block-q-requires
put_block-q-requires c =
    let l = c.loop-b in
    let h = walked-in c.args.s.now l.q c.in-Some.b l.invariant c.in-Some.ensures.0 c.in-Some.ensures.1 in omega arith

pub loop-b-smaller : goal.loop-b-smaller
loop-b-smaller c =
    let l = c.loop-b in
    let h = walked-in c.args.s.now l.q c.in-Some.b l.invariant c.in-Some.ensures.0 c.in-Some.ensures.1 in
    omega (arith, ap (λ (q : Question). q.end) c.put_block-q.ensures, put_end l.q c.in-Some.b)

pub loop-b-preserved : goal.loop-b-preserved
loop-b-preserved c =
    let l = c.loop-b in
    rw c.put_block-q.ensures
    (walked-turn c.args.s.now l.q c.in-Some.b l.invariant c.in-Some.ensures.0 c.in-Some.ensures.1)

pub returns : goal.returns
returns c = walked_done c.args.s.now c.loop-b.q c.loop-b.invariant c.in_default.ensures
