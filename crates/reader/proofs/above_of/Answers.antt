use Prim.Native.Nat.{◌-◌, ◌+◌}
use native.Mathlib.Omega.{arith}
use mathlib.Core.Path.{◌≡◌, subst, sym}
use Rattle.reader.specs.Causes.{ancestor}
use Rattle.model.specs.Question.{block_at}
use Rattle.reader.proofs.MaskLoops.{Climbing, climbing-begin, climbing-more, climbing-end, own_is, parent_is}
use Rattle.scope.specs.Masks.{mask_of}
use Rattle.syntax.specs.Described.{blocks_in}
use Rattle.reader.proofs.above_of.Goals as goal

pub loop-step-init : goal.loop-step-init
loop-step-init c =
    let a = c.args in
    let q = blocks_in a.s.now a.q in
    let b = c.block_of-b in
    subst (λ p. Climbing q (mask_of (ancestor 5 q (block_at q a.j).parent)) 6 p 0)
    (sym (parent_is a.s.now b.result _ (b.ensures a.s.now))) (climbing-begin q (block_at q a.j).parent)

pub loop-step-preserved : goal.loop-step-preserved
loop-step-preserved c =
    let s = c.args.s.now in
    let l = c.loop-step in
    let b = c.block_of-a in
    let left : 6 - (l._step + 1) ≡ 6 - l._step - 1 = omega arith in
    rw left
    (climbing-more (blocks_in s c.args.q) _ (6 - l._step) l.up l.mask c.own-mask.result b.result.parent (omega arith)
    (own_is s b.result _ c.own-mask.result (b.ensures s) c.own-mask.ensures) (parent_is s b.result _ (b.ensures s))
    l.invariant)

pub returns : goal.returns
returns c =
    let l = c.loop-step in
    climbing-end (blocks_in c.args.s.now c.args.q) _ (6 - l._step) l.up l.mask (omega arith) l.invariant
