use mathlib.Core.Bool.{cond}
use mathlib.Core.Path.{sym, ap}
use borrow.Author.Tests.{eq-eqb, ne_eqb}
use Rattle.reader.proofs.MaskLoops.{place-root, place-child, parent_is}
use Rattle.syntax.specs.Described.{blocks_in}
use Rattle.reader.proofs.place_cause.Goals as goal

-- block 0
pub returns-then-b : goal.returns-then-b
returns-then-b c =
    let b = c.block_of-b in
    λ bs. place-root (blocks_in bs c.args.q) b.result.parent _ c.args.j c.if-j-eq0.true
    (parent_is bs b.result _ (b.ensures bs)) (sym (ap (λ t. cond t 11 7) (eq-eqb _ 255 c.if-b.true)))

pub returns-else-b : goal.returns-else-b
returns-else-b c =
    let b = c.block_of-b in
    λ bs. place-root (blocks_in bs c.args.q) b.result.parent _ c.args.j c.if-j-eq0.true
    (parent_is bs b.result _ (b.ensures bs)) (sym (ap (λ t. cond t 11 7) (ne_eqb _ 255 c.if-b.false)))

-- another
pub returns-then-b-j : goal.returns-then-b-j
returns-then-b-j c =
    let b = c.block_of-b in
    λ bs. place-child (blocks_in bs c.args.q) b.result.parent c.level.result _ c.args.j c.if-j-eq0.false
    (parent_is bs b.result _ (b.ensures bs)) (c.level.ensures bs) (sym (ap (λ t. cond t 11 7) c.if-b-j.true))

pub returns-else-b-j : goal.returns-else-b-j
returns-else-b-j c =
    let b = c.block_of-b in
    λ bs. place-child (blocks_in bs c.args.q) b.result.parent c.level.result _ c.args.j c.if-j-eq0.false
    (parent_is bs b.result _ (b.ensures bs)) (c.level.ensures bs) (sym (ap (λ t. cond t 11 7) c.if-b-j.false))
