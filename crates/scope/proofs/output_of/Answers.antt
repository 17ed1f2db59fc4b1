-- An output column of the block that starts in the bytes is the item at its place; any other is the item past the end,
-- which is empty.
-- Assumes nothing.
use Rattle.scope.proofs.BlockLaws.{output-found, output-missing}
use Rattle.scope.proofs.output_of.Goals as goal

-- the column is there
pub returns-then-c-b : goal.returns-then-c-b
returns-then-c-b c =
    let a = c.args in
    let b = c.block_of-b in
    let k = c.from-c in
    let s = a.s.now in
    output-found s _ b.result (b.ensures s) k.result a.column k.ensures c.item_at.result
    c.if-c-b.true c.item_at.ensures

-- it is not
pub returns : goal.returns
returns c =
    let a = c.args in
    let b = c.block_of-b in
    let k = c.from-c in
    let s = a.s.now in
    output-missing s _ b.result (b.ensures s) k.result a.column k.ensures c.item_at-2.result
    c.if-c-b.false c.item_at-2.ensures
