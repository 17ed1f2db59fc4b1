-- A block below the count and below five is the one kept at its number; past these there is none. That five are kept
-- is in what is known of the parameter: its array has five elements.
-- Assumes nothing.
use Rattle.std.proofs.Common.{rules}
use Rattle.scope.proofs.BlockLaws.{block-found, block-missing}
use Rattle.scope.proofs.block_of.Goals as goal

-- the block is kept
pub returns-then-k-q : goal.returns-then-k-q
returns-then-k-q c =
    let q = c.args.q in
    let n = c.args.block in
    let k = c.from-k in
    λ bs. block-found bs q k.result n (search rules) k.ensures _ c.if-k-q.true

-- there is none
pub returns : goal.returns
returns c =
    let q = c.args.q in
    let n = c.args.block in
    let k = c.from-k in
    let absent = c.absent_block in
    λ bs. block-missing bs q k.result n (search rules) k.ensures absent.result absent.ensures
    c.if-k-q.false
