use Rattle.std.proofs.Common.{rules}
use Prim.Native.Nat.{◌+◌}
use native.Mathlib.Omega.{arith}
use mathlib.Core.Path.{sym, ap, ◌∙◌}
use Rattle.filing.specs.Asks.{no_asked, ask_all}
use Rattle.filing.proofs.Walks.{others_from, blocks_start, blocks-turn, blocks-done}
use Rattle.filing.proofs.asks_of.Goals as goal

pub loop-k-init : goal.loop-k-init
loop-k-init c =
    let given = c.args in
    ap (λ y. ask_all y (others_from given.s.now given.q 0)) c.no_asked-y.ensures
    ∙ ap (ask_all no_asked) (blocks_start given.s.now given.q)

pub loop-k-preserved : goal.loop-k-preserved
loop-k-preserved c =
    let given = c.args in
    ap (λ y. ask_all y (others_from given.s.now given.q (c.loop-k.k + 1))) c.ask_block-y.ensures
    ∙ sym (blocks-turn given.s.now given.q c.loop-k.y c.loop-k.k (omega arith))
    ∙ c.loop-k.invariant

pub returns : goal.returns
returns c =
    let given = c.args in
    sym (blocks-done given.s.now given.q c.loop-k.y c.loop-k.k (search rules) (omega arith))
    ∙ c.loop-k.invariant
