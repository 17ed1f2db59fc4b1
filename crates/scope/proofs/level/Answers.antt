use Prim.Native.Nat.{◌-◌, ◌+◌}
use native.Mathlib.Omega.{arith}
use mathlib.Core.Logic.{inl, inr}
use mathlib.Core.Path.{◌≡◌, refl}
use Rattle.scope.proofs.BlockLaws.{level-turn, level-stop}
use Rattle.scope.proofs.level.Goals as goal

-- none is counted
pub loop-n-init : goal.loop-n-init
loop-n-init c = λ bs. refl

-- block 0 is reached
pub returns-then-at-eq0 : goal.returns-then-at-eq0
returns-then-at-eq0 c =
    let l = c.loop-n in
    λ bs. level-stop bs c.args.q l.n l.at _ (6 - l.n) (inr (omega arith)) (l.invariant bs)

-- one step up
pub loop-n-preserved : goal.loop-n-preserved
loop-n-preserved c =
    let l = c.loop-n in
    let left : 6 - (l.n + 1) ≡ 6 - l.n - 1 = omega arith in
    λ bs. rw left
    (level-turn bs c.args.q l.n l.at _ (6 - l.n) c.block_of-at.result (omega arith) (omega arith)
    (c.block_of-at.ensures bs) (l.invariant bs))

-- five steps are taken
pub returns : goal.returns
returns c =
    let l = c.loop-n in
    let six : l.n ≡ 6 = omega arith in
    λ bs. level-stop bs c.args.q 6 l.at _ (6 - 6) (inl refl) (rw six at (l.invariant bs))
