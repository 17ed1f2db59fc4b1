-- The bit of a variable below 16 is the power of two that its set is; any other has no bit.
-- Assumes nothing.
use Prim.Native.Nat.{◌<◌}
use native.Mathlib.Nat.{mod-eq_of_lt, one-mul}
use native.Mathlib.Omega.{arith}
use mathlib.Core.Path.{◌∙◌}
use lib.Pow.{pow-lt}
use Rattle.scope.proofs.MaskLaws.{mask_power, mask_other}
use Rattle.scope.proofs.bit.Goals as goal

-- the variable is below 16
pub returns-then-v-lt16 : goal.returns-then-v-lt16
returns-then-v-lt16 c =
    let v = c.args.v in
    let h : v < 16 = omega arith in
    rw one-mul (mod-eq_of_lt (pow-lt h) ∙ mask_power v h)

-- it is not
pub returns : goal.returns
returns c = mask_other c.args.v (omega arith)
