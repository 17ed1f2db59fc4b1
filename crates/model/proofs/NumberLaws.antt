-- The paper's number of a refusal is not 0.
use Rattle.std.proofs.Common.{ℕ, ◌≡◌, ◌<◌, arith}
use Rattle.model.specs.Numbers.{number_of}
use Rattle.model.specs.declared.Refusal.{Refusal}
use Rattle.model.specs.declared.Refusal.TheVariants.{WorkShort, ResultShort, Layout, Value, Records, Limits, Absent, Variable, Ratio, Constant, Plan}

pub numbered : (r : Refusal) → 0 < number_of r
numbered WorkShort = omega arith
numbered ResultShort = omega arith
numbered Layout = omega arith
numbered Value = omega arith
numbered Records = omega arith
numbered Limits = omega arith
numbered Absent = omega arith
numbered Variable = omega arith
numbered Ratio = omega arith
numbered Constant = omega arith
numbered Plan = omega arith
