-- The paper's numbers of the causes of refusal (01, "Causes of refusal").
--   number_of r        1 to 11
--   number_in t        that of what a check tells, 0 where it refuses nothing
use Rattle.std.specs.Prelude.{ℕ, Result, Ok, Err}
use Rattle.model.specs.declared.Refusal.{Refusal}
use Rattle.model.specs.declared.Refusal.TheVariants.{WorkShort, ResultShort, Layout, Value, Records, Limits, Absent, Variable, Ratio, Constant, Plan}

abbrev pub number_of : Refusal → ℕ
number_of WorkShort = 1
number_of ResultShort = 2
number_of Layout = 3
number_of Value = 4
number_of Records = 5
number_of Limits = 6
number_of Absent = 7
number_of Variable = 8
number_of Ratio = 9
number_of Constant = 10
number_of Plan = 11

abbrev pub number_in : {A : Type 0} → Result A Refusal → ℕ
number_in (Ok _) = 0
number_in (Err r) = number_of r
