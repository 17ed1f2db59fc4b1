-- The paper's number and figures for each way in which a run ends (01, "Causes of refusal": the column "Returned").
--   figures_of o        zeros under 1 to 11; the budget as trials under 12, trials in full under 13, rows and columns
--                      zero
use Rattle.model.specs.declared.Answer.{Answer}
use Rattle.model.specs.declared.Outcome.{Outcome}
use Rattle.model.specs.declared.Outcome.TheVariants.{Given, Refused, OverBudget, TooLarge}

abbrev pub figures_of : Outcome → Answer
figures_of (Given rows columns trials) = record { number = 0; rows = rows; columns = columns; trials = trials }
figures_of (Refused number) = record { number = number; rows = 0; columns = 0; trials = 0 }
figures_of (OverBudget budget) = record { number = 12; rows = 0; columns = 0; trials = budget }
figures_of (TooLarge trials) = record { number = 13; rows = 0; columns = 0; trials = trials }
