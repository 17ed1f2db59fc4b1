-- A budget behind a job: a fourth part.
--   BU             its mark
--   budget_in bs    the budget that the bytes are: such a part of eight bytes, the lowest first, and nothing behind it
--   eight bs i     the eight bytes from place i on as a number, the lowest first, those past the end 0
--   budget_at bs    by place: the budget that the last fourteen bytes are, and where they begin; else none. That it is the
--                  one of `budget_in` is proved (proofs/BudgetLaws: `budget-told`)
--   trials_of b     its number, if there is one
use Rattle.std.specs.Prelude.{ℕ, ◌+◌, ◌*◌, ◌-◌, ◌&&◌, cond, Option, Some, None, List, eqb, length}
use Rattle.std.specs.Option.{option_and_then}
use Rattle.std.proofs.Math.Option as maybe
use Rattle.std.proofs.Math.Option.{none, some}
use Rattle.model.specs.Format.{number64}
use Rattle.model.specs.Listing.{part_of}
use Rattle.model.specs.Records.{Mark, ends}
use Rattle.job.specs.Places.{four, part_at}
use Rattle.job.specs.declared.Budget.{Budget}

abbrev pub BU : Mark
BU = record { first = 66; second = 85 }

unfoldable pub budget_in : List ℕ → maybe.Option ℕ
budget_in bs = elim (part_of BU bs) [
  | none ↦ none
  | some p ↦ cond (eqb (length p.0) 8 && ends p.1) (some (number64 p.0)) none
]

abbrev pub eight : List ℕ → ℕ → ℕ
eight bs i = 4294967296 * four bs (i + 4) + four bs i

unfoldable pub budget_at : List ℕ → Option Budget
budget_at bs =
    let i = length bs - 14 in
    option_and_then (λ p. cond (eqb p.size 8) (Some (record { at = i; trials = eight bs p.at })) None)
    (part_at bs i 66 85)

abbrev pub trials_of : Option Budget → maybe.Option ℕ
trials_of None = none
trials_of (Some b) = some b.trials
