-- The text for a job and the budget behind it, from what the calls give.
--   budgeted-taken    where there is one; budgeted-left: where there is none
use Prim.Native.Nat.{ℕ, ◌-◌}
use mathlib.Core.List.{List}
use mathlib.Core.Option.{none, some}
use Rattle.std.specs.Prelude.{Some, None}
use mathlib.Core.Path.{◌≡◌, refl, sym, ◌∙◌, ap}
use lib.ListN.{length, take, drop}
use Rattle.model.specs.Listing.{bad_job}
use Rattle.job.specs.Budgets.{budget_in, budget_at, trials_of}
use Rattle.job.specs.declared.Budget.{Budget}
use Rattle.job.proofs.BudgetLaws.{budget-told, budget-begins}
use Rattle.reply.specs.Reply.{reply_of, budgeted_of}

module _ (bs : List ℕ) where
  abbrev i : ℕ
  i = length bs - 14

  some-budget : (n : ℕ) → budget_in (drop i bs) ≡ some n → budgeted_of bs ≡ reply_of n (take i bs)
  unfolding budgeted_of
  some-budget n e = rw (e, budgeted_of) refl

  no-budget : budget_in (drop i bs) ≡ none → budgeted_of bs ≡ bad_job
  unfolding budgeted_of
  no-budget e = rw (e, budgeted_of) refl

  pub budgeted-taken : (b : Budget) → budget_at bs ≡ Some b → reply_of b.trials (take b.at bs) ≡ budgeted_of bs
  budgeted-taken b e =
      ap (λ n. reply_of b.trials (take n bs)) (budget-begins bs b e)
      ∙ sym (some-budget b.trials (budget-told bs ∙ ap trials_of e))

  pub budgeted-left : budget_at bs ≡ None → bad_job ≡ budgeted_of bs
  budgeted-left e = sym (no-budget (budget-told bs ∙ ap trials_of e))
