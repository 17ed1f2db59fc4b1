-- The job before the budget is answered under it; other bytes are bad.
use Rattle.std.proofs.Common.{◌≡◌, ◌∙◌, ap, sym, take, min, length, arith}
use Rattle.std.specs.Prelude.{Some}
use Rattle.std.proofs.Math.Seq.{length-take-le}
use Rattle.model.specs.Lists.{overwrite}
use Rattle.job.specs.Budgets.{budget_at}
use Rattle.job.proofs.BudgetLaws.{budget-begins}
use Rattle.reply.proofs.BudgetLaws.{budgeted-taken, budgeted-left}
use Rattle.reply.proofs.reply_budgeted.Goals as goal

pub slice_bounds-reply-end : goal.slice_bounds-reply-end
slice_bounds-reply-end c =
    let b = c.in-Some.b in
    let is : budget_at c.args.bytes.now ≡ Some b = sym c.budget_of.ensures ∙ c.in-Some.is in
    let begins = budget-begins c.args.bytes.now b is in
    sym (length-take-le b.at c.args.bytes.now (omega arith))

pub returns-in-Some : goal.returns-in-Some
returns-in-Some c =
    let a = c.args in
    let same = budgeted-taken a.bytes.now c.in-Some.b (sym c.budget_of.ensures ∙ c.in-Some.is) in
    record {
      bytes = c.reply.ensures.bytes ∙ ap (λ t. overwrite (take (length a.out.now) t) a.out.now) same;
      count = c.reply.ensures.count ∙ ap (λ t. min (length t) (length a.out.now)) same;
    }

pub returns-in-None : goal.returns-in-None
returns-in-None c =
    let a = c.args in
    let same = budgeted-left a.bytes.now (sym c.budget_of.ensures ∙ c.in-None.is) in
    record {
      bytes = c.print_bad.ensures.bytes ∙ ap (λ t. overwrite (take (length a.out.now) t) a.out.now) same;
      count = c.print_bad.ensures.count ∙ ap (λ t. min (length t) (length a.out.now)) same;
    }
