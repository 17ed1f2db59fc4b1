-- The words for the figures are too few, or the engine answers.
use native.Mathlib.Omega.{arith}
use Rattle.capi.proofs.CallLaws.{called-short, called}
use Rattle.capi.proofs.abe_run.Goals as goal

pub returns-then-figures-lt4 : goal.returns-then-figures-lt4
returns-then-figures-lt4 c =
    let a = c.args in let r = called-short a.words.now a.question.now a.plan.now a.budget a.res.now a.sets.now
    a.files.now a.indexes.now a.figures.now (omega (arith, c.if-figures-lt4.true)) in record { number = r.0; figures = r.1.0; res = r.1.1.0; sets = r.1.1.1.0; files = r.1.1.1.1.0; indexes = r.1.1.1.1.1 }

pub returns : goal.returns
returns c =
    let a = c.args in
    let u = c.run-a.ensures in let r = called a.words.now a.question.now a.plan.now a.budget a.res.now a.sets.now a.files.now
    a.indexes.now a.figures.now (omega (arith, c.if-figures-lt4.false)) c.run-a.result _ _ _ _ _
    u.answer c.put_figures.ensures u.res u.sets u.files u.indexes in record { number = r.0; figures = r.1.0; res = r.1.1.0; sets = r.1.1.1.0; files = r.1.1.1.1.0; indexes = r.1.1.1.1.1 }
