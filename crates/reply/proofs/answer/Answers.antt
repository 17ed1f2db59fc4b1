-- The run in buffers of the named lengths, and its answer in text. Assumes nothing.
use Prim.Native.Nat.{min}
use mathlib.Core.Path.{◌∙◌, ap}
use lib.IntN.{pos}
use lib.ListN.{length, take}
use Rattle.model.specs.Lists.{overwrite}
use Rattle.reply.proofs.ReplyLaws.{lengths_are, answer_run}
use Rattle.reply.proofs.answer.Goals as goal

pub returns : goal.returns
returns c =
    let a = c.args in
    let run = c.run-a in
    let said = c.print_answer in
    let told = answer_run _ (lengths_are (pos 0)) a.words.now a.question.now a.plan.now a.budget _ run.result _
    run.ensures.answer run.ensures.res in record { bytes = said.ensures.bytes ∙ ap (λ t. overwrite (take (length a.out.now) t) a.out.now) told; count = said.ensures.count ∙ ap (λ t. min (length t) (length a.out.now)) told }
