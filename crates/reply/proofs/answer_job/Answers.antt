-- The data in words, all of them; the question and the plan as they are cut out.
use Rattle.std.proofs.Common.{◌∙◌, ap, ap₂, sym, drop, take, min, length, pos, replicate}
use Rattle.std.proofs.Math.ListN.{length-replicate}
use Rattle.job.proofs.PlaceLaws.{data_short}
use Rattle.model.specs.Lists.{overwrite}
use Rattle.reply.specs.Reply.{answered_under}
use Rattle.reply.proofs.ReplyLaws.{words-told, reply_job}
use Rattle.reply.proofs.answer_job.Goals as goal

pub returns : goal.returns
returns c =
    let a = c.args in let words = c.words_of-n in
    let told =
    ap₂ (λ q p. answered_under a.budget (take words.result words.new.out) q p) c.cut-question.ensures c.cut-plan.ensures
    ∙ ap (λ x. answered_under a.budget x (take a.p.question_length (drop a.p.question a.bytes.now))
    (take a.p.plan_length (drop a.p.plan a.bytes.now)))
    (words-told a.p.data_length (drop a.p.«data» a.bytes.now) _ c.cut.ensures (data_short a.bytes.now a.p c.requires)
    (replicate 16384 (pos 0)) (length-replicate 16384 (pos 0)) words.result words.ensures.count _ words.ensures.words)
    ∙ sym (reply_job a.budget a.bytes.now a.p c.requires) in
    record {
      bytes = c.answer.ensures.bytes ∙ ap (λ t. overwrite (take (length a.out.now) t) a.out.now) told;
      count = c.answer.ensures.count ∙ ap (λ t. min (length t) (length a.out.now)) told;
    }
