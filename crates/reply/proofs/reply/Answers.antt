-- Bytes that are no job are bad.
use Rattle.std.proofs.Common.{◌∙◌, ap, sym, take, min, length}
use Rattle.model.specs.Lists.{overwrite}
use Rattle.reply.proofs.ReplyLaws.{reply_bad}
use Rattle.reply.proofs.reply.Goals as goal

pub returns-in-None : goal.returns-in-None
returns-in-None c =
    let a = c.args in
    let same = sym (reply_bad a.budget a.bytes.now (sym c.parts_of.ensures ∙ c.in-None.is)) in
    record {
      bytes = c.print_bad.ensures.bytes ∙ ap (λ t. overwrite (take (length a.out.now) t) a.out.now) same;
      count = c.print_bad.ensures.count ∙ ap (λ t. min (length t) (length a.out.now)) same;
    }
