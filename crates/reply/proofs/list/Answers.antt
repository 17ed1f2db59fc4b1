-- The reply under the listing's budget. Assumes nothing.
use Prim.Native.Nat.{min}
use mathlib.Core.Path.{◌∙◌, ap}
use lib.ListN.{length, take}
use Rattle.model.specs.Lists.{overwrite}
use Rattle.reply.proofs.ReplyLaws.{reply_listing}
use Rattle.reply.proofs.list.Goals as goal

pub returns : goal.returns
returns c =
    let a = c.args in
    let said = c.reply in
    let same = reply_listing a.bytes.now in record { bytes = said.ensures.bytes ∙ ap (λ t. overwrite (take (length a.out.now) t) a.out.now) same; count = said.ensures.count ∙ ap (λ t. min (length t) (length a.out.now)) same }
