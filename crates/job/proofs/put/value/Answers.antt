-- The value's two words, as they are read.
use Rattle.std.proofs.Common.{◌+◌, ◌*◌, get_or, pos, FitsSigned, w64, rules, ap₂}
use mir.Facts.{to_z-of_z}
use Rattle.job.specs.Texts.{ratio_text}
use Rattle.job.proofs.WroteLaws.{wrote_as}
use Rattle.job.proofs.RowLaws.{field_is}
use Rattle.job.proofs.put.value.Goals as goal

pub returns : goal.returns
returns c =
    let a = c.args in let ws = a.words.now in
    let num : FitsSigned w64 (get_or ws (2 * a.p) (pos 0)) = search rules in
    let den : FitsSigned w64 (get_or ws (2 * a.p + 1) (pos 0)) = search rules in
    field_is ws a.p (wrote_as c.ratio.ensures _ (ap₂ ratio_text (to_z-of_z num) (to_z-of_z den)))
