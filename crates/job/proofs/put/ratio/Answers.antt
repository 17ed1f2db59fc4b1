-- A minus sign for absent, the numerator, and where the denominator is not 1 a slash and the denominator.
use Rattle.std.proofs.Common.{ap, ◌∙◌, sym, eq-eqb}
use mir.Facts.{to_z-of_z}
use borrow.Author.Tests.{ne_eqb}
use Rattle.model.specs.Listing.{integer_text}
use Rattle.job.proofs.WroteLaws.{wrote_as}
use Rattle.job.proofs.SignLaws.{zero_is, one-is}
use Rattle.job.proofs.RowLaws.{ratio-absent, ratio-whole, ratio-over}
use Rattle.job.proofs.put.ratio.Goals as goal

pub returns-then-is_absent : goal.returns-then-is_absent
returns-then-is_absent c =
    let a = c.args in
    ratio-absent a.num a.den (sym (zero_is a.den c.ranges.den) ∙ eq-eqb _ 0 c.if-is_absent.true) c.byte.ensures

pub returns-then-den-eq1 : goal.returns-then-den-eq1
returns-then-den-eq1 c =
    let a = c.args in let f = c.ranges in
    ratio-whole a.num a.den (sym (zero_is a.den f.den) ∙ ne_eqb _ 0 c.if-is_absent.false)
    (wrote_as c.integer-next.ensures (integer_text a.num) (ap integer_text (to_z-of_z f.num)))
    (sym (one-is a.den f.den) ∙ eq-eqb _ 1 c.if-den-eq1.true)

pub returns : goal.returns
returns c =
    let a = c.args in let f = c.ranges in
    ratio-over a.num a.den (sym (zero_is a.den f.den) ∙ ne_eqb _ 0 c.if-is_absent.false)
    (wrote_as c.integer-next.ensures (integer_text a.num) (ap integer_text (to_z-of_z f.num)))
    (sym (one-is a.den f.den) ∙ ne_eqb _ 1 c.if-den-eq1.false) c.byte-last.ensures
    (wrote_as c.integer.ensures (integer_text a.den) (ap integer_text (to_z-of_z f.den)))
