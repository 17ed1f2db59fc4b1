use Rattle.outline.specs.Outlines.{Outlined}
use Rattle.outline.proofs.FillLaws.{five_filled}
use Rattle.outline.proofs.outlines_of.Goals as goal

pub returns : goal.returns
returns c =
    let a = c.args in
    five_filled (Outlined a.s.now a.q) _ _ _ _ _ c.outline_of.ensures c.outline_of-2.ensures c.outline_of-3.ensures
    c.outline_of-4.ensures c.outline_of-5.ensures
