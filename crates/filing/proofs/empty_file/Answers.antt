-- `filing::empty_file` meets its contract: too few words, and the groups zeroed.
use native.Mathlib.Omega.{arith}
use mathlib.Core.Path.{sym}
use Rattle.filing.proofs.Cases.{emptied_short, empty_done}
use Rattle.filing.proofs.empty_file.Goals as goal

pub returns-then-files-at : goal.returns-then-files-at
returns-then-files-at c =
    let given = c.args in
    sym (emptied_short given.block given.groups given.files.now
    (omega (arith, c.regions_before-at.ensures.0, c.min-n.ensures, c.if-files-at.true)))

pub returns : goal.returns
returns c =
    let given = c.args in
    empty_done given.block given.groups c.regions_before-at.result _ given.files.now
    c.zero.new.words c.regions_before-at.ensures.0 (omega (arith, c.min-n.ensures))
    (omega (arith, c.if-files-at.false)) c.zero.ensures.words_after
