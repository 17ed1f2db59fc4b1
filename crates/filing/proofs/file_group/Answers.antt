-- `filing::file_group` meets its contract: a group past 255, and one that is filled.
use native.Mathlib.Omega.{arith}
use mathlib.Core.Path.{sym}
use Rattle.filing.proofs.Cases.{group-past, group-put}
use Rattle.filing.proofs.file_group.Goals as goal

pub returns-then-group-ge256 : goal.returns-then-group-ge256
returns-then-group-ge256 c =
    let given = c.args in
    sym (group-past given.a.now given.block given.group given.columns given.count given.sets.now
    given.files.now (omega arith))

pub returns : goal.returns
returns c =
    let given = c.args in
    group-put given.a.now given.block given.group given.columns given.count given.sets.now
    given.files.now c.file_slots.new.files c.write.new.words c.mark_place.result (omega arith)
    c.file_slots.ensures c.mark_place.ensures c.write.ensures.words_after
