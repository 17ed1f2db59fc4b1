-- What the relation rows, the conditions and the output list hold as kind 3 is what the block refers to.
-- Assumes nothing.
use Rattle.scope.proofs.HeldLaws.{used_is}
use Rattle.scope.proofs.used.Goals as goal

pub returns : goal.returns
returns c =
    let a = c.args in
    let rows = c.held_in_rows-rows in
    let conditions = c.held_in_conditions-conditions in
    let outputs = c.held_in_elements-outputs in
    used_is a.s.now a.b rows.result conditions.result outputs.result rows.ensures
    conditions.ensures outputs.ensures
