-- What the conditions and the output list hold as kind 2 is what the block shows.
-- Assumes nothing.
use Rattle.scope.proofs.HeldLaws.{shown_is}
use Rattle.scope.proofs.shown.Goals as goal

pub returns : goal.returns
returns c =
    let a = c.args in
    let conditions = c.held_in_conditions-conditions in
    let outputs = c.held_in_elements-outputs in
    shown_is a.s.now a.b conditions.result outputs.result conditions.ensures outputs.ensures
