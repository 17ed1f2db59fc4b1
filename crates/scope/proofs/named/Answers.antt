-- What the output list and the conditions hold as kind 4 is what the block names.
-- Assumes nothing.
use Rattle.scope.proofs.HeldLaws.{named_is}
use Rattle.scope.proofs.named.Goals as goal

pub returns : goal.returns
returns c =
    let a = c.args in
    let outputs = c.held_in_elements-outputs in
    let conditions = c.held_in_conditions-conditions in
    named_is a.s.now a.b outputs.result conditions.result outputs.ensures conditions.ensures
