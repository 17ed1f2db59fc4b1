-- `filing::walk::ask_block` meets its contract: conditions first, then the output list.
use Rattle.filing.proofs.Walks.{block_is}
use Rattle.filing.proofs.walk.ask_block.Goals as goal

pub returns : goal.returns
returns c =
    let given = c.args in
    let conditions = c.ask_conditions-y in
    let outputs = c.ask_elements in
    block_is given.s.now given.b given.a conditions.result outputs.result conditions.ensures
    outputs.ensures
