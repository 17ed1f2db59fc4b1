-- `filing::walk::ask_at` meets its contract: an element whose kind is past 3 is an aggregate, any other is none.
use native.Mathlib.Omega.{arith}
use mathlib.Core.Path.{◌∙◌}
use Rattle.filing.proofs.Walks.{named, other}
use Rattle.filing.proofs.walk.ask_at.Goals as goal

pub returns-then-byte_at-gt3 : goal.returns-then-byte_at-gt3
returns-then-byte_at-gt3 c =
    let given = c.args in
    c.asked.ensures
    ∙ named given.s.now given.a given.at
    (omega (arith, c.byte_at.ensures, c.if-byte_at-gt3.true))
    c.byte_at-then-byte_at-gt3.ensures c.byte_at-then-byte_at-gt3-2.ensures
    c.byte_at-then-byte_at-gt3-3.ensures

pub returns : goal.returns
returns c =
    let given = c.args in
    other given.s.now given.a given.at (omega (arith, c.byte_at.ensures, c.if-byte_at-gt3.false))
