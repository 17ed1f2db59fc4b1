use native.Mathlib.Omega.{arith}
use Rattle.syntax.proofs.Laws.{record_in}
use Rattle.syntax.proofs.Record.end_of.Goals as goal

pub overflow_add-result : goal.overflow_add-result
overflow_add-result c = let a = c.args in let h = record_in a.self a.s.now a.at c.requires in omega arith

pub entries_of-requires : goal.entries_of-requires
entries_of-requires c = let a = c.args in let h = record_in a.self a.s.now a.at c.requires in omega arith
