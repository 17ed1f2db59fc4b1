use Rattle.std.proofs.Common.{rules}
use native.Mathlib.Omega.{arith}
use mathlib.Core.Path.{sym, ap, ◌∙◌}
use Rattle.syntax.specs.declared.Block.{Block}
use Rattle.syntax.specs.declared.Record.TheVariants.{Ol, Bk}
use Rattle.syntax.proofs.Laws.{record_in, block_read, block_bare, with_bare, with_some}
use Rattle.syntax.proofs.block_at.Goals as goal

pub returns-then-not-stands : goal.returns-then-not-stands
returns-then-not-stands c =
    let a = c.args in
    ap (λ (b : Block). b.end) (block_bare a.s.now a.at (grind arith))

pub overflow_add-rw : goal.overflow_add-rw
overflow_add-rw c = let a = c.args in let h = record_in Bk a.s.now a.at (grind arith) in omega arith

pub run-r-requires : goal.run-r-requires
run-r-requires c = let a = c.args in let h = record_in Bk a.s.now a.at (grind arith) in omega arith

pub returns-then-not-stands-2 : goal.returns-then-not-stands-2
returns-then-not-stands-2 c =
    let a = c.args in
    ap (λ (b : Block). b.end)
    (sym (sym (with_bare a.s.now a.at c.run-r.result c.run-c.result (grind arith))
    ∙ block_read a.s.now a.at (grind arith) c.run-r.ensures.0 c.run-c.ensures.0))

pub overflow_add-result : goal.overflow_add-result
overflow_add-result c = let a = c.args in let h = record_in Bk a.s.now a.at (grind arith) in omega arith

pub bounds-s-at : goal.bounds-s-at
bounds-s-at c = let a = c.args in let h = record_in Bk a.s.now a.at (grind arith) in omega arith

pub bounds-s-o : goal.bounds-s-o
bounds-s-o c = let h = record_in Ol c.args.s.now c.run-c.result.at (grind arith) in omega arith

pub returns : goal.returns
returns c =
    let a = c.args in
    let h = record_in Ol a.s.now c.run-c.result.at (grind arith) in (
      with_some a.s.now a.at c.run-r.result c.run-c.result c.from.result c.end_of.result (grind arith)
          (search rules) c.end_of.ensures
          ∙ block_read a.s.now a.at (grind arith) c.run-r.ensures.0 c.run-c.ensures.0,
      omega arith,
    )
