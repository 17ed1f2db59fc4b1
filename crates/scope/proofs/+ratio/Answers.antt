-- `ratio` goes down a level at each min and max, so the levels left fall. Assumes nothing.
use native.Mathlib.Nat.{pos_of_ne-zero}
use native.Mathlib.Omega.{arith}
use mathlib.Core.Path.{sym, ◌∙◌}
use Rattle.syntax.specs.Described.{blocks_in}
use Rattle.scope.proofs.RatioLaws.{ratio-spent, ratio-passes, ratio-plain}
use Rattle.scope.proofs.+ratio.Goals as goal

-- no level is left
pub returns-then-levels-eq0 : goal.returns-then-levels-eq0
returns-then-levels-eq0 t c =
    let a = c.args in
    ratio-spent (blocks_in a.s.now a.q) a.block a.column a.levels c.if-levels-eq0.true

pub output_of-e-requires : goal.output_of-e-requires
output_of-e-requires t c = tt

pub passes_on-requires : goal.passes_on-requires
passes_on-requires t c = tt

pub overflow_sub-levels : goal.overflow_sub-levels
overflow_sub-levels t c = omega (arith, pos_of_ne-zero c.if-levels-eq0.false)

-- the levels left fall
pub ratio-requires : goal.ratio-requires
ratio-requires t c =
    let some = pos_of_ne-zero c.if-levels-eq0.false in
    (omega arith, tt)

-- a min or a max
pub returns-then-passes_on : goal.returns-then-passes_on
returns-then-passes_on t c =
    let a = c.args in
    let e = c.output_of-e in
    let q = blocks_in a.s.now a.q in
    let some = c.if-levels-eq0.false in
    let test = sym c.passes_on.ensures ∙ c.if-passes_on.true in
    c.ratio.ensures ∙ ratio-passes q a.block a.column a.levels some e.result e.ensures test

pub is_average-requires : goal.is_average-requires
is_average-requires t c = tt

-- any other element
pub returns : goal.returns
returns t c =
    let a = c.args in
    let e = c.output_of-e in
    let q = blocks_in a.s.now a.q in
    let some = c.if-levels-eq0.false in
    let test = sym c.passes_on.ensures ∙ c.if-passes_on.false in
    c.is_average.ensures ∙ ratio-plain q a.block a.column a.levels some e.result e.ensures test
