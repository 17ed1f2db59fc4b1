-- The rest moved one by one, and the fours before. Assumes nothing.
use native.Mathlib.Omega.{arith}
use mathlib.Core.Path.{ap, ◌∙◌}
use Rattle.words.specs.Words.{words_of, shifted}
use Rattle.words.proofs.ShiftLoop.{moved_end, shifted_join}
use Rattle.words.proofs.moves.shift.Goals as goal

pub returns : goal.returns
returns c =
    let a = c.args in
    let f = c.fours-j in
    let l = c.loop-j in
    moved_end f.new.words (words_of a.p) (words_of f.result) (words_of a.m)
    (omega (arith, f.auto.words, f.ensures.1)) l.words (words_of l.j) l.invariant (omega arith)
    ∙ ap (λ s. shifted (words_of a.p) (words_of f.result) (words_of a.m) s) f.ensures.2
    ∙ shifted_join a.words.now (words_of a.p) (words_of f.result) (words_of a.e) (words_of a.m)
    (omega arith) (omega (arith, f.ensures.0)) (omega (arith, f.ensures.1))
