use native.Mathlib.Omega.{arith}
use mathlib.Core.Path.{refl}
use Rattle.reader.proofs.ReadLaws.{count_small, number-least, number-6, number-5}
use Rattle.reader.proofs.judge.Goals as goal

pub returns-then-not-formed : goal.returns-then-not-formed
returns-then-not-formed c = number-5 c.args.words.now c.args.s.now c.args.formed c.requires.1 c.if-not-formed.true

pub returns-then-not-within : goal.returns-then-not-within
returns-then-not-within c =
    let a = c.args in
    number-6 a.words.now a.s.now a.q a.formed c.within.result c.requires.0 c.requires.1 c.if-not-formed.false
    c.within.ensures c.if-not-within.true

pub overflow_cast-n : goal.overflow_cast-n
overflow_cast-n c =
    let a = c.args in
    let few = count_small a.words.now a.s.now a.q c.within.result c.requires.0 c.within.ensures c.if-not-within.false in
    record { fits = omega arith }

pub returns : goal.returns
returns c =
    let a = c.args in
    number-least a.words.now a.s.now a.q a.formed c.within.result _ c.blocks_cause.result _ c.requires.0 c.requires.1
    c.if-not-formed.false c.within.ensures c.if-not-within.false refl c.blocks_cause.ensures c.refused_by.ensures
