use Rattle.std.proofs.Common.{rules}
use Prim.Native.Nat.{◌+◌}
use native.Mathlib.Omega.{arith}
use mathlib.Core.Path.{◌≡◌, refl, sym, ap, subst, ◌∙◌}
use lib.ListN.{length, get_or}
use Rattle.outline.proofs.PartLaws.{inside, storing-begin, storing-more, storing-end}
use Rattle.outline.proofs.StoredLaws.{stored_words, stored-enough, stored_short}
use Rattle.outline.specs.Stored.{no_outline, words_of, Narrow}
use Rattle.outline.proofs.store.Goals as goal

pub loop-block-init : goal.loop-block-init
loop-block-init c =
    let a = c.args in
    storing-begin (stored_words a.q.blocks) (λ k. refl) _ 0 a.code.now (omega (arith, c.if-code-ge80.true))

pub loop-block-preserved : goal.loop-block-preserved
loop-block-preserved c =
    let l = c.loop-block in
    let a = c.args in
    let five : length a.q.blocks ≡ 5 =
    search rules in
    let zero : l.block ≡ 0 + l.block = omega arith in
    let same = ap (λ k. get_or a.q.blocks k _) c.from.ensures
    ∙ inside a.q.blocks l.block _ no_outline (omega (arith, five, c.loop-block-test.true)) in
    storing-more (stored_words a.q.blocks) (λ k. refl) _ 0 a.code.now
    (omega (arith, c.if-code-ge80.true)) l.block l.block c.words_of.result.words l.code
    c.put_part.new.code c.loop-block-test.true zero (c.words_of.ensures.0 ∙ ap words_of same)
    (subst Narrow same c.words_of.ensures.1) c.put_part.ensures l.invariant

pub returns-after-loop-block : goal.returns-after-loop-block
returns-after-loop-block c =
    let l = c.loop-block in
    let a = c.args in
    let room = c.if-code-ge80.true in
    let end = storing-end (stored_words a.q.blocks) (λ k. refl) _ 0 a.code.now
    (omega (arith, room)) l.block l.code c.loop-block-test.false l.invariant in record { words = end.0 ∙ sym (stored-enough a.q.blocks a.code.now room); narrow = λ h. end.1 }

pub returns-else-code-ge80 : goal.returns-else-code-ge80
returns-else-code-ge80 c =
    let a = c.args in record { words = sym (stored_short a.q.blocks a.code.now (omega (arith, c.if-code-ge80.false))); narrow = λ h. absurd (omega (arith, h, c.if-code-ge80.false)) }
