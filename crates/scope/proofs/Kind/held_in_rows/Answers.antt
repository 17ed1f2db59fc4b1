use Rattle.std.proofs.Common.{rules, ◌+◌}
use native.Mathlib.Omega.{arith}
use mathlib.Core.Path.{◌≡◌, refl, ap, ◌∙◌}
use Rattle.syntax.specs.Walks.{relation_places, to_come}
use Rattle.syntax.proofs.WalkLaws.{places_within}
use Rattle.scope.specs.Gathering.{row_holds, elements_hold}
use Rattle.scope.specs.Masks.{mask_of}
use Rattle.scope.proofs.GatheringLaws.{gathered_begin, gathered_turn, gathered_end, held, rows_held}
use Rattle.scope.proofs.Kind.held_in_rows.Goals as goal

-- nothing is passed
pub loop-i-init : goal.loop-i-init
loop-i-init c =
    let a = c.args in
    let all : to_come c.into_iter-i-iterator.result ≡ relation_places a.s.now a.n a.at = cc in
    (rw all (places_within _ a.s.now a.n a.at), gathered_begin (row_holds a.self a.s.now) _ (λ v. ap (λ l. held (row_holds a.self a.s.now) l v) all ∙ rows_held a.self a.s.now a.n a.at v) refl)

-- one record more
pub loop-i-preserved : goal.loop-i-preserved
loop-i-preserved c =
    let a = c.args in
    (grind arith, gathered_turn (row_holds a.self a.s.now) _ _ _ _ c.loop-i.invariant.1 c.in-Some.ensures.steps (c.held_in_elements-mask.ensures ∙ ap (λ n. mask_of (elements_hold a.self a.s.now n (c.in-Some.i + 4))) (search rules)))

-- none is left
pub returns : goal.returns
returns c = let a = c.args in gathered_end (row_holds a.self a.s.now) _ c.loop-i.invariant.1 c.in-None.ensures.steps.0
