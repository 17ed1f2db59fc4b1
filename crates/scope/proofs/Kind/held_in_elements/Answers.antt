use mathlib.Core.Path.{◌≡◌, refl, ap, ◌∙◌}
use Rattle.syntax.specs.Walks.{element_places, to_come}
use Rattle.scope.specs.Gathering.{holds_at}
use Rattle.scope.proofs.GatheringLaws.{gathered_begin, gathered_turn, gathered_end, held, elements_held}
use Rattle.scope.proofs.Kind.held_in_elements.Goals as goal

-- nothing is passed
pub loop-i-init : goal.loop-i-init
loop-i-init c =
    let a = c.args in
    let all : to_come c.into_iter-i-iterator.result ≡ element_places a.s.now a.n a.at = cc in
    gathered_begin (holds_at a.self a.s.now) _ (λ v. ap (λ l. held (holds_at a.self a.s.now) l v) all ∙ elements_held a.self a.s.now a.n a.at v) refl

-- one record more
pub loop-i-preserved : goal.loop-i-preserved
loop-i-preserved c =
    let a = c.args in
    gathered_turn (holds_at a.self a.s.now) _ _ _ _ c.loop-i.invariant c.in-Some.ensures.steps c.held_at-mask.ensures

-- none is left
pub returns : goal.returns
returns c = let a = c.args in gathered_end (holds_at a.self a.s.now) _ c.loop-i.invariant c.in-None.ensures.steps.0
