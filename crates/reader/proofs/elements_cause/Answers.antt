use native.Mathlib.Omega.{arith}
use mathlib.Core.Path.{◌≡◌, ap, ◌∙◌}
use Rattle.reader.specs.Causes.{lowest}
use Rattle.reader.specs.Walk.{element_cause}
use Rattle.syntax.specs.Places.{item_at}
use Rattle.reader.proofs.WalkLaws.{elements_walked}
use Rattle.syntax.specs.Walks.{element_places, to_come}
use Rattle.reader.proofs.elements_cause.Goals as goal

pub loop-i-init : goal.loop-i-init
loop-i-init c =
    let a = c.args in
    let all : to_come c.into_iter-i-iterator.result ≡ element_places a.s.now a.n a.at = cc in
    ap (λ p. lowest (λ j. element_cause a.s.now a.x (item_at a.s.now j)) p 11) all ∙ elements_walked a.s.now a.x a.n a.at 11 (omega arith)
