use native.Mathlib.Omega.{arith}
use mathlib.Core.Path.{◌≡◌, ap, ◌∙◌}
use Rattle.reader.specs.Causes.{lowest}
use Prim.Native.Nat.{◌+◌}
use Rattle.reader.specs.Walk.{elements_cause}
use Rattle.reader.proofs.WalkLaws.{conditions_walked}
use Rattle.syntax.proofs.WalkLaws.{places_within}
use Rattle.syntax.specs.Walks.{condition_places, to_come}
use Rattle.reader.proofs.conditions_cause.Goals as goal

pub loop-i-init : goal.loop-i-init
loop-i-init c =
    let a = c.args in
    let all : to_come c.into_iter-i-iterator.result ≡ condition_places a.s.now a.n a.at = cc in
    (rw all (places_within _ a.s.now a.n a.at), ap (λ p. lowest (λ j. elements_cause a.s.now a.x 2 (j + 3) 11) p 11) all ∙ conditions_walked a.s.now a.x a.n a.at 11 (omega arith))
