use native.Mathlib.Omega.{arith}
use mathlib.Core.Path.{◌≡◌, ap, ◌∙◌}
use Rattle.reader.specs.Causes.{lowest}
use Rattle.reader.proofs.WalkLaws.{row_least, rows_walked}
use Rattle.syntax.proofs.WalkLaws.{places_within}
use Rattle.syntax.specs.Walks.{relation_places, to_come}
use Rattle.reader.proofs.rows_cause.Goals as goal

pub loop-i-init : goal.loop-i-init
loop-i-init c =
    let a = c.args in
    let all : to_come c.into_iter-i-iterator.result ≡ relation_places a.s.now a.n a.at = cc in
    (rw all (places_within _ a.s.now a.n a.at), ap (λ p. lowest (row_least a.words.now a.s.now a.x) p 11) all ∙ rows_walked a.words.now a.s.now a.x a.n a.at 11 (omega arith))
