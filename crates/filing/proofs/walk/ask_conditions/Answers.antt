use Rattle.std.proofs.Common.{◌≡◌}
use Rattle.syntax.specs.Walks.{condition_places, to_come}
use Rattle.syntax.proofs.WalkLaws.{places_within}
use Rattle.filing.proofs.Walks.{conditions_asked}
use Rattle.filing.proofs.walk.ask_conditions.Goals as goal

pub loop-i-init : goal.loop-i-init
loop-i-init c =
    let a = c.args in
    let all : to_come c.into_iter-i-iterator.result ≡ condition_places a.s.now a.n a.at = cc in
    rw all (places_within _ a.s.now a.n a.at, conditions_asked a.s.now a.a a.n a.at)
