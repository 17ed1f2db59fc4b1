use Rattle.std.proofs.Common.{◌≡◌}
use Rattle.syntax.specs.Walks.{condition_places, to_come}
use Rattle.syntax.proofs.WalkLaws.{places_within}
use Rattle.limits.proofs.Steps.{conditions_counted}
use Rattle.limits.proofs.Tally.count_conditions.Goals as goal

pub loop-i-init : goal.loop-i-init
loop-i-init c =
    let given = c.args in
    let all : to_come c.into_iter-i-iterator.result ≡ condition_places given.s.now given.n given.at = cc in
    rw all (places_within _ given.s.now given.n given.at, conditions_counted given.s.now given.self.now given.n given.at)
