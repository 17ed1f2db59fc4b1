use Rattle.std.proofs.Common.{◌≡◌}
use Rattle.syntax.specs.Walks.{element_places, to_come}
use Rattle.syntax.proofs.WalkLaws.{places_within}
use Rattle.limits.proofs.Steps.{elements_counted}
use Rattle.limits.proofs.Tally.count_elements.Goals as goal

pub loop-i-init : goal.loop-i-init
loop-i-init c =
    let given = c.args in
    let all : to_come c.into_iter-i-iterator.result ≡ element_places given.s.now given.n given.at = cc in
    rw all (places_within _ given.s.now given.n given.at, elements_counted given.s.now given.self.now given.n given.at)
