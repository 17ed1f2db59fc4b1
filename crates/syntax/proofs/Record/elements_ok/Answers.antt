use Rattle.std.proofs.Common.{rules, tests, ◌+◌, ◌*◌, refl, ◌∙◌}
use Rattle.std.proofs.lemmas.Iterator.{YieldsList-from_range}
use Rattle.std.proofs.lemmas.Iterator.Search.{all_from_yields_List}
use Rattle.syntax.specs.Places.{element_ok}
use Rattle.syntax.proofs.Laws.{elements_all}
use Rattle.syntax.proofs.Record.elements_ok.Goals as goal

pub returns : goal.returns
returns c =
    let a = c.args in
    all_from_yields_List (λ k. element_ok a.self a.s.now (a.at + 9 * k)) _ _ _ c.all.ensures.ran
    (YieldsList-from_range 0 a.n a.n refl (search rules)) (λ x b q k. search (rules, tests))
    ∙ elements_all a.self a.s.now a.n a.at
