-- A table or column past 255 is absent, unless the data are refused before.
use Rattle.std.proofs.Common.{◌<◌, sym, ◌∙◌, arith}
use Rattle.std.proofs.lemmas.Grind.{common_steps}
use Rattle.model.proofs.NumberLaws.{numbered}
use Rattle.model.specs.Numbers.{number_of}
use Rattle.indexes.proofs.IndexNumbers.{index-data, index-absent}
use Rattle.capi.proofs.CallLaws.{absent}
use Rattle.capi.proofs.abe_index.Goals as goal

pub returns-in-Ok : goal.returns-in-Ok
returns-in-Ok c =
    let a = c.args in
    let z = sym c.in-Ok.ensures in
    let past : a.table < 256 → a.column < 256 → ⊥ = λ h k. grind (arith, common_steps) in
    let r = index-absent a.words.now a.table a.column a.out.now z (absent a.words.now a.table a.column z past) in
    record { number = c.number-in-Ok.ensures ∙ r.0; words = r.1 }

pub returns-in-Err : goal.returns-in-Err
returns-in-Err c =
    let a = c.args in
    let some = numbered c.in-Err.refusal in
    let r = index-data a.words.now a.table a.column a.out.now (number_of c.in-Err.refusal) c.in-Err.ensures
    (λ z. omega arith) in
    record { number = c.number-in-Err.ensures ∙ r.0; words = r.1 }
