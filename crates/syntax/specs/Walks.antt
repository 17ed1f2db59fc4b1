-- The places that a walk yields.
--   places end bs n i       those of n records from i on as far as the bytes go, the end of each given by its place
--   element_places bs n i   those of n elements; so with conditions and relation rows
--   end_of o bs i           the place after the record at i
--   to_come w               what walk w has left
use Rattle.std.specs.Prelude.{ℕ, zero, suc, ◌+◌, List, [], ◌∷◌, cond, ltb, length}
use Rattle.syntax.specs.Places.{record_end}
use Rattle.syntax.specs.declared.Record.TheVariants.{Rw, Cd}
use Rattle.syntax.specs.declared.walks.Places.{Places}
use Rattle.syntax.specs.declared.walks.Walked.{Walked}
use Rattle.syntax.specs.declared.walks.Walked.TheVariants.{Elements, Conditions, Relations}

unfoldable pub places : (ℕ → ℕ) → List ℕ → ℕ → ℕ → List ℕ
places end bs zero i = []
places end bs (suc n) i = cond (ltb i (length bs)) (i ∷ places end bs n (end i)) []

abbrev pub end_of : Walked → List ℕ → ℕ → ℕ
end_of Elements bs i = i + 9
end_of Conditions bs i = record_end Cd bs i
end_of Relations bs i = record_end Rw bs i

abbrev pub element_places : List ℕ → ℕ → ℕ → List ℕ
element_places bs = places (end_of Elements bs) bs

abbrev pub condition_places : List ℕ → ℕ → ℕ → List ℕ
condition_places bs = places (end_of Conditions bs) bs

abbrev pub relation_places : List ℕ → ℕ → ℕ → List ℕ
relation_places bs = places (end_of Relations bs) bs

unfoldable pub to_come : Places → List ℕ
to_come w = places (end_of w.over w.s.now) w.s.now w.left w.at
