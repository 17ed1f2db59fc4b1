-- The exported calls. A run: the engine's own definitions, unless the words for the figures are fewer than four. The
-- chart: its answer to an operator and a relation, both by number.
--   figures_in a          the figures of an answer, in their order: number, rows, columns, trials
--   given n x y          x where n words are enough for the figures, y where they are not
--   relation_numbered r   the relation of number r: 0 less, 1 equal, 2 greater, 3 and above absent
--   chart_causes o r n    causes of refusal in their order, for operator o, relation r and n bytes: 2 no byte, 5 an
--                        operator over 5 or a relation over 3
--   chart_number o r n    the number of the first that applies, 0 if the chart answers
--   chart_after o r bs    the bytes after, from those before: the first is 1 where the operator is met, else 0
use Rattle.std.specs.Prelude.{ℕ, zero, suc, cond, ◌&&◌, List, [], ◌∷◌, ltb, leb, length}
use Rattle.chart.specs.Chart.{case_of, chart_of}
use Rattle.chart.specs.declared.Relation.{Relation}
use Rattle.chart.specs.declared.Relation.TheVariants.{Less, Equal, Greater, Absent}
use Rattle.model.specs.Lists.{overwrite}
use Rattle.model.specs.Refusal.{Cause, first_of}
use Rattle.model.specs.declared.Answer.{Answer}

abbrev pub figures_in : Answer → List ℕ
figures_in a = a.number ∷ a.rows ∷ a.columns ∷ a.trials ∷ []

module _ {A : Type 0} where
  abbrev pub given : ℕ → A → A → A
  given n x y = cond (leb 4 n) x y

abbrev pub relation_numbered : ℕ → Relation
relation_numbered zero = Less
relation_numbered (suc zero) = Equal
relation_numbered (suc (suc zero)) = Greater
relation_numbered (suc (suc (suc n))) = Absent

unfoldable pub chart_causes : ℕ → ℕ → ℕ → List Cause
chart_causes o r n = (2, ltb 0 n) ∷ (5, leb o 5 && leb r 3) ∷ []

unfoldable pub chart_number : ℕ → ℕ → ℕ → ℕ
chart_number o r n = first_of (chart_causes o r n)

unfoldable pub chart_after : ℕ → ℕ → List ℕ → List ℕ
chart_after o r bs = elim (chart_number o r (length bs))
    [ zero ↦ overwrite (cond (chart_of (case_of o (relation_numbered r))) 1 0 ∷ []) bs | suc n ↦ bs ]
