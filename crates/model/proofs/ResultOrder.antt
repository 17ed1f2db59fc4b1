-- Request No. 2 (specs/ResultOrder has its statements): `result_ascends`, `rows-between`, `plans_same-words`,
-- `plans_same-result`, `plans_same-after`.
--   Differ x y          the first column in which two rows differ, x being less there; first_difference: there is one
--   value_there         the value read from the result's words is the one of the set's row and column
--   row_words           the words of the rows are those of the set of matching
use Prim.Native.Nat.{ℕ, zero, suc, ◌<◌, Ordering}
use native.Mathlib.Omega.{arith}
use mathlib.Core.List.{List, [], ◌∷◌}
use mathlib.Core.Logic.{inl, inr}
use mathlib.Core.Path.{◌≡◌, refl, sym, ◌∙◌, ap, ap₂, subst}
use lib.IntN.{ℤ}
use lib.ListN.{length, get_or, drop}
use lib.Seq.{take-append_seam}
use Rattle.model.specs.Aggregate.{column_at}
use Rattle.model.specs.Answer.{answer_of, result_after}
use Rattle.model.specs.Lists.{overwrite}
use Rattle.model.specs.Matching.{result}
use Rattle.model.specs.PlanAgreement.{BothLargeOrGiven}
use Rattle.model.specs.Question.{block_at}
use Rattle.model.specs.Records.{question_of}
use Rattle.model.specs.Refusal.{Lengths}
use Rattle.model.specs.ResultOrder.{result_value, Precedes, row_words_of, ResultAscends, RowsBetween}
use Rattle.model.specs.ResultOrder.{PlansSameWords, PlansSameResult, PlansSameAfter}
use Rattle.model.specs.RowSet.{Row, lexicographic, order_rows, set_words}
use Rattle.model.specs.Scan.{unbound}
use Rattle.model.specs.Scope.{levels}
use Rattle.model.specs.Tables.{nat_of}
use Rattle.model.specs.Value.{order}
use Rattle.model.specs.declared.Answer.{Answer}
use Rattle.model.proofs.AnswerLaws.{given-rows, Rows}
use Rattle.model.proofs.BisectionLaws.{ascending-at, all-at}
use Rattle.model.proofs.BufferLaws.{result-kept, result_value as word_value}
use Rattle.model.proofs.CanonLaws.{set_ascending, set_proper}
use Rattle.model.proofs.OrderLaws.{ProperRow}
use Rattle.model.proofs.PlansAgree.{plans_agree}
use Rattle.model.proofs.SetLaws.{Ascending}
use Rattle.model.proofs.ValueLaws.{linear_value}
use Rattle.model.proofs.WordLaws.{set-length, result-columns}

record Differ (x y : Row) : Type 0 where
  at : ℕ
  inside : at < length x
  equal-before : (c : ℕ) → c < at → column_at c x ≡ column_at c y
  less : order (column_at at x) (column_at at y) ≡ Ordering.lt

first_difference : (x y : Row) → ProperRow x → ProperRow y → length x ≡ length y → order_rows x y ≡ Ordering.lt
    → Differ x y
unfolding lexicographic
first_difference [] [] p p' l e = absurd (let z : ◌≡◌ {A = ℕ} 0 1 = cc in omega arith)
first_difference [] (y ∷ ys) p p' l e = absurd (omega arith)
first_difference (x ∷ xs) [] p p' l e = absurd (omega arith)
first_difference (x ∷ xs) (y ∷ ys) p p' l e =
    go (first_difference xs ys p.1 p'.1 (omega arith)) (order x y) refl e
  where
    here : order x y ≡ Ordering.lt → Differ (x ∷ xs) (y ∷ ys)
    here h = record { at = 0; inside = omega arith; equal-before = λ c k. absurd (omega arith); less = h }

    further : x ≡ y → Differ xs ys → Differ (x ∷ xs) (y ∷ ys)
    further h r =
        record {
          at = suc r.at;
          inside = let i = r.inside in omega arith;
          equal-before = before;
          less = r.less;
        }
      where
        before : (c : ℕ) → c < suc r.at → column_at c (x ∷ xs) ≡ column_at c (y ∷ ys)
        before zero k = h
        before (suc c) k = r.equal-before c (omega arith)

    go : (order_rows xs ys ≡ Ordering.lt → Differ xs ys) → (o : Ordering) → order x y ≡ o
        → order_rows (x ∷ xs) (y ∷ ys) ≡ Ordering.lt → Differ (x ∷ xs) (y ∷ ys)
    go r Ordering.lt h = λ k. here h
    go r Ordering.eq h = rw (h, lexicographic) (λ k. further (linear_value.same x y p.0 p'.0 h) (r k))
    go r Ordering.gt h = rw (h, lexicographic) (λ k. absurd (let z : ◌≡◌ {A = ℕ} 0 1 = cc in omega arith))

-- one run that gives rows
module _ (l : Lengths) (d : List ℤ) (qs ps : List ℕ) (budget : ℕ) (words : List ℤ)
    (given : (answer_of l d qs ps budget).number ≡ 0) where
  abbrev a : Answer
  a = answer_of l d qs ps budget

  abbrev after : List ℤ
  after = result_after l d qs ps budget words

  abbrev rs : List Row
  rs = result d (question_of qs)

  abbrev n : ℕ
  n = length (block_at (question_of qs) 0).outputs

  rows : Rows l d qs ps budget
  rows = given-rows l d qs ps budget given

  value_there : (r c : ℕ) → r < a.rows → c < a.columns → result_value after a.columns r c ≡ column_at c (get_or rs r [])
  value_there r c h k =
      let e = word_value l d qs ps budget words given r c h k in
      ap₂ (λ x y. record { num = x; den = nat_of y }) e.0 e.1

  ascending : Ascending order_rows rs
  unfolding result
  ascending = set_ascending levels d (question_of qs) 0 unbound

  -- row r of the set: its columns, its values in lowest terms or absent
  row-columns : (r : ℕ) → r < length rs → length (get_or rs r []) ≡ a.columns
  row-columns r h = all-at (λ x. length x ≡ n) [] rs r h (result-columns d (question_of qs)) ∙ sym rows.columns

  row-proper : (r : ℕ) → r < length rs → ProperRow (get_or rs r [])
  unfolding result
  row-proper r h = all-at ProperRow [] rs r h (set_proper levels d (question_of qs) 0 unbound)

  differ : (r r' : ℕ) → r < r' → r' < length rs → Differ (get_or rs r []) (get_or rs r' [])
  differ r r' h k =
      let i : r < length rs = omega arith in
      first_difference (get_or rs r []) (get_or rs r' []) (row-proper r i) (row-proper r' k)
      (row-columns r i ∙ sym (row-columns r' k)) (ascending-at order_rows [] rs r r' h k ascending)

  between : (r r' : ℕ) → r < r' → r' < a.rows → Precedes a.columns after r r'
  between r r' h k =
      let k' : r' < length rs = subst (λ z. r' < z) rows.rows k in
      let i : r < a.rows = omega arith in
      let s = differ r r' h k' in
      let e = row-columns r (omega arith) in
      let j : s.at < a.columns = let m = s.inside in omega arith in
      record {
        at = s.at;
        inside = j;
        equal-before = λ c m.
            value_there r c i (omega arith) ∙ s.equal-before c m ∙ sym (value_there r' c k (omega arith));
        less = ap₂ order (value_there r s.at i j) (value_there r' s.at k j) ∙ s.less;
      }

  -- the words of the set, then those from before
  written_after : after ≡ overwrite (set_words rs) words
  unfolding result_after
  written_after = ap (λ w. overwrite w words) rows.written

  pub row_words : row_words_of a after ≡ set_words rs
  unfolding overwrite
  row_words =
      rw (rows.rows, rows.columns, written_after, ← (set-length n rs (result-columns d (question_of qs))))
      (take-append_seam (set_words rs) (drop (length (set_words rs)) words))

pub rows-between : RowsBetween
rows-between = between

pub result_ascends : ResultAscends
result_ascends l d qs ps budget words given r h = between l d qs ps budget words given r (suc r) (omega arith) h

pub plans_same-words : PlansSameWords
plans_same-words l l' d qs ps ps' budget budget' words words' z z' =
    let g = given-rows l d qs ps budget z in
    let g' = given-rows l' d qs ps' budget' z' in
    record {
      rows = g.rows ∙ sym g'.rows;
      columns = g.columns ∙ sym g'.columns;
      words = row_words l d qs ps budget words z ∙ sym (row_words l' d qs ps' budget' words' z');
    }

pub plans_same-result : PlansSameResult
plans_same-result l l' d qs ps ps' budget budget' words z z' =
    written_after l d qs ps budget words z ∙ sym (written_after l' d qs ps' budget' words z')

pub plans_same-after : PlansSameAfter
plans_same-after l l' d qs ps ps' budget budget' words ok ok' adm adm' free free' =
    go ((plans_agree l l' d qs ps ps' budget budget' ok ok' adm adm').agree free free')
  where
    go : BothLargeOrGiven l l' d qs ps ps' budget budget'
        → result_after l d qs ps budget words ≡ result_after l' d qs ps' budget' words
    go (inl b) =
        let f = b.first in
        let s = b.second in
        result-kept l d qs ps budget words (λ z. omega arith)
        ∙ sym (result-kept l' d qs ps' budget' words (λ z. omega arith))
    go (inr b) = plans_same-result l l' d qs ps ps' budget budget' words b.first b.second
