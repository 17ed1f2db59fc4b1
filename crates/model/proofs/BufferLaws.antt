-- What the lent buffers hold after a run, place by place (01, "Causes of refusal": "Left as it was", and the
-- paragraph below it).
--   overwrite-..        a list with its front replaced: its length, and each place
--   result-kept         on refusal the result keeps its words
--   result-past         words past the rows keep their content; result-length: the result keeps its length
--   result_value        row r, column c stands at words 2 × (r × n + c) and the next
--   work-..             a work buffer: zero in its named length, kept beyond it, kept whole under number 1
use Prim.Native.Nat.{ℕ, zero, suc, ◌+◌, ◌*◌, ◌<◌, ◌≤◌, zero-le}
use native.Mathlib.Nat.{le_trans, le_of_eq, mul-le-mul, mul-le-mul_right}
use native.Mathlib.Omega.{arith}
use mathlib.Core.List.{List, [], ◌∷◌, ◌++◌}
use mathlib.Core.Path.{◌≡◌, refl, sym, ◌∙◌, ap, subst}
use lib.Dec.{ltb, leb→le, nltb→le}
use lib.IntN.{ℤ, pos}
use lib.ListN.{length, get_or, drop, replicate, length-append, length-drop, drop_of_length-le, length-replicate}
use lib.ListN.{get_or-replicate, get_or-append}
use Rattle.model.specs.Aggregate.{column_at}
use Rattle.model.specs.Answer.{answer_of, written_of, result_after, work_after}
use Rattle.model.specs.Lists.{overwrite}
use Rattle.model.specs.Matching.{result, too_large, limit}
use Rattle.model.specs.Question.{block_at}
use Rattle.model.specs.Records.{question_of}
use Rattle.model.specs.Refusal.{Lengths, result_length, result_long}
use Rattle.model.specs.RowSet.{Row, set_words}
use Rattle.model.specs.declared.Answer.{Answer}
use Rattle.model.proofs.AnswerLaws.{ended, gives, refuses, given-rows, Rows, Ended}
use Rattle.model.proofs.ReaderLaws.{passed-some, passed-counts}
use Rattle.model.proofs.RefusalLaws.{refusal-passes, Passes}
use Rattle.model.proofs.Tests.{or-false, not-false}
use Rattle.model.proofs.WordLaws.{result-columns, set-length, result-num, result-den}

-- a list with its front replaced
module _ {A : Type 0} where
  pub overwrite-length : (front l : List A) → length front ≤ length l → length (overwrite front l) ≡ length l
  unfolding overwrite
  overwrite-length front l h =
      length-append front (drop (length front) l) ∙ rw (length-drop (length front) l) (omega arith)

  pub overwrite-front : (front l : List A) (z : A) (i : ℕ) → i < length front
      → get_or (overwrite front l) i z ≡ get_or front i z
  unfolding overwrite
  overwrite-front front l z i h = get_or-append front (drop (length front) l) z i h

  pub overwrite-past : (front l : List A) (z : A) (i : ℕ) → length front ≤ i → get_or (overwrite front l) i z ≡ get_or l i z
  unfolding overwrite
  overwrite-past front l z i h = go front l i h
    where
      go : (front l : List A) (i : ℕ) → length front ≤ i → get_or (front ++ drop (length front) l) i z ≡ get_or l i z
      go [] l i h = refl
      go (x ∷ front) [] (suc i) h =
          ap (λ t. get_or (front ++ t) i z) (sym (drop_of_length-le {A = A} [] {i = length front} zero-le))
          ∙ go front [] i (omega arith)
      go (x ∷ front) (y ∷ l) (suc i) h = go front l i (omega arith)
      go (x ∷ front) l zero h = absurd (omega arith)

-- the work buffers
module _ {A : Type 0} (z : A) (n : ℕ) (words : List A) where
  pub work-kept : work_after z n 1 words ≡ words
  unfolding work_after
  work-kept = refl

  pub work-overwritten : (number : ℕ) → (number ≡ 1 → ⊥) → work_after z n number words ≡ overwrite (replicate n z) words
  unfolding work_after
  work-overwritten zero h = refl
  work-overwritten (suc zero) h = absurd (h refl)
  work-overwritten (suc (suc number)) h = refl

  pub work-zero : (number i : ℕ) → (number ≡ 1 → ⊥) → i < n → get_or (work_after z n number words) i z ≡ z
  work-zero number i h l =
      rw (work-overwritten number h)
      (overwrite-front (replicate n z) words z i (rw (length-replicate n z) l) ∙ get_or-replicate n i z z l)

  pub work-past : (number i : ℕ) → n ≤ i → get_or (work_after z n number words) i z ≡ get_or words i z
  unfolding work_after
  work-past zero i l = overwrite-past (replicate n z) words z i (rw (length-replicate n z) l)
  work-past (suc zero) i l = refl
  work-past (suc (suc number)) i l = overwrite-past (replicate n z) words z i (rw (length-replicate n z) l)

  pub work-length : (number : ℕ) → n ≤ length words → length (work_after z n number words) ≡ length words
  unfolding work_after
  work-length zero l = overwrite-length (replicate n z) words (rw (length-replicate n z) l)
  work-length (suc zero) l = refl
  work-length (suc (suc number)) l = overwrite-length (replicate n z) words (rw (length-replicate n z) l)

-- the result
module _ (l : Lengths) (d : List ℤ) (qs ps : List ℕ) (budget : ℕ) (words : List ℤ) where
  abbrev after : List ℤ
  after = result_after l d qs ps budget words

  abbrev written : List ℤ
  written = written_of l d qs ps budget

  abbrev a : Answer
  a = answer_of l d qs ps budget

  -- on refusal the result keeps its words
  pub result-kept : (a.number ≡ 0 → ⊥) → after ≡ words
  unfolding result_after overwrite
  result-kept h = go (ended l d qs ps budget)
    where
      go : Ended l d qs ps budget → after ≡ words
      go (gives z r) = absurd (h z)
      go (refuses n w) = rw w refl

  -- the words past the rows keep their content
  pub result-past : (i : ℕ) → 2 * (a.rows * a.columns) ≤ i → get_or after i (pos 0) ≡ get_or words i (pos 0)
  unfolding result_after
  result-past i h = overwrite-past written words (pos 0) i (le_trans (go (ended l d qs ps budget)) h)
    where
      go : Ended l d qs ps budget → length written ≤ 2 * (a.rows * a.columns)
      go (gives z r) =
          rw (r.written, r.rows, r.columns)
          (le_of_eq (set-length (length (block_at (question_of qs) 0).outputs) (result d (question_of qs))
          (result-columns d (question_of qs))))
      go (refuses n w) = rw w zero-le

  module _ (given : a.number ≡ 0) where
    rows : Rows l d qs ps budget
    rows = given-rows l d qs ps budget given

    passes : Passes l d qs
    passes = (refusal-passes l d qs ps rows.no-cause).0

    rows-most : length (result d (question_of qs)) ≤ 256
    unfolding too_large
    rows-most =
        nltb→le limit (length (result d (question_of qs)))
        (not-false _ (or-false (ltb limit (length (result d (question_of qs)))) _ rows.not-large).0)

    columns-most : length (block_at (question_of qs) 0).outputs ≤ 4
    columns-most = (passed-counts d qs passes.question 0 (passed-some d qs passes.question)).columns

    -- so they fit the 2,048 words
    pub written-fits : length written ≤ result_length
    written-fits =
        rw rows.written
        (let e = set-length (length (block_at (question_of qs) 0).outputs) (result d (question_of qs))
        (result-columns d (question_of qs)) in
        let m = mul-le-mul rows-most columns-most in omega arith)

    pub result-length : l.result ≡ length words → length after ≡ length words
    unfolding result_after result_long
    result-length e =
        overwrite-length written words
        (let room = leb→le result_length l.result passes.buffers.room in let fits = written-fits in omega arith)

    -- row r, column c stands at words 2 × (r × n + c) and the next
    pub result_value : (r c : ℕ) → r < a.rows → c < a.columns
        → (get_or after (2 * (r * a.columns + c)) (pos 0) ≡ (column_at c (get_or (result d (question_of qs)) r [])).num)
        × (get_or after (suc (2 * (r * a.columns + c))) (pos 0) ≡ pos
        (column_at c (get_or (result d (question_of qs)) r [])).den)
    unfolding result_after
    result_value r c h k = (
      at_front (2 * (r * a.columns + c)) (omega (arith, place))
          ∙ subst (λ n. get_or (set_words rs) (2 * (r * n + c)) (pos 0) ≡ (column_at c (get_or rs r [])).num)
          (sym rows.columns)
          (result-num n rs (result-columns d (question_of qs)) r c r-in c-in),
      at_front (suc (2 * (r * a.columns + c))) (omega (arith, place))
          ∙ subst (λ n. get_or (set_words rs) (suc (2 * (r * n + c))) (pos 0) ≡ pos (column_at c (get_or rs r [])).den)
          (sym rows.columns)
          (result-den n rs (result-columns d (question_of qs)) r c r-in c-in),
    )
      where
        rs : List Row
        rs = result d (question_of qs)

        n : ℕ
        n = length (block_at (question_of qs) 0).outputs

        r-in : r < length rs
        r-in = subst (λ z. r < z) rows.rows h

        c-in : c < n
        c-in = subst (λ z. c < z) rows.columns k

        place : 2 * (r * a.columns + c) + 2 ≤ length written
        place =
            let e = ap length rows.written ∙ set-length n rs (result-columns d (question_of qs)) in
            let m = mul-le-mul_right n r-in in let f = ap (λ z. r * z) rows.columns in let g = c-in in omega arith

        at_front : (i : ℕ) → i < length written → get_or after i (pos 0) ≡ get_or (set_words rs) i (pos 0)
        at_front i l = overwrite-front written words (pos 0) i l ∙ ap (λ z. get_or z i (pos 0)) rows.written
