-- Of a question that is well formed, the limits over what was read are the model's number 6 (`within_is_counts`).
-- The model counts the aggregates of the relation rows too: a relation row that was read holds none.
use Prim.Native.Nat.{ℕ, zero, suc, ◌+◌, ◌≤◌, ◌<◌}
use native.Mathlib.Omega.{arith}
use mathlib.Core.Bool.{Bool, true, false, ◌&&◌}
use mathlib.Core.List.{List, [], ◌∷◌, ◌++◌, map}
use mathlib.Core.Path.{◌≡◌, refl, sym, ap, ap₂, ◌∙◌}
use lib.Dec.{leb}
use lib.ListN.{length}
use borrow.Author.Tests.{ltb-true, leb-true}
use Rattle.model.proofs.ListEquations.{filter-drops}
use Rattle.model.proofs.Tests.{filter-append}
use Rattle.model.specs.Checks.{from_to, counts_fit}
use Rattle.model.specs.Lists.{all, filter, range, concat_map}
use Rattle.model.specs.Question.{Element, names, elements, other_elements, row_elements}
use Rattle.model.specs.Question as model
use Rattle.model.specs.Records as records
use Rattle.syntax.proofs.Elements.{takes_is}
use Rattle.syntax.proofs.Laws.{both, on, block_bare, block_is}
use Rattle.syntax.proofs.Runs.{list_at, count_from, run_is}
use Rattle.syntax.proofs.Whole.{within, blocks_from, end_at, stands_at, question-is, read_is, count_is, within_is}
use Rattle.syntax.specs.Described.{decode, element_at, elements_at, relation_at, relations_at, described}
use Rattle.syntax.specs.Places.{byte_at, word_at, element_ok, elements_ok, head_ok, record_end, record_ok, takes, argument_ok}
use Rattle.syntax.specs.Places.{five_zeros, runs, block_with, block, reading, head_of, left, entries_of}
use Rattle.syntax.specs.declared.Question.{Question}
use Rattle.syntax.specs.declared.Record.TheVariants.{Rw, Cd, Ol, Bk}
use Rattle.syntax.specs.declared.Run.{Run}
use Rattle.limits.specs.Limits.{names_of, few_named, others_in, within_in}

-- the equations of specs/Limits
pub few_named_is : (es : List Element) → few_named es ≡ all (λ k. leb (names_of k es) 3) (range 0 256)
unfolding few_named
few_named_is es = refl

pub within_in_is : (bs : List ℕ) (q : Question)
    → within_in bs q ≡ from_to 1 5 q.count && q.within && few_named (others_in bs q)
unfolding within_in
within_in_is bs q = refl

-- an element of a relation row names no block
decode-plain : (j k a f b c : ℕ) → k < 4 → names j (decode k a f b c) ≡ false
decode-plain j zero a f b c h = refl
decode-plain j (suc zero) a f b c h = refl
decode-plain j (suc (suc zero)) a f b c h = refl
decode-plain j (suc (suc (suc zero))) a f b c h = refl
decode-plain j (suc (suc (suc (suc k)))) a f b c h = absurd (omega arith)

module _ (bs : List ℕ) (j : ℕ) where
  element-plain : (i : ℕ) → element_ok Rw bs i ≡ true → names j (element_at bs i) ≡ false
  unfolding element_ok element_at
  element-plain i e =
      decode-plain j (byte_at bs i) (word_at bs (i + 1)) (byte_at bs (i + 1)) (byte_at bs (i + 2)) (byte_at bs (i + 3))
      (ltb-true (byte_at bs i) 4 (sym (takes_is Rw (byte_at bs i))
      ∙ (both (takes Rw (byte_at bs i)) (argument_ok (byte_at bs i) (word_at bs (i + 1)) (byte_at bs (i + 1))
      (byte_at bs (i + 3)) (five_zeros bs (i + 4))) e).0))

  elements-plain : (n i : ℕ) → elements_ok Rw bs n i ≡ true → filter (names j) (elements_at bs n i) ≡ []
  unfolding elements_ok elements_at filter
  elements-plain zero i e = refl
  elements-plain (suc n) i e =
      let b = both (element_ok Rw bs i) (elements_ok Rw bs n (i + 9)) e in
      filter-drops (names j) (element_at bs i) (elements_at bs n (i + 9)) (element-plain i b.0)
      ∙ elements-plain n (i + 9) b.1

  relation-plain : (i : ℕ) → record_ok Rw bs i ≡ true → filter (names j) (relation_at bs i).entries ≡ []
  unfolding record_ok relation_at
  relation-plain i e =
      elements-plain (byte_at bs (i + 3)) (i + 4)
      (both (head_ok Rw bs i) (elements_ok Rw bs (entries_of Rw bs i) (i + head_of Rw))
      (both (leb (record_end Rw bs i) (length bs)) _ (both (leb (head_of Rw) (left bs i)) _ e).1).1).1

  relations-plain : (f i : ℕ)
      → filter (names j) (concat_map (λ w. w.entries)
      (relations_at bs (count_from (record_ok Rw bs) (record_end Rw bs) f i) i)) ≡ []
  unfolding count_from relations_at concat_map filter
  relations-plain zero i = refl
  relations-plain (suc f) i =
      on (record_ok Rw bs i)
      (λ e. rw e (filter-append (names j) (relation_at bs i).entries _
      ∙ ap (λ l. l ++ filter (names j) (concat_map (λ w. w.entries)
      (relations_at bs (count_from (record_ok Rw bs) (record_end Rw bs) f (record_end Rw bs i)) (record_end Rw bs i))))
      (relation-plain i e) ∙ relations-plain f (record_end Rw bs i)))
      (λ e. rw e refl)

  runs-count : (i : ℕ) → (runs Rw bs i).count ≡ count_from (record_ok Rw bs) (record_end Rw bs) (length bs) i
  runs-count i =
      ap (λ (r : Run). r.count) (run_is (length bs) Rw bs 0 i)
      ∙ (let n = count_from (record_ok Rw bs) (record_end Rw bs) (length bs) i in let z : 0 + n ≡ n = omega arith in z)

  with-plain : (i : ℕ) (r c : Run)
      → filter (names j) (concat_map (λ w. w.entries) (relations_at bs r.count (i + 3))) ≡ []
      → filter (names j) (row_elements (described bs (block_with bs i r c))) ≡ []
  unfolding row_elements described relations_at concat_map filter
  with-plain i r c h = on (record_ok Ol bs c.at) (λ e. rw e h) (λ e. rw e refl)

  -- no relation row of a block that was read names a block
  block-plain : (i : ℕ) → filter (names j) (row_elements (described bs (block bs i))) ≡ []
  unfolding row_elements described relations_at concat_map filter
  block-plain i =
      on (record_ok Bk bs i)
      (λ e.
      ap (λ b. filter (names j) (row_elements (described bs b))) (block_is bs i e)
      ∙ with-plain i (runs Rw bs (i + 3)) (runs Cd bs (runs Rw bs (i + 3)).at)
      (rw (runs-count (i + 3)) (relations-plain (length bs) (i + 3))))
      (λ e. ap (λ b. filter (names j) (row_elements (described bs b))) (block_bare bs i e))

  abbrev blocks_at : ℕ → ℕ → List model.Block
  blocks_at n i = map (described bs) (list_at (block bs) (end_at bs) n i)

  -- so the blocks' other elements name as many
  others-name : (n i : ℕ)
      → filter (names j) (concat_map elements (blocks_at n i)) ≡ filter (names j) (concat_map other_elements (blocks_at n i))
  unfolding list_at concat_map elements
  others-name zero i = refl
  others-name (suc n) i =
      filter-append (names j) (row_elements b ++ other_elements b) (concat_map elements rest)
      ∙ ap₂ ◌++◌ (filter-append (names j) (row_elements b) (other_elements b)
      ∙ ap (λ l. l ++ filter (names j) (other_elements b)) (block-plain i)) (others-name n (end_at bs i))
      ∙ sym (filter-append (names j) (other_elements b) (concat_map other_elements rest))
    where
      b : model.Block
      b = described bs (block bs i)

      rest : List model.Block
      rest = blocks_at n (end_at bs i)

  pub all-name : records.well_formed bs ≡ true
      → names_of j (concat_map other_elements (records.question_of bs))
      ≡ names_of j (concat_map elements (records.question_of bs))
  unfolding blocks_from
  all-name w =
      rw (question-is bs w)
      (ap length (sym (others-name (count_from (stands_at bs) (end_at bs) (length bs) 0) 0)))

all_same : (p q : ℕ → Bool) (l : List ℕ) → ((k : ℕ) → p k ≡ q k) → all p l ≡ all q l
unfolding all
all_same p q [] h = refl
all_same p q (x ∷ l) h = ap₂ ◌&&◌ (h x) (all_same p q l h)

-- number 6 of a question that is well formed
pub within_is_counts : (bs : List ℕ) → records.well_formed bs ≡ true
    → within_in bs (reading bs) ≡ counts_fit (records.question_of bs)
unfolding within_in few_named counts_fit
within_is_counts bs w =
    on (from_to 1 5 (reading bs).count) yes no
  where
    q : List model.Block
    q = records.question_of bs

    named : List model.Block → Bool
    named l = all (λ k. leb (names_of k (concat_map elements l)) 3) (range 0 256)

    yes : from_to 1 5 (reading bs).count ≡ true → within_in bs (reading bs) ≡ counts_fit (records.question_of bs)
    yes e =
        let few : (reading bs).count ≤ 5 = leb-true (reading bs).count 5 (both (leb 1 (reading bs).count) _ e).1 in
        ap₂ ◌&&◌ (ap₂ ◌&&◌ (ap (from_to 1 5) (sym (count_is bs w))) (within_is bs w))
        (ap (λ l. few_named (concat_map other_elements l)) (sym (read_is bs w few))
        ∙ all_same (λ k. leb (names_of k (concat_map other_elements q)) 3) (λ k. leb (names_of k (concat_map elements q)) 3)
        (range 0 256) (λ k. ap (λ n. leb n 3) (all-name bs k w)))

    no : from_to 1 5 (reading bs).count ≡ false → within_in bs (reading bs) ≡ counts_fit (records.question_of bs)
    no e =
        ap (λ b. b && (reading bs).within && few_named (others_in bs (reading bs))) e
        ∙ sym (ap (λ b. b && all within q && named q) (ap (from_to 1 5) (count_is bs w) ∙ e))
