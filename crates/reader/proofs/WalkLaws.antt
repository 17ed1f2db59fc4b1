-- The walk by place: a turn of each loop, what stands past the end, and that it is the least cause over the model's
-- elements.
use Prim.Native.Nat.{ℕ, zero, suc, ◌+◌, ◌≤◌, ◌<◌, min}
use native.Mathlib.Decide.{dec_lt}
use native.Mathlib.Nat.{min-eq_left}
use native.Mathlib.Omega.{arith}
use mathlib.Core.Bool.{Bool, true, false, ◌&&◌}
use mathlib.Core.List.{List, [], ◌∷◌, ◌++◌, map}
use mathlib.Core.Path.{◌≡◌, refl, sym, ap, ◌∙◌}
use lib.Dec.{eqb, ltb}
use lib.IntN.{ℤ}
use lib.ListN.{length, get_or, take, length-map, length-take, get_or-map}
use lib.Seq.{get_or-take}
use Rattle.reader.specs.Causes.{lowest, Masks, cause_of, row_cause, rows_lowest, place_cause, block_lowest}
use Rattle.reader.specs.Leaves.{block_of, child_there, constant_cause, variable_cause, fixed_cause, aggregate_cause}
use Rattle.reader.specs.Walk.{cause_by_kind, element_cause, elements_cause, row_cause_at, rows_cause, conditions_cause}
use Rattle.reader.specs.Walk.{block_cause}
use Rattle.reader.specs.declared.Context.{Context}
use Rattle.model.specs.Checks.{element_there, ratio_at}
use Rattle.model.specs.Lists.{concat_map}
use Rattle.model.specs.Question.{Element, aggregate, Condition, other_elements}
use Rattle.reader.proofs.LeafLaws.{empty_is, variable_is, fixed_is, aggregate-is, constant-is}
use Rattle.syntax.proofs.Conditions.{end-within, past-stays}
use Rattle.syntax.proofs.Laws.{byte_past, record_in, both, on}
use Rattle.syntax.proofs.Lie.{records_ok, Lies}
use Rattle.syntax.proofs.Whole.{elements-length}
use Rattle.syntax.specs.Described.{decode, element_at, elements_at, relation_at, relations_at, condition_at, conditions_at}
use Rattle.syntax.specs.Described.{described, blocks_in}
use Rattle.syntax.specs.Places.{byte_at, word_at, item_at, no_block, record_ok, record_end}
use Rattle.syntax.specs.Places.{condition_end}
use Rattle.syntax.specs.Walks.{places, element_places, condition_places, relation_places}
use Rattle.syntax.specs.declared.Block.{Block}
use Rattle.syntax.specs.declared.Record.TheVariants.{Rw, Cd}
use borrow.Author.Tests.{lt-ltb, le-ltb, ltb-true, ne_eqb}
use Rattle.model.specs.Question as model

-- past the end every element is empty
module _ (bs : List ℕ) (x : Context) where
  blank-cause : (i : ℕ) → length bs ≤ i → element_cause bs x (item_at bs i) ≡ 11
  unfolding element_cause
  blank-cause i h = rw (sym (byte_past bs i h)) refl

  pub elements-past : (n i m : ℕ) → length bs ≤ i → m ≤ 11 → elements_cause bs x n i m ≡ m
  unfolding elements_cause
  elements-past zero i m h l = refl
  elements-past (suc n) i m h l =
      ap (λ c. elements_cause bs x n (i + 9) (min m c)) (blank-cause i h)
      ∙ ap (elements_cause bs x n (i + 9)) (min-eq_left l)
      ∙ elements-past n (i + 9) m (omega arith) l

  pub conditions-past : (n i m : ℕ) → length bs ≤ i → m ≤ 11 → conditions_cause bs x n i m ≡ m
  unfolding conditions_cause
  conditions-past zero i m h l = refl
  conditions-past (suc n) i m h l =
      ap (conditions_cause bs x n (condition_end bs i)) (elements-past 2 (i + 3) m (omega arith) l)
      ∙ conditions-past n (condition_end bs i) m (past-stays bs i h) l

  -- a walk from m on is the lesser of m and the walk by itself
  pub elements_min : (n i m : ℕ) → m ≤ 11 → elements_cause bs x n i m ≡ min m (elements_cause bs x n i 11)
  unfolding elements_cause
  elements_min zero i m l = omega arith
  elements_min (suc n) i m l =
      let c = element_cause bs x (item_at bs i) in
      let p = elements_min n (i + 9) (min m c) (omega arith) in
      let q = elements_min n (i + 9) (min 11 c) (omega arith) in
      omega arith

  pub conditions_min : (n i m : ℕ) → m ≤ 11 → conditions_cause bs x n i m ≡ min m (conditions_cause bs x n i 11)
  unfolding conditions_cause
  conditions_min zero i m l = omega arith
  conditions_min (suc n) i m l =
      let e = elements_min 2 (i + 3) m l in
      let f = elements_min 2 (i + 3) 11 (omega arith) in
      let p = conditions_min n (condition_end bs i) (elements_cause bs x 2 (i + 3) m) (omega arith) in
      let q = conditions_min n (condition_end bs i) (elements_cause bs x 2 (i + 3) 11) (omega arith) in
      omega arith

  -- a walk takes the least over the places that it passes
  pub elements_walked : (n i m : ℕ) → m ≤ 11
      → lowest (λ j. element_cause bs x (item_at bs j)) (element_places bs n i) m ≡ elements_cause bs x n i m
  unfolding elements_cause lowest places
  elements_walked zero i m l = refl
  elements_walked (suc n) i m l =
      on (ltb i (length bs))
      (λ e. rw e (elements_walked n (i + 9) (min m (element_cause bs x (item_at bs i))) (omega arith)))
      (λ e. rw e (sym (elements-past (suc n) i m (grind arith) l)))

  pub conditions_walked : (n i m : ℕ) → m ≤ 11
      → lowest (λ j. elements_cause bs x 2 (j + 3) 11) (condition_places bs n i) m ≡ conditions_cause bs x n i m
  unfolding conditions_cause lowest places
  conditions_walked zero i m l = refl
  conditions_walked (suc n) i m l =
      on (ltb i (length bs))
      (λ e.
      let s = end-within bs i (grind arith) in
      let f = elements_min 2 (i + 3) m l in
      rw (e, s, f) (conditions_walked n (record_end Cd bs i) (min m (elements_cause bs x 2 (i + 3) 11)) (omega arith)))
      (λ e. rw e (sym (conditions-past (suc n) i m (grind arith) l)))

module _ (d : List ℤ) (bs : List ℕ) (x : Context) where
  -- the least cause of the relation row at a place
  abbrev pub row_least : ℕ → ℕ
  row_least j = min (row_cause_at d bs j) (elements_cause bs x (byte_at bs (j + 3)) (j + 4) 11)

  pub rows_min : (n i m : ℕ) → m ≤ 11 → rows_cause d bs x n i m ≡ min m (rows_cause d bs x n i 11)
  unfolding rows_cause
  rows_min zero i m l = omega arith
  rows_min (suc n) i m l =
      on (ltb i (length bs))
      (λ e.
      let c = row_cause_at d bs i in
      let k = byte_at bs (i + 3) in
      let j = record_end Rw bs i in
      let a = elements_min bs x k (i + 4) (min m c) (omega arith) in
      let b = elements_min bs x k (i + 4) (min 11 c) (omega arith) in
      let p = rows_min n j (elements_cause bs x k (i + 4) (min m c)) (omega arith) in
      let q = rows_min n j (elements_cause bs x k (i + 4) (min 11 c)) (omega arith) in
      rw e (omega arith))
      (λ e. rw e (omega arith))

  pub rows_walked : (n i m : ℕ) → m ≤ 11 → lowest row_least (relation_places bs n i) m ≡ rows_cause d bs x n i m
  unfolding rows_cause lowest places
  rows_walked zero i m l = refl
  rows_walked (suc n) i m l =
      on (ltb i (length bs))
      (λ e.
      let c = row_cause_at d bs i in
      let k = byte_at bs (i + 3) in
      let a = elements_min bs x k (i + 4) (min m c) (omega arith) in
      let s : elements_cause bs x k (i + 4) (min m c) ≡ min m (row_least i) = omega arith in
      rw (e, s) (rows_walked n (record_end Rw bs i) (min m (row_least i)) (omega arith)))
      (λ e. rw e refl)

  -- a block's causes are the least of its parts'
  pub block_joined : (b : Block)
      → min (min (rows_cause d bs x b.rows b.rows_at 11) (conditions_cause bs x b.conditions b.conditions_at 11))
      (elements_cause bs x b.outputs b.outputs_at 11)
      ≡ block_cause d bs x b 11
  unfolding block_cause
  block_joined b =
      let r = rows_cause d bs x b.rows b.rows_at 11 in
      let a = rows_min b.rows b.rows_at 11 (omega arith) in
      let c = conditions_min bs x b.conditions b.conditions_at r (omega arith) in
      let e = elements_min bs x b.outputs b.outputs_at (conditions_cause bs x b.conditions b.conditions_at r) (omega arith) in
      omega arith

  pub block_min : (b : Block) (m : ℕ) → m ≤ 11 → block_cause d bs x b m ≡ min m (block_cause d bs x b 11)
  unfolding block_cause
  block_min b m l =
      let r = rows_cause d bs x b.rows b.rows_at m in
      let w = rows_cause d bs x b.rows b.rows_at 11 in
      let a = rows_min b.rows b.rows_at m l in
      let z = rows_min b.rows b.rows_at 11 (omega arith) in
      let c = conditions_min bs x b.conditions b.conditions_at r (omega arith) in
      let y = conditions_min bs x b.conditions b.conditions_at w (omega arith) in
      let e = elements_min bs x b.outputs b.outputs_at (conditions_cause bs x b.conditions b.conditions_at r) (omega arith) in
      let v = elements_min bs x b.outputs b.outputs_at (conditions_cause bs x b.conditions b.conditions_at w) (omega arith) in
      omega arith

-- the element at a place
module _ (bs : List ℕ) (x : Context) (long : length x.question.blocks ≡ 5) where
  abbrev Q : List model.Block
  Q = blocks_in bs x.question

  abbrev masks : Masks
  masks = record { own = x.own; above = x.above; twice = x.twice }

  -- block k of the descriptions
  count_is : length Q ≡ min x.question.count 5
  unfolding blocks_in
  count_is = length-map (take x.question.count x.question.blocks) (described bs)
      ∙ length-take x.question.count x.question.blocks ∙ ap (min x.question.count) long

  pub block-at : (k : ℕ) → k < x.question.count → k < 5 → model.block_at Q k ≡ described bs (block_of x.question k)
  unfolding blocks_in
  block-at k h l =
      inside (map (described bs) (take x.question.count x.question.blocks)) k model.no_block
      (described bs no_block) (let c = count_is in omega arith)
      ∙ get_or-map (described bs) (take x.question.count x.question.blocks) k no_block
      ∙ ap (described bs) (get_or-take x.question.count x.question.blocks k no_block h)
      ∙ sym (rw (lt-ltb k 5 l) refl)
    where
      inside : {A : Type 0} (m : List A) (k : ℕ) (a b : A) → k < length m → get_or m k a ≡ get_or m k b
      inside [] k a b h = absurd (omega arith)
      inside (y ∷ m) zero a b h = refl
      inside (y ∷ m) (suc k) a b h = inside m k a b (omega arith)

  ltb-min : (k a b : ℕ) → ltb k (min a b) ≡ ltb k a && ltb k b
  ltb-min k a b = go (dec_lt k a) (dec_lt k b)
    where
      go : Dec (k < a) → Dec (k < b) → ltb k (min a b) ≡ ltb k a && ltb k b
      go (yes h) (yes l) = rw (lt-ltb k a h, lt-ltb k b l, lt-ltb k (min a b) (omega arith)) refl
      go (yes h) (no l) = rw (lt-ltb k a h, le-ltb k b (omega arith), le-ltb k (min a b) (omega arith)) refl
      go (no h) l = rw (le-ltb k a (omega arith), le-ltb k (min a b) (omega arith)) refl

  there-is : (j f k c : ℕ) → child_there x.question j k c ≡ element_there Q j (aggregate f k c)
  unfolding described
  there-is j f k c = go (ltb k x.question.count) (ltb k 5) refl refl
    where
      b : Block
      b = block_of x.question k

      go : (s t : Bool) → ltb k x.question.count ≡ s → ltb k 5 ≡ t
          → s && t && (ltb 0 k && eqb b.parent j && ltb c b.outputs)
          ≡ ltb k (length Q) && ltb 0 k && eqb (model.block_at Q k).parent j && ltb c
          (length (model.block_at Q k).outputs)
      go true true h l =
          rw (
            block-at k (ltb-true k x.question.count h) (ltb-true k 5 l),
            elements-length bs b.outputs b.outputs_at,
            count_is,
            ltb-min k x.question.count 5,
            h,
            l,
          ) refl
      go true false h l = rw (count_is, ltb-min k x.question.count 5, h, l) refl
      go false t h l = rw (count_is, ltb-min k x.question.count 5, h) refl

  -- the cause of the element at a place is that of the model's element there
  pub element_is : (i : ℕ) → element_cause bs x (item_at bs i) ≡ cause_of Q x.block masks (element_at bs i)
  unfolding element_cause element_at
  element_is i = by_kind (byte_at bs i)
    where
      a : ℕ
      a = word_at bs (i + 1)

      f : ℕ
      f = byte_at bs (i + 1)

      k : ℕ
      k = byte_at bs (i + 2)

      c : ℕ
      c = byte_at bs (i + 3)

      by_kind : (n : ℕ)
          → cause_by_kind n (constant_cause a) (variable_cause x.own x.twice a) (fixed_cause x.above a)
          (aggregate_cause (child_there x.question x.block k c) f (ratio_at 4 Q k c))
          ≡ cause_of Q x.block masks (decode n a f k c)
      by_kind zero = empty_is Q x.block masks
      by_kind (suc zero) = constant-is Q x.block masks a
      by_kind (suc (suc zero)) = variable_is Q x.block masks a
      by_kind (suc (suc (suc zero))) = fixed_is Q x.block masks a
      by_kind (suc (suc (suc (suc n)))) =
          rw (
            ne_eqb (suc (suc (suc (suc n)))) 0 (λ e. omega arith),
            ne_eqb (suc (suc (suc (suc n)))) 1 (λ e. omega arith),
            ne_eqb (suc (suc (suc (suc n)))) 2 (λ e. omega arith),
            ne_eqb (suc (suc (suc (suc n)))) 3 (λ e. omega arith),
          )
          (aggregate-is Q x.block masks f k c _ _ (there-is x.block f k c) refl)

  pub elements-are : (n i m : ℕ) → elements_cause bs x n i m ≡ lowest (cause_of Q x.block masks) (elements_at bs n i) m
  unfolding elements_cause elements_at lowest
  elements-are zero i m = refl
  elements-are (suc n) i m =
      ap (λ c. elements_cause bs x n (i + 9) (min m c)) (element_is i)
      ∙ elements-are n (i + 9) (min m (cause_of Q x.block masks (element_at bs i)))

  -- relation rows
  row_is : (d : List ℤ) (i : ℕ) → row_cause_at d bs i ≡ row_cause d (relation_at bs i)
  unfolding row_cause_at row_cause relation_at
  row_is d i = rw (elements-length bs (byte_at bs (i + 3)) (i + 4)) refl

  pub rows_are : (d : List ℤ) (n i m : ℕ) → records_ok Rw bs n i ≡ true
      → rows_cause d bs x n i m ≡ rows_lowest d Q x.block masks (relations_at bs n i) m
  unfolding rows_cause rows_lowest relations_at relation_at records_ok
  rows_are d zero i m e = refl
  rows_are d (suc n) i m e =
      let b = both (record_ok Rw bs i) (records_ok Rw bs n (record_end Rw bs i)) e in
      let g = record_in Rw bs i b.0 in
      rw (
        lt-ltb i (length bs) (omega arith),
        row_is d i,
        elements-are (byte_at bs (i + 3)) (i + 4) (min m (row_cause d (relation_at bs i))),
      )
      (rows_are d n (record_end Rw bs i) _ b.1)

  -- conditions
  abbrev sides : List Condition → List Element
  sides cs = concat_map (λ (c : Condition). c.left ∷ c.right ∷ []) cs

  lowest-append : (es fs : List Element) (m : ℕ)
      → lowest (cause_of Q x.block masks) (es ++ fs) m ≡ lowest (cause_of Q x.block masks) fs
      (lowest (cause_of Q x.block masks) es m)
  unfolding lowest
  lowest-append [] fs m = refl
  lowest-append (e ∷ es) fs m = lowest-append es fs (min m (cause_of Q x.block masks e))

  two-are : (i : ℕ) → elements_at bs 2 (i + 3) ≡ (condition_at bs i).left ∷ (condition_at bs i).right ∷ []
  unfolding elements_at condition_at
  two-are i = ap (λ j. element_at bs (i + 3) ∷ element_at bs j ∷ []) (let e : i + 3 + 9 ≡ i + 12 = omega arith in e)

  pub conditions_are : (n i m : ℕ)
      → conditions_cause bs x n i m ≡ lowest (cause_of Q x.block masks) (sides (conditions_at bs n i)) m
  unfolding conditions_cause conditions_at concat_map lowest
  conditions_are zero i m = refl
  conditions_are (suc n) i m =
      ap (conditions_cause bs x n (condition_end bs i))
      (elements-are 2 (i + 3) m ∙ ap (λ l. lowest (cause_of Q x.block masks) l m) (two-are i))
      ∙ conditions_are n (condition_end bs i) _
      ∙ sym (lowest-append ((condition_at bs i).left ∷ (condition_at bs i).right ∷ [])
      (sides (conditions_at bs n (condition_end bs i))) m)

  -- a block that lies in the bytes
  pub block-are : (d : List ℤ) (b : Block) (m : ℕ) → Lies bs b → model.block_at Q x.block ≡ described bs b
      → block_cause d bs x b (min m (place_cause Q x.block)) ≡ block_lowest d Q x.block masks m
  unfolding block_cause block_lowest described other_elements
  block-are d b m l e =
      rw (
        e,
        rows_are d b.rows b.rows_at (min m (place_cause Q x.block)) l.rows,
        conditions_are b.conditions b.conditions_at
            (rows_lowest d Q x.block masks (relations_at bs b.rows b.rows_at)
            (min m (place_cause Q x.block))),
        elements-are b.outputs b.outputs_at
            (lowest (cause_of Q x.block masks) (sides (conditions_at bs b.conditions b.conditions_at))
            (rows_lowest d Q x.block masks (relations_at bs b.rows b.rows_at)
            (min m (place_cause Q x.block)))),
      )
      (sym (lowest-append (sides (conditions_at bs b.conditions b.conditions_at))
      (elements_at bs b.outputs b.outputs_at) _))
