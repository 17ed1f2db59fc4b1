-- What is read is the model's question, and the number is the model's lowest cause from 5 to 10.
use Prim.Native.Nat.{ℕ, zero, suc, ◌+◌, ◌≤◌, ◌<◌}
use native.Mathlib.Omega.{arith}
use mathlib.Core.Bool.{Bool, true, false, ◌&&◌, cond}
use mathlib.Core.List.{List, [], ◌∷◌}
use Rattle.std.proofs.Common.{◌⊎◌, inl, inr, lit≤}
use mathlib.Core.Path.{◌≡◌, refl, sym, ap, ap₂, ◌∙◌, subst}
use lib.Dec.{T, eqb, leb}
use lib.IntN.{ℤ}
use lib.ListN.{length, get_or}
use Rattle.reader.specs.Causes.{Masks, twice_below, ancestor, block_lowest, blocks_lowest}
use Rattle.reader.specs.Leaves.{block_of}
use Rattle.reader.specs.Walk.{context_at, cause_at, blocks_cause, number_by}
use Rattle.limits.proofs.Agrees.{within_is_counts, within_in_is}
use Rattle.limits.specs.Limits.{within_in}
use Rattle.model.proofs.Lists.{of-all}
use Rattle.model.proofs.RefusalLaws.{first_passes, first_stops, question-passes}
use Rattle.model.proofs.Tests.{place-in}
use Rattle.model.specs.Checks.{counts_fit, from_to, all_there, all_bound, sums_whole, constant_fits}
use Rattle.model.specs.Lists.{all, concat_map}
use Rattle.model.specs.Question.{block_at, elements}
use Rattle.model.specs.Refusal.{first_of, question_causes}
use Rattle.model.specs.Scope.{owns}
use Rattle.reader.proofs.NumberLaws.{Right, number_is}
use Rattle.reader.proofs.ScopeLaws.{right_masks}
use Rattle.reader.proofs.WalkLaws.{block-at, block-are}
use Rattle.scope.proofs.MaskLaws.{mask_bit}
use Rattle.scope.specs.Masks.{mask_of}
use Rattle.syntax.proofs.Laws.{both}
use Rattle.syntax.proofs.Lie.{Lies}
use Rattle.syntax.proofs.Whole.{all_blocks, reading-holds, read_is, count_is, all_lie}
use Rattle.syntax.specs.Described.{described, blocks_in}
use Rattle.syntax.specs.Places.{no_block, reading}
use Rattle.syntax.specs.declared.Question.{Question}
use borrow.Author.Tests.{lt-ltb, leb-true}
use Rattle.model.specs.Question as model
use Rattle.model.specs.Records as records

module _ (bs : List ℕ) (few : (reading bs).count ≤ 5) where
  abbrev q : Question
  q = reading bs

  abbrev Q : List model.Block
  Q = blocks_in bs q

  long : length q.blocks ≡ 5
  long = (reading-holds bs).long

  -- the description of block j is one that was read
  kept-is : (j : ℕ) → j < q.count → block_of q j ≡ get_or (all_blocks bs) j no_block
  kept-is j h =
      let n = (reading-holds bs).count in
      ap (λ t. cond t (get_or q.blocks j no_block) no_block) (lt-ltb j 5 (omega arith))
      ∙ (reading-holds bs).first j (omega arith) (omega arith)

  lies : (j : ℕ) → j < q.count → Lies bs (block_of q j)
  lies j h =
      let n = (reading-holds bs).count in
      subst (Lies bs) (sym (kept-is j h))
      (of-all (Lies bs) (all_blocks bs) _ (all_lie bs) (place-in (all_blocks bs) no_block j (omega arith)))

  module _ (d : List ℤ) (two : ℕ) where
    abbrev masks_at : ℕ → Masks
    masks_at j =
        record {
          own = (context_at bs q two j).own;
          above = (context_at bs q two j).above;
          twice = two;
        }

    cause-same : (j m : ℕ) → j < q.count → cause_at d bs q two j m ≡ block_lowest d Q j (masks_at j) m
    unfolding cause_at
    cause-same j m h =
        block-are bs (context_at bs q two j) long d (block_of q j) m (lies j h)
        (block-at bs (context_at bs q two j) long j h (omega arith))

    blocks-same : (n j m : ℕ) → j + n ≤ q.count → blocks_cause d bs q two n j m ≡ blocks_lowest d Q masks_at n j m
    unfolding blocks_cause blocks_lowest
    blocks-same zero j m h = refl
    blocks-same (suc n) j m h =
        ap (blocks_cause d bs q two n (suc j)) (cause-same j m (omega arith))
        ∙ blocks-same n (suc j) (block_lowest d Q j (masks_at j) m) (omega arith)

  -- the masks are right
  module _ (there : length Q ≡ q.count) where
    abbrev two : ℕ
    two = mask_of (twice_below Q q.count)

    right : (d : List ℤ) (j : ℕ) → j < length Q → Right Q j (masks_at d two j)
    right d j h =
        right_masks Q j (masks_at d two j) h
        (λ v l.
        mask_bit (λ v. owns v (described bs (block_of q j))) v l
        ∙ ap (owns v) (sym (block-at bs (context_at bs q two j) long j (omega arith) (omega arith))))
        (λ v l. mask_bit (twice_below Q q.count) v l ∙ ap (λ n. twice_below Q n v) (sym there))
        (λ v l. mask_bit (ancestor 5 Q (block_at Q j).parent) v l)

    pub least-is : (d : List ℤ)
        → cond (eqb (blocks_cause d bs q two q.count 0 11) 11) 0 (blocks_cause d bs q two q.count 0 11)
        ≡ first_of ((7, all_there d Q) ∷ (8, all_bound Q) ∷ (9, all (sums_whole Q) (concat_map elements Q))
        ∷ (10, all constant_fits (concat_map elements Q)) ∷ [])
    least-is d =
        ap (λ m. cond (eqb m 11) 0 m) (blocks-same d two q.count 0 11 (omega arith)
        ∙ ap (λ n. blocks_lowest d Q (masks_at d two) n 0 11) (sym there))
        ∙ number_is d Q (masks_at d two) (right d)

-- the whole number, whatever the bytes
module _ (d : List ℤ) (bs : List ℕ) where
  abbrev rest : List model.Block → List (ℕ × Bool)
  rest q = (7, all_there d q) ∷ (8, all_bound q) ∷ (9, all (sums_whole q) (concat_map elements q))
      ∷ (10, all constant_fits (concat_map elements q)) ∷ []

  pub few-blocks : within_in bs (reading bs) ≡ true → (reading bs).count ≤ 5
  few-blocks e =
      let a = both (from_to 1 5 (reading bs).count && (reading bs).within) _ (sym (within_in_is bs (reading bs)) ∙ e) in
      let b = both (from_to 1 5 (reading bs).count) (reading bs).within a.0 in
      leb-true (reading bs).count 5 (both (leb 1 (reading bs).count) (leb (reading bs).count 5) b.0).1

  pub read_number : (formed within : Bool) (m : ℕ) → formed ≡ records.well_formed bs → within ≡ within_in bs (reading bs)
      → (within ≡ true → m ≡ blocks_cause d bs (reading bs) (mask_of
      (twice_below (blocks_in bs (reading bs)) (reading bs).count)) (reading bs).count 0 11)
      → number_by formed within m ≡ first_of (question_causes d bs)
  unfolding question_causes
  read_number formed within m f w e = by-formed formed refl
    where
      q : List model.Block
      q = records.question_of bs

      whole : Bool → Bool → ℕ
      whole a b = first_of ((5, a) ∷ (6, b) ∷ rest q)

      by-within : records.well_formed bs ≡ true → (t : Bool) → within ≡ t → cond t (cond (eqb m 11) 0 m) 6 ≡ whole true t
      by-within k false h = sym (first_passes 5 true _ tt ∙ first_stops 6 (rest q))
      by-within k true h =
          let c = few-blocks (sym w ∙ h) in
          let r = read_is bs k c in
          let n = ap length (sym r) ∙ count_is bs k in
          ap (λ z. cond (eqb z 11) 0 z) (e h)
          ∙ least-is bs c n d
          ∙ ap (λ x. first_of (rest x)) (sym r)
          ∙ sym (first_passes 5 true _ tt ∙ first_passes 6 true (rest q) tt)

      counts : records.well_formed bs ≡ true → within ≡ counts_fit q
      counts k = w ∙ within_is_counts bs k

      by-formed : (t : Bool) → formed ≡ t → number_by t within m ≡ first_of (question_causes d bs)
      by-formed true h =
          let k = sym f ∙ h in
          by-within k within refl ∙ ap (λ t. whole true t) (counts k) ∙ ap (λ t. whole t (counts_fit q)) (sym k)
      by-formed false h = sym (ap (λ t. whole t (counts_fit q)) (sym f ∙ h) ∙ first_stops 5 _)

  -- the least cause is 11 or a number from 7 to 10
  between : (a b c e : Bool)
      → (first_of ((7, a) ∷ (8, b) ∷ (9, c) ∷ (10, e) ∷ []) ≡ 0)
      ⊎ ((7 ≤ first_of ((7, a) ∷ (8, b) ∷ (9, c) ∷ (10, e) ∷ [])) × (first_of ((7, a) ∷ (8, b) ∷ (9, c) ∷ (10, e) ∷ []) ≤ 10))
  unfolding first_of
  between false b c e = inr (lit≤ tt, lit≤ tt)
  between true false c e = inr (lit≤ tt, lit≤ tt)
  between true true false e = inr (lit≤ tt, lit≤ tt)
  between true true true false = inr (lit≤ tt, lit≤ tt)
  between true true true true = inl refl

  small : records.well_formed bs ≡ true → counts_fit (records.question_of bs) ≡ true
      → (first_of (question_causes d bs) ≡ 0)
      ⊎ ((7 ≤ first_of (question_causes d bs)) × (first_of (question_causes d bs) ≤ 10))
  unfolding question_causes first_of
  small a b = rw a (rw b (between _ _ _ _))

  told : (m f : ℕ) → cond (eqb m 11) 0 m ≡ f → (f ≡ 0) ⊎ ((7 ≤ f) × (f ≤ 10)) → cond (leb 7 m && leb m 10) m 0 ≡ f
  told m f e h = grind arith

  -- as the code comes to it
  pub count_small : (r : Question) (w : Bool) → r ≡ reading bs → w ≡ within_in bs r → w ≡ true → r.count ≤ 5
  count_small r w e f h = rw e (few-blocks (ap (within_in bs) (sym e) ∙ sym f ∙ h))

  pub number-least : (r : Question) (formed w : Bool) (n m x : ℕ) → r ≡ reading bs → formed ≡ records.well_formed bs
      → formed ≡ true
      → w ≡ within_in bs r → w ≡ true → n ≡ r.count
      → m ≡ blocks_cause d bs r (mask_of (twice_below (blocks_in bs r) n)) n 0 11
      → x ≡ cond (leb 7 m && leb m 10) m 0
      → x ≡ first_of (question_causes d bs)
  number-least r formed w n m x e f g h k l s t =
      let whole = sym f ∙ g in
      let counted = sym (within_is_counts bs whole) ∙ sym (h ∙ ap (within_in bs) e) ∙ k in
      let least = sym (ap₂ (λ a b. number_by a b m) g k)
      ∙ read_number formed w m f (h ∙ ap (within_in bs) e)
      (λ u. s ∙ ap₂ (λ (y : Question) z. blocks_cause d bs y (mask_of (twice_below (blocks_in bs y) z)) z 0 11) e
      (l ∙ ap (λ (y : Question). y.count) e)) in
      t ∙ told m _ least (small whole counted)

  pub number-6 : (r : Question) (formed w : Bool) → r ≡ reading bs → formed ≡ records.well_formed bs → formed ≡ true
      → w ≡ within_in bs r → w ≡ false → 6 ≡ first_of (question_causes d bs)
  number-6 r formed w e f g h k =
      sym (ap₂ (λ a b. number_by a b 0) g k)
      ∙ read_number formed w 0 f (h ∙ ap (within_in bs) e) (λ u. absurd (subst T (sym u ∙ k) tt))

  pub number-5 : (formed : Bool) → formed ≡ records.well_formed bs → formed ≡ false → 5 ≡ first_of (question_causes d bs)
  unfolding question_causes
  number-5 formed f g =
      sym (ap (λ t. first_of ((5, t) ∷ (6, counts_fit (records.question_of bs)) ∷ rest (records.question_of bs)))
      (sym f ∙ g) ∙ first_stops 5 _)

-- where no number from 5 to 10 applies, the descriptions and the bytes decode to the model's question
pub read_question : (d : List ℤ) (bs : List ℕ) → first_of (question_causes d bs) ≡ 0
    → records.question_of bs ≡ blocks_in bs (reading bs)
unfolding question_causes
read_question d bs z =
    let p = (question-passes d bs [] z).0 in
    let w = holds (records.well_formed bs) p.formed in
    let c = within_is_counts bs w ∙ holds (counts_fit (records.question_of bs)) p.counts in
    read_is bs w (few-blocks d bs c)
  where
    holds : (t : Bool) → T t → t ≡ true
    holds true s = refl
    holds false s = absurd s
