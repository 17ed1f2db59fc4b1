-- What the walks that gather variables hold: as much as all the records do, since past the end of the bytes nothing is
-- held; and one turn of them.
use Prim.Native.Nat.{ℕ, zero, suc, ◌+◌, ◌≤◌, ◌<◌, min}
use native.Mathlib.Omega.{arith}
use mathlib.Core.Bool.{Bool, true, false, cond, ◌&&◌, ◌||◌}
use mathlib.Core.List.{List, [], ◌∷◌}
use mathlib.Core.Path.{◌≡◌, refl, sym, ap, ap₂, ◌∙◌}
use lib.Bits.{bit_or}
use lib.Dec.{eqb, ltb}
use lib.ListN.{length}
use borrow.Author.Tests.{ne_eqb}
use Rattle.syntax.specs.Places.{item_at, byte_at, word_at, record_end, condition_end}
use Rattle.syntax.proofs.Conditions.{end-within, past-stays}
use Rattle.syntax.specs.Walks.{places, element_places, condition_places, relation_places}
use Rattle.syntax.specs.declared.Record.TheVariants.{Rw, Cd}
use Rattle.scope.specs.declared.Kind.{Kind}
use Rattle.scope.specs.declared.Kind.TheVariants.{Variable, Fixed, Aggregate}
use Rattle.syntax.proofs.Laws.{byte_past, end_is, on}
use Rattle.scope.specs.Gathering.{takes, number_of, holds_at, elements_hold, records_hold, row_holds, rows_hold}
use Rattle.scope.specs.Gathering.{condition_holds, conditions_hold}
use Rattle.scope.specs.Masks.{mask_of}
use Rattle.scope.proofs.MaskLaws.{mask_none, mask_or, mask_same}

or_assoc : (a b c : Bool) → a || b || c ≡ a || (b || c)
or_assoc true b c = refl
or_assoc false b c = refl

or-none : (a : Bool) → a || false ≡ a
or-none true = refl
or-none false = refl

-- ---- a set that is being gathered: mask has what was taken, and rest tells what is still to come
pub record Gathered (whole : ℕ → Bool) (mask : ℕ) (rest : ℕ → Bool) : Type 0 where
  pub taken : ℕ → Bool
  pub mask_is : mask ≡ mask_of taken
  pub joined : (v : ℕ) → taken v || rest v ≡ whole v

-- what the records at places hold
unfoldable pub held : (ℕ → ℕ → Bool) → List ℕ → ℕ → Bool
held f [] v = false
held f (i ∷ l) v = f i v || held f l v

module _ (f : ℕ → ℕ → Bool) {whole : ℕ → Bool} {mask : ℕ} where
  -- the places l and what their records hold
  pub gathered_begin : (l : List ℕ) → ((v : ℕ) → held f l v ≡ whole v) → mask ≡ 0 → Gathered whole mask (held f l)
  gathered_begin l h e = record { taken = λ v. false; mask_is = e ∙ sym mask_none; joined = h }

  -- x is what the record at i holds
  pub gathered_turn : (l r : List ℕ) (i x : ℕ) → Gathered whole mask (held f l) → l ≡ i ∷ r → x ≡ mask_of (f i)
      → Gathered whole (bit_or mask x) (held f r)
  unfolding held
  gathered_turn l r i x g h e =
      record {
        taken = λ v. g.taken v || f i v;
        mask_is = ap₂ bit_or g.mask_is e ∙ mask_or g.taken (f i);
        joined = λ v. or_assoc (g.taken v) (f i v) (held f r v) ∙ ap (λ m. g.taken v || held f m v) (sym h) ∙ g.joined v;
      }

  pub gathered_end : (l : List ℕ) → Gathered whole mask (held f l) → l ≡ [] → mask ≡ mask_of whole
  unfolding held
  gathered_end l g h =
      g.mask_is
      ∙ mask_same g.taken whole
      (λ v n. sym (or-none (g.taken v)) ∙ ap (λ m. g.taken v || held f m v) (sym h) ∙ g.joined v)

-- ---- elements
module _ (k : Kind) (bs : List ℕ) where
  pub holds_past : (i v : ℕ) → length bs ≤ i → holds_at k bs i v ≡ false
  unfolding holds_at
  holds_past i v h = ap (λ n. takes k n && eqb v (number_of k (item_at bs i))) (sym (byte_past bs i h)) ∙ none k
    where
      none : (k : Kind) → takes k 0 && eqb v (number_of k (item_at bs i)) ≡ false
      none Variable = refl
      none Fixed = refl
      none Aggregate = refl

  -- an element of another kind
  pub held_none : (i : ℕ) → takes k (byte_at bs i) ≡ false → 0 ≡ mask_of (holds_at k bs i)
  unfolding holds_at
  held_none i e =
      sym (mask_same (holds_at k bs i) (λ v. false) (λ v l. ap (λ b. b && eqb v (number_of k (item_at bs i))) e) ∙ mask_none)

  pub elements-past : (n i v : ℕ) → length bs ≤ i → elements_hold k bs n i v ≡ false
  unfolding elements_hold
  elements-past zero i v h = refl
  elements-past (suc n) i v h = ap₂ ◌||◌ (holds_past i v h) (elements-past n (i + 9) v (omega arith))

  pub elements_held : (n i v : ℕ) → held (holds_at k bs) (element_places bs n i) v ≡ elements_hold k bs n i v
  unfolding held places elements_hold
  elements_held zero i v = refl
  elements_held (suc n) i v =
      on (ltb i (length bs))
      (λ e. rw e (ap (λ b. holds_at k bs i v || b) (elements_held n (i + 9) v)))
      (λ e. rw e (sym (elements-past (suc n) i v (grind arith))))

-- ---- records that hold nothing past the end, and of which none past it leads back
module _ (f : ℕ → ℕ → Bool) (next : ℕ → ℕ) (bs : List ℕ) (past : (i v : ℕ) → length bs ≤ i → f i v ≡ false)
    (stays : (i : ℕ) → length bs ≤ i → length bs ≤ next i) where
  pub records-past : (n i v : ℕ) → length bs ≤ i → records_hold f next n i v ≡ false
  unfolding records_hold
  records-past zero i v h = refl
  records-past (suc n) i v h = ap₂ ◌||◌ (past i v h) (records-past n (next i) v (stays i h))

  -- before the end the walk leads on as they do
  module _ (end : ℕ → ℕ) (same : (i : ℕ) → i < length bs → next i ≡ end i) where
    records_held : (n i v : ℕ) → held f (places end bs n i) v ≡ records_hold f next n i v
    unfolding held places records_hold
    records_held zero i v = refl
    records_held (suc n) i v =
        on (ltb i (length bs))
        (λ e. let s = same i (grind arith) in rw (e, s) (ap (λ b. f i v || b) (records_held n (end i) v)))
        (λ e. rw e (sym (records-past (suc n) i v (grind arith))))

module _ (k : Kind) (bs : List ℕ) where
  pub rows_held : (n i v : ℕ) → held (row_holds k bs) (relation_places bs n i) v ≡ rows_hold k bs n i v
  rows_held =
      records_held (row_holds k bs) (record_end Rw bs) bs
      (λ j v h. elements-past k bs (byte_at bs (j + 3)) (j + 4) v (omega arith)) (λ j h. omega (arith, end_is Rw bs j))
      (record_end Rw bs) (λ j h. refl)

  pub conditions_held : (n i v : ℕ) → held (condition_holds k bs) (condition_places bs n i) v ≡ conditions_hold k bs n i v
  conditions_held =
      records_held (condition_holds k bs) (condition_end bs) bs (λ j v h. elements-past k bs 2 (j + 3) v (omega arith))
      (past-stays bs) (record_end Cd bs) (end-within bs)

-- ---- elements by the number of their kind, 4 for every greater one; those of number 0 are empty and hold nothing
module _ (k : ℕ) (bs : List ℕ) where
  -- the element at place i has kind k and holds v
  abbrev pub numbered_at : (i v : ℕ) → Bool
  numbered_at i v =
      eqb (min (byte_at bs i) 4) k && eqb v (cond (eqb k 4) (byte_at bs (i + 2)) (word_at bs (i + 1)))

  numbered-none : 0 < k → (i v : ℕ) → length bs ≤ i → numbered_at i v ≡ false
  numbered-none p i v h =
      ap (λ x. eqb (min x 4) k && eqb v (cond (eqb k 4) (byte_at bs (i + 2)) (word_at bs (i + 1)))) (sym (byte_past bs i h))
      ∙ ap (λ b. b && eqb v (cond (eqb k 4) (byte_at bs (i + 2)) (word_at bs (i + 1)))) (ne_eqb 0 k (λ e. omega arith))

  -- none of n elements from a place past the end on has
  pub numbered-past : (n i v : ℕ) → 0 < k → length bs ≤ i → records_hold numbered_at (λ j. j + 9) n i v ≡ false
  numbered-past n i v p h = records-past numbered_at (λ j. j + 9) bs (numbered-none p) (λ j l. omega arith) n i v h
