-- One turn of each walk over plain values: what is asked for after it, and what a walk that stops leaves.
use Prim.Native.Nat.{ℕ, zero, suc, ◌+◌, ◌≤◌, ◌<◌, min}
use native.Mathlib.Omega.{arith}
use mathlib.Core.List.{List, [], ◌∷◌, ◌++◌, map}
use mathlib.Core.Logic.{⊎_elim}
use mathlib.Core.Path.{◌≡◌, refl, sym, ap, ◌∙◌}
use native.Mathlib.Numerals.{add-one}
use lib.ListN.{length, get_or, take, drop, replicate}
use lib.Seq.{drop-nil}
use Rattle.groups.specs.declared.Asked.{Asked}
use Rattle.limits.specs.Limits.{others_in}
use Rattle.model.specs.Lists.{concat_map}
use Rattle.model.specs.Question.{Element, empty, Condition, other_elements}
use Rattle.syntax.proofs.WalkLaws.{elements_walk, conditions_walk}
use Rattle.syntax.specs.Walks.{element_places, condition_places}
use Rattle.syntax.proofs.Elements.{le-or}
use Rattle.syntax.specs.Described.{decode, element_at, elements_at, condition_at, conditions_at, described, blocks_in}
use Rattle.syntax.specs.Places.{byte_at, word_at, no_block}
use Rattle.syntax.specs.declared.Block.{Block}
use Rattle.syntax.specs.declared.Question.{Question}
use Rattle.filing.specs.Asks.{ask, ask_of, ask_all, sides}

-- an element of a kind past 3 is an aggregate, one of another kind is none
decode-named : (t : Asked) (k a f b c : ℕ) → 3 < k → ask t f b c ≡ ask_of t (decode k a f b c)
decode-named t zero a f b c h = absurd (omega arith)
decode-named t (suc zero) a f b c h = absurd (omega arith)
decode-named t (suc (suc zero)) a f b c h = absurd (omega arith)
decode-named t (suc (suc (suc zero))) a f b c h = absurd (omega arith)
decode-named t (suc (suc (suc (suc k)))) a f b c h = refl

decode-other : (t : Asked) (k a f b c : ℕ) → k ≤ 3 → t ≡ ask_of t (decode k a f b c)
decode-other t zero a f b c h = refl
decode-other t (suc zero) a f b c h = refl
decode-other t (suc (suc zero)) a f b c h = refl
decode-other t (suc (suc (suc zero))) a f b c h = refl
decode-other t (suc (suc (suc (suc k)))) a f b c h = absurd (omega arith)

module _ (bs : List ℕ) where
  pub named : (t : Asked) (i : ℕ) → 3 < byte_at bs i
      → {f b c : ℕ} → f ≡ byte_at bs (i + 1) → b ≡ byte_at bs (i + 2) → c ≡ byte_at bs (i + 3)
      → ask t f b c ≡ ask_of t (element_at bs i)
  unfolding element_at
  named t i h f b c =
      (λ j. ask t (f j) (b j) (c j))
      ∙ decode-named t (byte_at bs i) (word_at bs (i + 1)) (byte_at bs (i + 1)) (byte_at bs (i + 2)) (byte_at bs (i + 3)) h

  pub other : (t : Asked) (i : ℕ) → byte_at bs i ≤ 3 → t ≡ ask_of t (element_at bs i)
  unfolding element_at
  other t i h =
      decode-other t (byte_at bs i) (word_at bs (i + 1)) (byte_at bs (i + 1)) (byte_at bs (i + 2)) (byte_at bs (i + 3)) h

-- a list asked for, and what follows it
pub ask-append : (t : Asked) (l r : List Element) → ask_all t (l ++ r) ≡ ask_all (ask_all t l) r
unfolding ask_all
ask-append t [] r = refl
ask-append t (e ∷ l) r = ask-append (ask_of t e) l r

-- nor does an empty element ask for anything, or a condition of two
empties : (t : Asked) (k : ℕ) → ask_all t (replicate k empty) ≡ t
unfolding ask_all
empties t zero = refl
empties t (suc k) = empties t k

empties_after : (t : Asked) (l : List Condition) (k : ℕ)
    → ask_all t (concat_map sides (l ++ replicate k (record { operator = 0; left = empty; right = empty })))
    ≡ ask_all t (concat_map sides l)
unfolding ask_all concat_map
empties_after t [] zero = refl
empties_after t [] (suc k) = empties_after t [] k
empties_after t (c ∷ l) k = empties_after (ask_of (ask_of t c.left) c.right) l k

-- what a walk goes over asks for what all ask for
module _ (bs : List ℕ) (t : Asked) (n i : ℕ) where
  pub elements_asked : ask_all t (map (element_at bs) (element_places bs n i)) ≡ ask_all t (elements_at bs n i)
  elements_asked =
      let w = elements_walk bs n i in
      rw w.1 (sym (ask-append t (map (element_at bs) (element_places bs n i)) (replicate w.0 empty) ∙ empties _ w.0))

  pub conditions_asked : ask_all t (concat_map sides (map (condition_at bs) (condition_places bs n i)))
      ≡ ask_all t (concat_map sides (conditions_at bs n i))
  conditions_asked = let w = conditions_walk bs n i in rw w.1 (sym (empties_after t _ w.0))

-- a block's conditions asked for, and then its output list
pub block_is : (bs : List ℕ) (b : Block) (t y r : Asked)
    → y ≡ ask_all t (concat_map sides (conditions_at bs b.conditions b.conditions_at))
    → r ≡ ask_all y (elements_at bs b.outputs b.outputs_at)
    → r ≡ ask_all t (other_elements (described bs b))
unfolding other_elements described
block_is bs b t y r f g =
    g ∙ ap (λ u. ask_all u (elements_at bs b.outputs b.outputs_at)) f
    ∙ sym (ask-append t (concat_map sides (conditions_at bs b.conditions b.conditions_at))
    (elements_at bs b.outputs b.outputs_at))

-- the elements of the blocks from the k-th on
abbrev pub others_from : List ℕ → Question → ℕ → List Element
others_from bs q k = concat_map other_elements (map (described bs) (drop k (take q.count q.blocks)))

pub blocks_start : (bs : List ℕ) (q : Question) → others_from bs q 0 ≡ others_in bs q
unfolding blocks_in
blocks_start bs q = refl

-- the blocks kept from the k-th on: it and the later ones, or none
kept_more : (l : List Block) (n k : ℕ) → k < n → k < length l
    → drop k (take n l) ≡ get_or l k no_block ∷ drop (suc k) (take n l)
kept_more [] n k h i = absurd (omega arith)
kept_more (b ∷ l) zero k h i = absurd (omega arith)
kept_more (b ∷ l) (suc n) zero h i = refl
kept_more (b ∷ l) (suc n) (suc k) h i = kept_more l n k (omega arith) (omega arith)

kept-none : (l : List Block) (n k : ℕ) → n ≤ k → drop k (take n l) ≡ []
kept-none l zero k h = drop-nil k
kept-none [] (suc n) k h = drop-nil k
kept-none (b ∷ l) (suc n) zero h = absurd (omega arith)
kept-none (b ∷ l) (suc n) (suc k) h = kept-none l n k (omega arith)

kept_past : (l : List Block) (n k : ℕ) → length l ≤ k → drop k (take n l) ≡ []
kept_past l zero k h = drop-nil k
kept_past [] (suc n) k h = drop-nil k
kept_past (b ∷ l) (suc n) zero h = absurd (omega arith)
kept_past (b ∷ l) (suc n) (suc k) h = kept_past l n k (omega arith)

block_past : (l : List Block) (k : ℕ) → length l ≤ k → get_or l k no_block ≡ no_block
block_past [] k h = refl
block_past (b ∷ l) zero h = absurd (omega arith)
block_past (b ∷ l) (suc k) h = block_past l k (omega arith)

module _ (bs : List ℕ) (q : Question) where
  pub blocks-turn : (t : Asked) (k : ℕ) → k < q.count
      → ask_all t (others_from bs q k)
      ≡ ask_all (ask_all t (other_elements (described bs (get_or q.blocks k no_block)))) (others_from bs q (k + 1))
  unfolding concat_map ask_all other_elements described conditions_at elements_at
  blocks-turn t k h =
      ⊎_elim
      (λ i.
      rw (kept_more q.blocks q.count k h i, add-one)
      (ask-append t (other_elements (described bs (get_or q.blocks k no_block))) _))
      (λ i.
      rw (
        kept_past q.blocks q.count k (omega arith),
        kept_past q.blocks q.count (k + 1) (omega arith),
        block_past q.blocks k (omega arith),
      )
      refl)
      (le-or (suc k) (length q.blocks))

  pub blocks-done : (t : Asked) (k : ℕ) → length q.blocks ≡ 5 → min q.count 5 ≤ k → ask_all t (others_from bs q k) ≡ t
  unfolding concat_map ask_all
  blocks-done t k l h =
      ⊎_elim
      (λ i. rw (kept-none q.blocks q.count k i) refl)
      (λ i. rw (kept_past q.blocks q.count k (omega arith)) refl)
      (le-or q.count k)
