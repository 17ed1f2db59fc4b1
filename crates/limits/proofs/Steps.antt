-- One turn of each walk over plain values: what is counted after it, and what a walk that stops leaves uncounted.
use Prim.Native.Nat.{ℕ, zero, suc, ◌+◌, ◌≤◌, ◌<◌}
use native.Mathlib.Omega.{arith}
use mathlib.Core.Bool.{false, ◌&&◌}
use mathlib.Core.List.{List, [], ◌∷◌, ◌++◌, map}
use mathlib.Core.Path.{◌≡◌, refl, sym, ap, ◌∙◌}
use lib.Dec.{ltb}
use native.Mathlib.Numerals.{add-one}
use lib.ListN.{drop_of_length-le, length, get_or, drop, replicate}
use lib.Seq.{drop-cons}
use Rattle.model.specs.Lists.{concat_map}
use Rattle.model.specs.Question.{Element, empty, Condition, other_elements}
use Rattle.syntax.proofs.WalkLaws.{walk_done, elements_walk, conditions_walk}
use Rattle.syntax.specs.Walks.{end_of, element_places, condition_places}
use Rattle.syntax.specs.declared.walks.Walked.TheVariants.{Elements, Conditions}
use Rattle.syntax.specs.Described.{decode, element_at, elements_at, condition_at, conditions_at, described}
use Rattle.syntax.specs.Places.{byte_at, word_at}
use Rattle.syntax.specs.declared.Block.{Block}
use Rattle.limits.specs.Tally.{bump, tally_of, tally_all, sides}
use Rattle.limits.specs.declared.Tally.{Tally}

-- an element of a kind past 3 is an aggregate, one of another kind is none
decode-named : (t : Tally) (k a f b c : ℕ) → 3 < k → bump t b ≡ tally_of t (decode k a f b c)
decode-named t zero a f b c h = absurd (omega arith)
decode-named t (suc zero) a f b c h = absurd (omega arith)
decode-named t (suc (suc zero)) a f b c h = absurd (omega arith)
decode-named t (suc (suc (suc zero))) a f b c h = absurd (omega arith)
decode-named t (suc (suc (suc (suc k)))) a f b c h = refl

decode-other : (t : Tally) (k a f b c : ℕ) → k ≤ 3 → t ≡ tally_of t (decode k a f b c)
decode-other t zero a f b c h = refl
decode-other t (suc zero) a f b c h = refl
decode-other t (suc (suc zero)) a f b c h = refl
decode-other t (suc (suc (suc zero))) a f b c h = refl
decode-other t (suc (suc (suc (suc k)))) a f b c h = absurd (omega arith)

module _ (bs : List ℕ) where
  pub named : (t : Tally) (i : ℕ) → 3 < byte_at bs i → bump t (byte_at bs (i + 2)) ≡ tally_of t (element_at bs i)
  unfolding element_at
  named t i h =
      decode-named t (byte_at bs i) (word_at bs (i + 1)) (byte_at bs (i + 1)) (byte_at bs (i + 2)) (byte_at bs (i + 3)) h

  pub other : (t : Tally) (i : ℕ) → byte_at bs i ≤ 3 → t ≡ tally_of t (element_at bs i)
  unfolding element_at
  other t i h =
      decode-other t (byte_at bs i) (word_at bs (i + 1)) (byte_at bs (i + 1)) (byte_at bs (i + 2)) (byte_at bs (i + 3)) h

-- a list counted, and what follows it
pub tally_append : (t : Tally) (l r : List Element) → tally_all t (l ++ r) ≡ tally_all (tally_all t l) r
unfolding tally_all
tally_append t [] r = refl
tally_append t (e ∷ l) r = tally_append (tally_of t e) l r

-- empty elements count nothing
empties : (t : Tally) (k : ℕ) → tally_all t (replicate k empty) ≡ t
unfolding tally_all
empties t zero = refl
empties t (suc k) = empties t k

-- nor do conditions of two empty elements, after others
empties_after : (t : Tally) (l : List Condition) (k : ℕ)
    → tally_all t (concat_map sides (l ++ replicate k (record { operator = 0; left = empty; right = empty })))
    ≡ tally_all t (concat_map sides l)
unfolding tally_all concat_map
empties_after t [] zero = refl
empties_after t [] (suc k) = empties_after t [] k
empties_after t (c ∷ l) k = empties_after (tally_of (tally_of t c.left) c.right) l k

module _ (bs : List ℕ) (t : Tally) (n i : ℕ) where
  pub elements_counted : tally_all t (map (element_at bs) (element_places bs n i)) ≡ tally_all t (elements_at bs n i)
  elements_counted =
      let w = elements_walk bs n i in
      rw w.1 (sym (tally_append t (map (element_at bs) (element_places bs n i)) (replicate w.0 empty)
      ∙ empties _ w.0))

  pub conditions_counted : tally_all t (concat_map sides (map (condition_at bs) (condition_places bs n i)))
      ≡ tally_all t (concat_map sides (conditions_at bs n i))
  conditions_counted = let w = conditions_walk bs n i in rw w.1 (sym (empties_after t _ w.0))

-- where a walk stops nothing is left to count
module _ (bs : List ℕ) (t : Tally) (n i : ℕ) (e : ltb 0 n && ltb i (length bs) ≡ false) where
  pub elements_done : tally_all t (elements_at bs n i) ≡ t
  unfolding tally_all
  elements_done = let d = walk_done (end_of Elements bs) bs n i (grind arith) in sym (rw d at (elements_counted bs t n i))

  pub conditions-done : tally_all t (concat_map sides (conditions_at bs n i)) ≡ t
  unfolding tally_all concat_map
  conditions-done = let d = walk_done (end_of Conditions bs) bs n i (grind arith) in sym (rw d at (conditions_counted bs t n i))

-- a block's conditions counted, and then its output list
pub block_is : (bs : List ℕ) (b : Block) (t y r : Tally)
    → y ≡ tally_all t (concat_map sides (conditions_at bs b.conditions b.conditions_at))
    → r ≡ tally_all y (elements_at bs b.outputs b.outputs_at)
    → r ≡ tally_all t (other_elements (described bs b))
unfolding other_elements described
block_is bs b t y r f g =
    g ∙ ap (λ u. tally_all u (elements_at bs b.outputs b.outputs_at)) f
    ∙ sym (tally_append t (concat_map sides (conditions_at bs b.conditions b.conditions_at))
    (elements_at bs b.outputs b.outputs_at))

-- the elements of the blocks of a list from the k-th on
abbrev pub others_from : List ℕ → List Block → ℕ → List Element
others_from bs l k = concat_map other_elements (map (described bs) (drop k l))

pub blocks_turn : (bs : List ℕ) (l : List Block) (t : Tally) (k : ℕ) (b : Block) → k < length l → b ≡ get_or l k b
    → tally_all t (others_from bs l k) ≡ tally_all (tally_all t (other_elements (described bs b))) (others_from bs l (k + 1))
unfolding concat_map
blocks_turn bs l t k b h e =
    rw (drop-cons l k b h, sym e, add-one) (tally_append t (other_elements (described bs b)) _)

pub blocks_done : (bs : List ℕ) (l : List Block) (t : Tally) (k : ℕ) → length l ≤ k → tally_all t (others_from bs l k) ≡ t
unfolding concat_map tally_all
blocks_done bs l t k h = rw (drop_of_length-le l h) refl
