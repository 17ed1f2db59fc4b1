-- The walk over the blocks: what a block is held to, and one turn of the loop.
use Prim.Native.Nat.{ℕ, zero, suc, ◌+◌, ◌-◌, ◌≤◌, ◌<◌, min}
use native.Mathlib.Omega.{arith}
use mathlib.Core.List.{List}
use mathlib.Core.Path.{◌≡◌, sym, ap, ap₂, ◌∙◌}
use lib.IntN.{ℤ}
use Rattle.reader.specs.Causes.{ancestor, place_cause}
use Rattle.reader.specs.Leaves.{block_of}
use Rattle.reader.specs.Walk.{block_cause, context_at, cause_at, blocks_cause}
use Rattle.reader.specs.declared.Context.{Context}
use Rattle.model.specs.Question.{block_at}
use Rattle.model.specs.Scope.{owns}
use Rattle.reader.proofs.WalkLaws.{block_min}
use Rattle.scope.specs.Masks.{mask_of}
use Rattle.syntax.specs.Described.{described, blocks_in}
use Rattle.syntax.specs.declared.Block.{Block}
use Rattle.syntax.specs.declared.Question.{Question}

pub context_is : (bs : List ℕ) (q : Question) (two j k own above : ℕ) (b : Block) → k ≡ j → b ≡ block_of q k
    → own ≡ mask_of (λ v. owns v (described bs b))
    → above ≡ mask_of (ancestor 5 (blocks_in bs q) (block_at (blocks_in bs q) j).parent)
    → ◌≡◌ {A = Context} (record { question = q; block = j; own = own; above = above; twice = two })
    (context_at bs q two j)
context_is bs q two j k own above b e f g h =
    let o : own ≡ mask_of (λ v. owns v (described bs (block_of q j))) =
    g ∙ ap (λ (x : Block). mask_of (λ v. owns v (described bs x))) (f ∙ ap (block_of q) e) in
    λ i. record { question = q; block = j; own = o i; above = h i; twice = two }

-- the least cause of a block is the lesser of its place's and its elements'
pub cause_joined : (d : List ℤ) (bs : List ℕ) (q : Question) (two j : ℕ)
    → min (place_cause (blocks_in bs q) j) (block_cause d bs (context_at bs q two j) (block_of q j) 11)
    ≡ cause_at d bs q two j 11
unfolding cause_at
cause_joined d bs q two j =
    let x = context_at bs q two j in
    let b = block_of q j in
    let c = place_cause (blocks_in bs q) j in
    let p = block_min d bs x b (min 11 c) (omega arith) in
    let s = block_min d bs x b 11 (omega arith) in
    omega arith

cause_min : (d : List ℤ) (bs : List ℕ) (q : Question) (two j m : ℕ) → m ≤ 11
    → cause_at d bs q two j m ≡ min m (cause_at d bs q two j 11)
unfolding cause_at
cause_min d bs q two j m l =
    let x = context_at bs q two j in
    let b = block_of q j in
    let c = place_cause (blocks_in bs q) j in
    let p = block_min d bs x b (min m c) (omega arith) in
    let s = block_min d bs x b (min 11 c) (omega arith) in
    omega arith

module _ (d : List ℤ) (bs : List ℕ) (q : Question) (two : ℕ) where
  pub record Walked (n j least : ℕ) : Type 0 where
    pub same : blocks_cause d bs q two (n - j) j least ≡ blocks_cause d bs q two n 0 11
    pub few : j ≤ n
    pub small : least ≤ 11

  pub walked-begin : (n : ℕ) → Walked n 0 11
  walked-begin n = record {
    same = ap (λ k. blocks_cause d bs q two k 0 11) (let e : n - 0 ≡ n = omega arith in e);
    few = omega arith;
    small = omega arith;
  }

  step : (k j m : ℕ) → 0 < k
      → blocks_cause d bs q two k j m ≡ blocks_cause d bs q two (k - 1) (j + 1) (cause_at d bs q two j m)
  unfolding blocks_cause
  step zero j m h = absurd (omega arith)
  step (suc k) j m h =
      ap₂ (λ a b. blocks_cause d bs q two a b (cause_at d bs q two j m)) (let e : k ≡ suc k - 1 = omega arith in e)
      (let e : suc j ≡ j + 1 = omega arith in e)

  pub walked_more : (n j least r : ℕ) → j < n → r ≡ min least (cause_at d bs q two j 11) → Walked n j least
      → Walked n (j + 1) r
  walked_more n j least r h e w =
      let k : n - (j + 1) ≡ n - j - 1 = omega arith in
      let l = w.small in
      record {
        same = rw (k, e, sym (cause_min d bs q two j least l)) (sym (step (n - j) j least (omega arith)) ∙ w.same);
        few = omega arith;
        small = omega arith;
      }

  pub walked_end : (n j least : ℕ) → n ≤ j → Walked n j least → least ≡ blocks_cause d bs q two n 0 11
  unfolding blocks_cause
  walked_end n j least h w = let f = w.few in
      sym (ap (λ k. blocks_cause d bs q two k j least) (let e : n - j ≡ 0 = omega arith in e)) ∙ w.same
