-- The blocks of a question by their numbers, their levels and their output columns.
use Prim.Native.Nat.{ℕ, zero, suc, ◌+◌, ◌*◌, ◌-◌, ◌≤◌, ◌<◌}
use native.Mathlib.Omega.{arith}
use mathlib.Core.Bool.{Bool, true, false, ◌&&◌}
use mathlib.Core.List.{List, [], ◌∷◌}
use mathlib.Core.Logic.{◌⊎◌, inl, inr}
use mathlib.Core.Path.{◌≡◌, refl, sym, ap, ◌∙◌}
use lib.Dec.{ltb}
use lib.ListN.{length, get_or, take, length-take, get_or-eq_default, get_or-map}
use lib.Seq.{get_or-take}
use borrow.Author.Tests.{ltb-true, ltb-false}
use Rattle.model.specs.Question.{empty, block_at}
use Rattle.model.specs.Question as model
use Rattle.model.specs.Scope.{level_of}
use Rattle.model.proofs.CheckEquations.{level_of-spent, level_of-root, level_of_below}
use Rattle.syntax.specs.Described.{element_at, elements_at, relations_at, conditions_at, described, blocks_in}
use Rattle.syntax.specs.Places.{item_at}
use Rattle.syntax.specs.declared.Block.{Block}
use Rattle.syntax.specs.declared.Item.{Item}
use Rattle.syntax.specs.declared.Question.{Question}
use Rattle.syntax.proofs.Laws.{byte_past, both}
use Rattle.scope.specs.Columns.{element_of, absent_block}

-- a test of two that fails
either : (a b : Bool) → a && b ≡ false → (a ≡ false) ⊎ (b ≡ false)
either true b e = inr e
either false b e = inl refl

get_d_inside : {A : Type 0} (l : List A) (k : ℕ) (a b : A) → k < length l → get_or l k a ≡ get_or l k b
get_d_inside [] k a b h = absurd (omega arith)
get_d_inside (x ∷ xs) zero a b h = refl
get_d_inside (x ∷ xs) (suc k) a b h = get_d_inside xs k a b (omega arith)

-- ---- blocks by number
module _ (bs : List ℕ) (q : Question) where
  pub block_is : (k : ℕ) → block_at (blocks_in bs q) k ≡ described bs (get_or (take q.count q.blocks) k absent_block)
  unfolding blocks_in described relations_at conditions_at elements_at
  block_is k = get_or-map (described bs) (take q.count q.blocks) k absent_block

  pub block_past : (k : ℕ) → (q.count ≤ k) ⊎ (length q.blocks ≤ k)
      → described bs absent_block ≡ block_at (blocks_in bs q) k
  block_past k h =
      sym
      (block_is k
      ∙ ap (described bs) (get_or-eq_default (take q.count q.blocks) absent_block (short h)))
    where
      short : (q.count ≤ k) ⊎ (length q.blocks ≤ k) → length (take q.count q.blocks) ≤ k
      short (inl g) = rw length-take (omega arith)
      short (inr g) = rw length-take (omega arith)

  pub block-there : (k : ℕ) (z : Block) → k < q.count → k < length q.blocks
      → described bs (get_or q.blocks k z) ≡ block_at (blocks_in bs q) k
  block-there k z h g =
      sym
      (block_is k
      ∙ ap (described bs)
      (get_or-take q.count q.blocks k absent_block h ∙ get_d_inside q.blocks k absent_block z g))

  module _ (k n : ℕ) (five : length q.blocks ≡ 5) (k-is : k ≡ n) where
    pub block-found : (z : Block) → ltb k q.count && ltb k 5 ≡ true
        → described bs (get_or q.blocks k z) ≡ block_at (blocks_in bs q) n
    block-found z e =
        let b = both (ltb k q.count) (ltb k 5) e in
        let h = ltb-true k q.count b.0 in
        let g = ltb-true k 5 b.1 in
        block-there k z h (omega arith) ∙ ap (block_at (blocks_in bs q)) k-is

    pub block-missing : (b : Block) → b ≡ absent_block → ltb k q.count && ltb k 5 ≡ false
        → described bs b ≡ block_at (blocks_in bs q) n
    block-missing b b-is e =
        ap (described bs) b-is
        ∙ block_past k (past (either (ltb k q.count) (ltb k 5) e))
        ∙ ap (block_at (blocks_in bs q)) k-is
      where
        past : (ltb k q.count ≡ false) ⊎ (ltb k 5 ≡ false) → (q.count ≤ k) ⊎ (length q.blocks ≤ k)
        past (inl f) = inl (ltb-false k q.count f)
        past (inr f) = inr (let g = ltb-false k 5 f in omega arith)

-- ---- levels: n levels are counted, and the block at is reached
module _ (bs : List ℕ) (q : Question) (n at whole : ℕ) where
  pub level-turn : (steps : ℕ) (b : Block) → 0 < steps → 0 < at → described bs b ≡ block_at (blocks_in bs q) at
      → n + level_of steps (blocks_in bs q) at ≡ whole → n + 1 + level_of (steps - 1) (blocks_in bs q) b.parent ≡ whole
  unfolding described
  level-turn steps b h g e p = go steps at h g (ap (λ (x : model.Block). x.parent) e) p
    where
      go : (s a : ℕ) → 0 < s → 0 < a → b.parent ≡ (block_at (blocks_in bs q) a).parent
          → n + level_of s (blocks_in bs q) a ≡ whole → n + 1 + level_of (s - 1) (blocks_in bs q) b.parent ≡ whole
      go zero a h g e p = absurd (omega arith)
      go (suc s) zero h g e p = absurd (omega arith)
      go (suc s) (suc a) h g e p =
          let d : suc s - 1 ≡ s = omega arith in
          let f = level_of_below s (blocks_in bs q) a in
          rw (d, e) (omega arith)

  pub level-stop : (steps : ℕ) → (steps ≡ 0) ⊎ (at ≤ 0) → n + level_of steps (blocks_in bs q) at ≡ 1 + whole → n ≡ whole
  level-stop steps (inl h) p =
      let f : level_of steps (blocks_in bs q) at ≡ 1 = rw h (level_of-spent (blocks_in bs q) at) in
      omega arith
  level-stop steps (inr h) p = let f = root steps at h in omega arith
    where
      root : (s a : ℕ) → a ≤ 0 → level_of s (blocks_in bs q) a ≡ 1
      root zero a h = level_of-spent (blocks_in bs q) a
      root (suc s) zero h = level_of-root s (blocks_in bs q)
      root (suc s) (suc a) h = absurd (omega arith)

-- ---- output columns
module _ (bs : List ℕ) where
  pub element-past : (i : ℕ) → length bs ≤ i → element_at bs i ≡ empty
  unfolding element_at
  element-past i h = rw (sym (byte_past bs i h))

  pub column-is : (n i c : ℕ) → c < n → get_or (elements_at bs n i) c empty ≡ element_at bs (i + 9 * c)
  unfolding elements_at
  column-is zero i c h = absurd (omega arith)
  column-is (suc n) i zero h = let e : i + 9 * 0 ≡ i = omega arith in ap (element_at bs) (sym e)
  column-is (suc n) i (suc c) h =
      let e : i + 9 + 9 * c ≡ i + 9 * suc c = omega arith in
      column-is n (i + 9) c (omega arith) ∙ ap (element_at bs) e

  pub column-past : (n i c : ℕ) → length bs ≤ i → get_or (elements_at bs n i) c empty ≡ empty
  unfolding elements_at
  column-past zero i c h = refl
  column-past (suc n) i zero h = element-past i h
  column-past (suc n) i (suc c) h = column-past n (i + 9) c (omega arith)

  pub column-none : (n i c : ℕ) → n ≤ c → get_or (elements_at bs n i) c empty ≡ empty
  unfolding elements_at
  column-none zero i c h = refl
  column-none (suc n) i zero h = absurd (omega arith)
  column-none (suc n) i (suc c) h = column-none n (i + 9) c (omega arith)

module _ (bs : List ℕ) (m : model.Block) (b : Block) (m-is : described bs b ≡ m) (c n : ℕ) (c-is : c ≡ n) where
  pub output-found : (e : Item) → ltb c b.outputs && ltb b.outputs_at (length bs) ≡ true
      → e ≡ item_at bs (b.outputs_at + 9 * c) → element_of e ≡ get_or m.outputs n empty
  unfolding described element_at
  output-found e t e-is =
      ap element_of e-is
      ∙ sym (column-is bs b.outputs b.outputs_at c (ltb-true c b.outputs (both _ _ t).0))
      ∙ ap (λ (x : model.Block). get_or x.outputs c empty) m-is
      ∙ ap (λ x. get_or m.outputs x empty) c-is

  pub output-missing : (e : Item) → ltb c b.outputs && ltb b.outputs_at (length bs) ≡ false
      → e ≡ item_at bs (length bs) → element_of e ≡ get_or m.outputs n empty
  unfolding described element_at
  output-missing e t e-is =
      ap element_of e-is
      ∙ element-past bs (length bs) (omega arith)
      ∙ sym (none (either (ltb c b.outputs) (ltb b.outputs_at (length bs)) t))
      ∙ ap (λ (x : model.Block). get_or x.outputs c empty) m-is
      ∙ ap (λ x. get_or m.outputs x empty) c-is
    where
      none : (ltb c b.outputs ≡ false) ⊎ (ltb b.outputs_at (length bs) ≡ false)
          → get_or (elements_at bs b.outputs b.outputs_at) c empty ≡ empty
      none (inl f) = column-none bs b.outputs b.outputs_at c (ltb-false c b.outputs f)
      none (inr f) = column-past bs b.outputs b.outputs_at c (ltb-false b.outputs_at (length bs) f)
