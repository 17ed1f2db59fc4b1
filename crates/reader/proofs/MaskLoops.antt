-- One turn of the loops that gather masks, and the place of a block.
use Prim.Native.Nat.{ℕ, zero, suc, ◌+◌, ◌-◌, ◌≤◌, ◌<◌}
use native.Mathlib.Omega.{arith}
use mathlib.Core.Bool.{Bool, true, false, ◌&&◌, ◌||◌, cond}
use mathlib.Core.List.{List, [], ◌∷◌}
use mathlib.Core.Path.{◌≡◌, refl, sym, ap, ap₂, ◌∙◌}
use lib.Bits.{bit_or, bit_and, or_zero_r, or_zero_l}
use lib.Dec.{eqb, ltb, leb}
use Rattle.reader.specs.Causes.{owned_before, twice_below, ancestor, place_cause}
use Rattle.model.proofs.ListEquations.{range_last, any_append}
use Rattle.model.specs.Checks.{placed}
use Rattle.model.specs.Lists.{any, range}
use Rattle.model.specs.Question.{block_at}
use Rattle.model.specs.Scope.{owns, level_of}
use Rattle.scope.proofs.MaskLaws.{mask_same, mask_none, mask_or, mask_and}
use Rattle.scope.specs.Masks.{mask_of}
use Rattle.syntax.specs.Described.{described}
use Rattle.syntax.specs.declared.Block.{Block}
use Rattle.model.specs.Question as model

any_last : (f : ℕ → Bool) (n : ℕ) → any f (range 0 (suc n)) ≡ any f (range 0 n) || f n
unfolding any
any_last f n =
    ap (any f) (range_last 0 n) ∙ any_append f (range 0 n) ((0 + n) ∷ [])
    ∙ ap (λ t. any f (range 0 n) || t) (or-false (f (0 + n)) ∙ ap f (let e : 0 + n ≡ n = omega arith in e))
  where
    or-false : (b : Bool) → b || false ≡ b
    or-false true = refl
    or-false false = refl

and_swap : (a b : Bool) → a && b ≡ b && a
and_swap true true = refl
and_swap true false = refl
and_swap false true = refl
and_swap false false = refl

module _ (q : List model.Block) where
  -- the first k blocks are seen
  pub record Seen (n k seen twice : ℕ) : Type 0 where
    pub seen-is : seen ≡ mask_of (owned_before q k)
    pub twice-is : twice ≡ mask_of (twice_below q k)
    pub few : k ≤ n

  pub seen_none : (n : ℕ) → Seen n 0 0 0
  unfolding twice_below any range
  seen_none n = record { seen-is = sym mask_none; twice-is = sym mask_none; few = omega arith }

  pub seen_more : (n k seen twice own : ℕ) → k < n → own ≡ mask_of (λ v. owns v (block_at q k)) → Seen n k seen twice
      → Seen n (k + 1) (bit_or seen own) (bit_or twice (bit_and seen own))
  unfolding twice_below
  seen_more n k seen twice own h e s =
      let p : k + 1 ≡ suc k = omega arith in
      record {
        seen-is = ap₂ bit_or s.seen-is e ∙ mask_or (owned_before q k) (λ v. owns v (block_at q k))
            ∙ mask_same _ _
            (λ v l.
            sym (ap (λ m. any (λ i. owns v (block_at q i)) (range 0 m)) p
            ∙ any_last (λ i. owns v (block_at q i)) k));
        twice-is =
            ap₂ bit_or s.twice-is (ap₂ bit_and s.seen-is e ∙ mask_and (owned_before q k) (λ v. owns v (block_at q k)))
            ∙ mask_or (twice_below q k) (λ v. owned_before q k v && owns v (block_at q k))
            ∙ mask_same _ _ (λ v l.
            ap (λ t. twice_below q k v || t) (and_swap (owned_before q k v) (owns v (block_at q k)))
            ∙ sym (ap (λ m. any (λ i. owns v (block_at q i) && owned_before q i v) (range 0 m)) p
            ∙ any_last (λ i. owns v (block_at q i) && owned_before q i v) k));
        few = omega arith;
      }

  pub seen_all : (n k seen twice : ℕ) → n ≤ k → Seen n k seen twice → twice ≡ mask_of (twice_below q n)
  seen_all n k seen twice h s = let f = s.few in
      s.twice-is ∙ ap (λ m. mask_of (twice_below q m)) (let e : k ≡ n = omega arith in e)

  -- the chain of ancestors from p on, `left` of them to come
  abbrev pub to_come : ℕ → ℕ → ℕ → Bool
  to_come zero p v = false
  to_come (suc n) p v = ancestor n q p v

  pub record Climbed (whole left p mask : ℕ) : Type 0 where
    pub rest : bit_or mask (mask_of (to_come left p)) ≡ whole

  pub climb-begin : (p : ℕ) → Climbed (mask_of (ancestor 5 q p)) 6 p 0
  climb-begin p = record { rest = or_zero_l (mask_of (ancestor 5 q p)) }

  come-step : (n p v : ℕ) → to_come (suc n) p v ≡ owns v (block_at q p) || to_come n (block_at q p).parent v
  unfolding ancestor
  come-step zero p v = sym (or-false (owns v (block_at q p)))
    where
      or-false : (b : Bool) → b || false ≡ b
      or-false true = refl
      or-false false = refl
  come-step (suc n) p v = refl

  or-assoc-mask : (m : ℕ) (f g : ℕ → Bool) (w : ℕ → Bool) → m ≡ mask_of w
      → bit_or (bit_or m (mask_of f)) (mask_of g) ≡ bit_or m (mask_of (λ v. f v || g v))
  or-assoc-mask m f g w e =
      rw e
      (ap (λ t. bit_or t (mask_of g)) (mask_or w f) ∙ mask_or (λ v. w v || f v) g
      ∙ mask_same _ _ (λ v l. assoc (w v) (f v) (g v)) ∙ sym (mask_or w (λ v. f v || g v)))
    where
      assoc : (a b c : Bool) → (a || b) || c ≡ a || (b || c)
      assoc true b c = refl
      assoc false b c = refl

  -- every mask is that of some test
  pub record IsMask (m : ℕ) : Type 0 where
    pub test : ℕ → Bool
    pub is : m ≡ mask_of test

  pub record Climbing (whole left p mask : ℕ) : Type 0 where
    pub mask_is : IsMask mask
    pub climbed : Climbed whole left p mask

  pub climbing-begin : (p : ℕ) → Climbing (mask_of (ancestor 5 q p)) 6 p 0
  climbing-begin p = record { mask_is = record { test = λ v. false; is = sym mask_none }; climbed = climb-begin p }

  pub climbing-more : (whole left p mask own up : ℕ) → 0 < left → own ≡ mask_of (λ v. owns v (block_at q p))
      → up ≡ (block_at q p).parent
      → Climbing whole left p mask → Climbing whole (left - 1) up (bit_or mask own)
  climbing-more whole zero p mask own up h e f c = absurd (omega arith)
  climbing-more whole (suc n) p mask own up h e f c =
      let z : suc n - 1 ≡ n = omega arith in
      let i = c.mask_is in
      record {
        mask_is = record {
          test = λ v. i.test v || owns v (block_at q p);
          is = ap₂ bit_or i.is e ∙ mask_or i.test (λ v. owns v (block_at q p));
        };
        climbed = record {
          rest = rw (z, e, f)
              (or-assoc-mask mask (λ v. owns v (block_at q p)) (to_come n (block_at q p).parent) i.test i.is
              ∙ ap (bit_or mask) (mask_same _ _ (λ v l. sym (come-step n p v))) ∙ c.climbed.rest);
        };
      }

  pub climbing-end : (whole left p mask : ℕ) → left ≤ 0 → Climbing whole left p mask → mask ≡ whole
  climbing-end whole zero p mask h c =
      sym (or_zero_r mask) ∙ ap (bit_or mask) (sym mask_none) ∙ c.climbed.rest
  climbing-end whole (suc n) p mask h c = absurd (omega arith)

  -- the place of a block
  pub place-root : (p r j : ℕ) → j ≡ 0 → p ≡ (block_at q j).parent → r ≡ cond (eqb p 255) 11 7 → r ≡ place_cause q j
  unfolding place_cause placed
  place-root p r zero z e f = f ∙ rw e refl
  place-root p r (suc j) z e f = absurd (omega arith)

  pub place-child : (p l r j : ℕ) → (j ≡ 0 → ⊥) → p ≡ (block_at q j).parent → l ≡ level_of 5 q j
      → r ≡ cond (ltb p j && leb l 4) 11 7 → r ≡ place_cause q j
  unfolding place_cause placed
  place-child p l r zero z e f g = absurd (z refl)
  place-child p l r (suc j) z e f g = g ∙ rw (e, f) refl

-- a description's block has its parent and its own variables
pub parent_is : (bs : List ℕ) (b : Block) (m : model.Block) → described bs b ≡ m → b.parent ≡ m.parent
unfolding described
parent_is bs b m e = ap (λ (x : model.Block). x.parent) e

pub own_is : (bs : List ℕ) (b : Block) (m : model.Block) (r : ℕ) → described bs b ≡ m
    → r ≡ mask_of (λ v. owns v (described bs b))
    → r ≡ mask_of (λ v. owns v m)
own_is bs b m r e f = f ∙ ap (λ (x : model.Block). mask_of (λ v. owns v x)) e
