-- What number 8 asks of a variable, told by three tests that masks can hold: the block's own variables, those that
-- two blocks own, and those that a proper ancestor owns.
--   twice q v        two blocks own v, the one before the other
--   ancestor n q p v block p, or one of the n above it, owns v
use Prim.Native.Nat.{ℕ, zero, suc, ◌<◌, zero-le}
use native.Mathlib.Decide.{ℕ_discrete, dec_lt}
use native.Mathlib.Omega.{arith}
use mathlib.Core.Bool.{Bool, true, false, ◌&&◌, ◌||◌, not}
use mathlib.Core.List.{List, [], ◌∷◌}
use mathlib.Core.Logic.{◌⊎◌, inl, inr}
use mathlib.Core.Path.{◌≡◌, refl, sym, ap₂, ◌∙◌, subst}
use lib.Dec.{T, T_not, not_T, eqb, eqb→eq, eqb_refl}
use lib.ListN.{length, get_or-eq_default}
use Rattle.reader.specs.Causes.{Masks, owned_before, twice_below, ancestor}
use Rattle.model.proofs.Tests.{any_of, of-any, all-at, and_left, and_right, and_both, or_left, or_right, or_cases}
use Rattle.model.proofs.Tests.{in-range, range-in}
use Rattle.model.specs.Lists.{In, all, any, range}
use Rattle.model.specs.Question.{Block, no_block, block_at, in_rows}
use Rattle.model.specs.Scope.{owns, within}
use Rattle.reader.proofs.NumberLaws.{Right}
use Rattle.scope.specs.Masks.{has_bit}
use borrow.Author.Tests.{eq-eqb}

abbrev pub twice : List Block → ℕ → Bool
twice q v = twice_below q (length q) v

same_test : (a b : Bool) → (T a → T b) → (T b → T a) → a ≡ b
same_test true true f g = refl
same_test true false f g = absurd (f tt)
same_test false true f g = absurd (g tt)
same_test false false f g = refl

all_of : (p : ℕ → Bool) (l : List ℕ) → ((i : ℕ) → In i l → T (p i)) → T (all p l)
unfolding all
all_of p [] h = tt
all_of p (i ∷ l) h = and_both (p i) (all p l) (h i (inl refl)) (all_of p l (λ k j. h k (inr j)))

module _ (q : List Block) where
  abbrev alone : ℕ → ℕ → Bool
  alone j v = all (λ i. eqb i j || not (owns v (block_at q i))) (range 0 (length q))

  in-q : (i : ℕ) → i < length q → In i (range 0 (length q))
  in-q i h = in-range 0 (length q) i zero-le (omega arith)

  -- where block j owns v, another owns it too exactly when two do
  pub twice-alone : (j v : ℕ) → j < length q → T (owns v (block_at q j)) → not (twice q v) ≡ alone j v
  unfolding twice_below
  twice-alone j v here o = same_test (not (twice q v)) (alone j v) there back
    where
      there : T (not (twice q v)) → T (alone j v)
      there n = all_of (λ i. eqb i j || not (owns v (block_at q i))) (range 0 (length q)) (λ i k.
          let l = range-in 0 (length q) i k in
          go i (omega arith) (ℕ_discrete i j) (dec_lt i j))
        where
          two : (a b : ℕ) → a < b → b < length q → T (owns v (block_at q a)) → T (owns v (block_at q b)) → ⊥
          two a b l h s t =
              T_not (twice q v) n
              (any_of (λ i. owns v (block_at q i) && owned_before q i v) b (range 0 (length q)) (in-q b h)
              (and_both (owns v (block_at q b)) (owned_before q b v) t
              (any_of (λ k. owns v (block_at q k)) a (range 0 b) (in-range 0 b a zero-le (omega arith)) s)))

          go : (i : ℕ) → i < length q → Dec (i ≡ j) → Dec (i < j) → T (eqb i j || not (owns v (block_at q i)))
          go i h (yes e) d = or_left (eqb i j) _ (subst T (sym (eq-eqb i j e)) tt)
          go i h (no e) (yes d) = or_right (eqb i j) _ (not_T (owns v (block_at q i)) (λ s. two i j d here s o))
          go i h (no e) (no d) = or_right (eqb i j) _ (not_T (owns v (block_at q i)) (λ s. two j i (apart e d) h o s))
            where
              apart : (i ≡ j → ⊥) → (i < j → ⊥) → j < i
              apart e d = omega arith

      back : T (alone j v) → T (not (twice q v))
      back t = not_T (twice q v) (λ s.
          let x = of-any (λ i. owns v (block_at q i) && owned_before q i v) (range 0 (length q)) s in
          let y = of-any (λ k. owns v (block_at q k)) (range 0 x.0)
          (and_right (owns v (block_at q x.0)) (owned_before q x.0 v) x.2) in
          let l = range-in 0 (length q) x.0 x.1 in let m = range-in 0 x.0 y.0 y.1 in
          let e = only x.0 (omega arith) (and_left (owns v (block_at q x.0)) (owned_before q x.0 v) x.2) in
          let f = only y.0 (omega arith) y.2 in omega arith)
        where
          only : (i : ℕ) → i < length q → T (owns v (block_at q i)) → i ≡ j
          only i h s = go (or_cases (eqb i j) (not (owns v (block_at q i)))
              (all-at (λ i. eqb i j || not (owns v (block_at q i))) (range 0 (length q)) i t (in-q i h)))
            where
              go : T (eqb i j) ⊎ T (not (owns v (block_at q i))) → i ≡ j
              go (inl u) = eqb→eq i j u
              go (inr u) = absurd (T_not (owns v (block_at q i)) u s)

  -- a block that is not there owns nothing
  owns-there : (p v : ℕ) → T (owns v (block_at q p)) → p < length q
  unfolding owns in_rows any
  owns-there p v t = go (dec_lt p (length q))
    where
      go : Dec (p < length q) → p < length q
      go (yes h) = h
      go (no h) = absurd (subst (λ (b : Block). T (owns v b)) (get_or-eq_default q no_block (omega arith)) t)

  -- an ancestor within n levels that owns v
  found : (n p v : ℕ) → T (ancestor n q p v) → (a : ℕ) × T (within n q a p) × T (owns v (block_at q a))
  unfolding ancestor within
  found zero p v t = (p, eqb_refl p, t)
  found (suc n) p v t =
      go (or_cases (owns v (block_at q p)) (ancestor n q (block_at q p).parent v) t) (found n (block_at q p).parent v)
    where
      go : T (owns v (block_at q p)) ⊎ T (ancestor n q (block_at q p).parent v)
          → (T (ancestor n q (block_at q p).parent v)
          → (a : ℕ) × T (within n q a (block_at q p).parent) × T (owns v (block_at q a)))
          → (a : ℕ) × T (within (suc n) q a p) × T (owns v (block_at q a))
      go (inl s) r = (p, or_left (eqb p p) _ (eqb_refl p), s)
      go (inr s) r = let x = r s in (x.0, or_right (eqb p x.0) _ x.1, x.2)

  lost : (n p v a : ℕ) → T (within n q a p) → T (owns v (block_at q a)) → T (ancestor n q p v)
  unfolding ancestor within
  lost zero p v a w o = subst (λ k. T (owns v (block_at q k))) (sym (eqb→eq p a w)) o
  lost (suc n) p v a w o =
      go (or_cases (eqb p a) (within n q a (block_at q p).parent) w) (lost n (block_at q p).parent v a)
    where
      go : T (eqb p a) ⊎ T (within n q a (block_at q p).parent)
          → (T (within n q a (block_at q p).parent) → T (owns v (block_at q a))
          → T (ancestor n q (block_at q p).parent v))
          → T (owns v (block_at q p) || ancestor n q (block_at q p).parent v)
      go (inl s) r = or_left (owns v (block_at q p)) _ (subst (λ k. T (owns v (block_at q k))) (sym (eqb→eq p a s)) o)
      go (inr s) r = or_right (owns v (block_at q p)) _ (r s o)

  pub ancestor-is : (n p v : ℕ)
      → ancestor n q p v ≡ any (λ a. within n q a p && owns v (block_at q a)) (range 0 (length q))
  ancestor-is n p v =
      same_test (ancestor n q p v) (any (λ a. within n q a p && owns v (block_at q a)) (range 0 (length q)))
      (λ t.
      let x = found n p v t in
      any_of (λ a. within n q a p && owns v (block_at q a)) x.0 (range 0 (length q))
      (in-q x.0 (owns-there x.0 v x.2))
      (and_both (within n q x.0 p) (owns v (block_at q x.0)) x.1 x.2))
      (λ t.
      let x = of-any (λ a. within n q a p && owns v (block_at q a)) (range 0 (length q)) t in
      lost n p v x.0 (and_left (within n q x.0 p) (owns v (block_at q x.0)) x.2)
      (and_right (within n q x.0 p) (owns v (block_at q x.0)) x.2))

-- so masks that hold these three tests are right
pub right_masks : (q : List Block) (j : ℕ) (x : Masks) → j < length q
    → ((v : ℕ) → v < 16 → has_bit x.own v ≡ owns v (block_at q j))
    → ((v : ℕ) → v < 16 → has_bit x.twice v ≡ twice q v)
    → ((v : ℕ) → v < 16 → has_bit x.above v ≡ ancestor 5 q (block_at q j).parent v)
    → Right q j x
right_masks q j x here own two above =
    record {
      own = λ v l. ap₂ (λ a b. a && not b) (own v l) (two v l) ∙ by-own v (owns v (block_at q j)) refl;
      above = λ v l. above v l ∙ ancestor-is q 5 (block_at q j).parent v;
    }
  where
    by-own : (v : ℕ) (t : Bool) → owns v (block_at q j) ≡ t → t && not (twice q v) ≡ t && alone q j v
    by-own v true e = twice-alone q j v here (subst T (sym e) tt)
    by-own v false e = refl
