-- The walk over all blocks finds the model's lowest number from 7 to 10, where the masks are right.
use Prim.Native.Nat.{ℕ, zero, suc, ◌<◌}
use native.Mathlib.Omega.{arith}
use mathlib.Core.Bool.{Bool, true, false, ◌&&◌, cond}
use mathlib.Core.List.{List, [], ◌∷◌, ◌++◌}
use mathlib.Core.Logic.{inl, inr}
use mathlib.Core.Path.{◌≡◌, refl, sym, ap, ap₂, ◌∙◌, subst}
use lib.Dec.{T, eqb, ltb→lt}
use lib.IntN.{ℤ}
use lib.ListN.{length}
use Rattle.reader.specs.Causes.{cause_by, Masks, bound_by, blocks_lowest}
use Rattle.model.proofs.RefusalLaws.{first_stops}
use Rattle.model.proofs.Tests.{and_left, and_right, range-in}
use Rattle.model.specs.Checks.{element_there, element_bound, sums_whole, constant_fits, block_there, all_there, block_bound}
use Rattle.model.specs.Checks.{all_bound}
use Rattle.model.specs.Lists.{In, all, range, concat_map}
use Rattle.model.specs.Question.{Element, empty, constant, variable, fixed, aggregate, Block, block_at, elements}
use Rattle.model.specs.Refusal.{first_of}
use Rattle.reader.proofs.CauseLaws.{Tests, cause, join, block_tests, block-tests}

and_assoc : (a b c : Bool) → (a && b) && c ≡ a && (b && c)
and_assoc true b c = refl
and_assoc false b c = refl

and-true : (a : Bool) → a && true ≡ a
and-true true = refl
and-true false = refl

tests_path : (a b c d a' b' c' d' : Bool) → a ≡ a' → b ≡ b' → c ≡ c' → d ≡ d'
    → ◌≡◌ {A = Tests} (record { there = a; bound = b; sums = c; fits = d })
    (record { there = a'; bound = b'; sums = c'; fits = d' })
tests_path a b c d a' b' c' d' e f g h = λ i. record { there = e i; bound = f i; sums = g i; fits = h i }

module _ (d : List ℤ) (q : List Block) (xs : ℕ → Masks) where
  abbrev bound_in : ℕ → Bool
  bound_in j = all (bound_by (xs j)) (elements (block_at q j))

  abbrev each_in : (Element → Bool) → ℕ → Bool
  each_in p j = all p (elements (block_at q j))

  abbrev tests_from : ℕ → ℕ → Tests
  tests_from n j =
      record {
        there = all (block_there d q) (range j n);
        bound = all bound_in (range j n);
        sums = all (each_in (sums_whole q)) (range j n);
        fits = all (each_in constant_fits) (range j n);
      }

  blocks-tests : (n j : ℕ) (s : Tests) → blocks_lowest d q xs n j (cause s) ≡ cause (join s (tests_from n j))
  unfolding blocks_lowest range all
  blocks-tests zero j s =
      ap cause (tests_path _ _ _ _ _ _ _ _ (sym (and-true s.there)) (sym (and-true s.bound))
      (sym (and-true s.sums)) (sym (and-true s.fits)))
  blocks-tests (suc n) j s =
      let t = block_tests q j (xs j) d in
      ap (blocks_lowest d q xs n (suc j)) (block-tests q j (xs j) d s)
      ∙ blocks-tests n (suc j) (join s t)
      ∙ ap cause (tests_path _ _ _ _ _ _ _ _
      (and_assoc s.there t.there (all (block_there d q) (range (suc j) n)))
      (and_assoc s.bound t.bound (all bound_in (range (suc j) n)))
      (and_assoc s.sums t.sums (all (each_in (sums_whole q)) (range (suc j) n)))
      (and_assoc s.fits t.fits (all (each_in constant_fits) (range (suc j) n))))

-- a test of every element, block by block or all together
all_append : {A : Type 0} (p : A → Bool) (l r : List A) → all p (l ++ r) ≡ all p l && all p r
unfolding all
all_append p [] r = refl
all_append p (e ∷ l) r = ap (λ t. p e && t) (all_append p l r) ∙ sym (and_assoc (p e) (all p l) (all p r))

all_shift : (g : ℕ → Bool) (h : ℕ → Bool) (j n : ℕ) → ((i : ℕ) → g (suc i) ≡ h i)
    → all g (range (suc j) n) ≡ all h (range j n)
unfolding all range
all_shift g h j zero e = refl
all_shift g h j (suc n) e = ap₂ ◌&&◌ (e j) (all_shift g h (suc j) n e)

pub together : (p : Element → Bool) (q : List Block)
    → all (λ j. all p (elements (block_at q j))) (range 0 (length q)) ≡ all p (concat_map elements q)
unfolding all range concat_map
together p [] = refl
together p (b ∷ q) =
    ap (λ t. all p (elements b) && t)
    (all_shift (λ j. all p (elements (block_at (b ∷ q) j))) (λ j. all p (elements (block_at q j))) 0 (length q)
    (λ i. refl) ∙ together p q)
    ∙ sym (all_append p (elements b) (concat_map elements q))

-- the masks of a block are right: they tell what number 8 asks
pub record Right (q : List Block) (j : ℕ) (x : Masks) : Type 0 where
  pub own : (v : ℕ) → v < 16 → bound_by x (variable v) ≡ element_bound q j (variable v)
  pub above : (v : ℕ) → v < 16 → bound_by x (fixed v) ≡ element_bound q j (fixed v)

bound_same : (q : List Block) (j : ℕ) (x : Masks) → Right q j x → (e : Element) → T (element_there q j e)
    → bound_by x e ≡ element_bound q j e
bound_same q j x r empty t = refl
bound_same q j x r (constant k) t = refl
bound_same q j x r (variable v) t = r.own v (ltb→lt v 16 t)
bound_same q j x r (fixed v) t = r.above v (ltb→lt v 16 t)
bound_same q j x r (aggregate f k c) t = refl

all_same : {A : Type 0} (p g h : A → Bool) (l : List A) → T (all p l) → ((a : A) → In a l → T (p a) → g a ≡ h a)
    → all g l ≡ all h l
unfolding all
all_same p g h [] t e = refl
all_same p g h (a ∷ l) t e =
    ap₂ ◌&&◌ (e a (inl refl) (and_left (p a) (all p l) t))
    (all_same p g h l (and_right (p a) (all p l) t) (λ b i s. e b (inr i) s))

module _ (d : List ℤ) (q : List Block) (xs : ℕ → Masks) (right : (j : ℕ) → j < length q → Right q j (xs j)) where
  elements-there : (j : ℕ) → T (block_there d q j) → T (all (element_there q j) (elements (block_at q j)))
  unfolding block_there
  elements-there j t = search (and_left, and_right)

  bound-is : T (all_there d q) → all (bound_in d q xs) (range 0 (length q)) ≡ all_bound q
  unfolding all_there all_bound block_bound block_there
  bound-is t =
      all_same (block_there d q) (bound_in d q xs) (block_bound q) (range 0 (length q)) t (λ j i s.
      all_same (element_there q j) (bound_by (xs j)) (element_bound q j) (elements (block_at q j)) (elements-there j s)
      (λ e k u. bound_same q j (xs j) (right j (omega (arith, range-in 0 (length q) j i))) e u))

  -- the number of the least cause found
  abbrev pub number_of : ℕ → ℕ
  number_of m = cond (eqb m 11) 0 m

  first-is : (a b c e : Bool) → number_of (cause_by a b c e) ≡ first_of ((7, a) ∷ (8, b) ∷ (9, c) ∷ (10, e) ∷ [])
  unfolding first_of
  first-is true true true true = refl
  first-is true true true false = refl
  first-is true true false e = refl
  first-is true false c e = refl
  first-is false b c e = refl

  pub number_is : number_of (blocks_lowest d q xs (length q) 0 11)
      ≡ first_of ((7, all_there d q) ∷ (8, all_bound q) ∷ (9, all (sums_whole q) (concat_map elements q))
      ∷ (10, all constant_fits (concat_map elements q)) ∷ [])
  unfolding all_there
  number_is =
      ap number_of (blocks-tests d q xs (length q) 0 (record { there = true; bound = true; sums = true; fits = true }))
      ∙ first-is (all_there d q) (all (bound_in d q xs) (range 0 (length q))) _ _
      ∙ by-there (all_there d q) refl
    where
      s : Bool
      s = all (λ j. all (sums_whole q) (elements (block_at q j))) (range 0 (length q))

      c : Bool
      c = all (λ j. all constant_fits (elements (block_at q j))) (range 0 (length q))

      by-there : (t : Bool) → all_there d q ≡ t
          → first_of ((7, t) ∷ (8, all (bound_in d q xs) (range 0 (length q))) ∷ (9, s) ∷ (10, c) ∷ [])
          ≡ first_of ((7, t) ∷ (8, all_bound q) ∷ (9, all (sums_whole q) (concat_map elements q))
          ∷ (10, all constant_fits (concat_map elements q)) ∷ [])
      by-there true e =
          rw (bound-is (subst T (sym e) tt), together (sums_whole q) q, together constant_fits q) refl
      by-there false e = first_stops 7 _ ∙ sym (first_stops 7 _)
