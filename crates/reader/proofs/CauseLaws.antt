-- One walk that takes the least cause finds the first of the tests 7, 8, 9, 10 that fails somewhere.
use Prim.Native.Nat.{ℕ, ◌≤◌, min}
use native.Mathlib.Nat.{min-eq_left}
use native.Mathlib.Omega.{arith}
use mathlib.Core.Bool.{Bool, true, false, ◌&&◌}
use mathlib.Core.List.{List, [], ◌∷◌, ◌++◌}
use mathlib.Core.Path.{◌≡◌, refl, sym, ap, ◌∙◌}
use lib.IntN.{ℤ}
use Rattle.reader.specs.Causes.{cause_by, lowest, Masks, bound_by, cause_of, row_there, row_cause, rows_lowest}
use Rattle.reader.specs.Causes.{place_cause, block_lowest}
use Rattle.model.specs.Checks.{placed, element_there, sums_whole, constant_fits, block_there}
use Rattle.model.specs.Lists.{all, concat_map}
use Rattle.model.specs.Question.{Element, RelationRow, Block, block_at, row_elements, other_elements, elements}

-- four tests, as found so far
pub record Tests : Type 0 where
  pub there : Bool
  pub bound : Bool
  pub sums : Bool
  pub fits : Bool

abbrev pub cause : Tests → ℕ
cause t = cause_by t.there t.bound t.sums t.fits

abbrev pub join : Tests → Tests → Tests
join s t =
    record {
      there = s.there && t.there;
      bound = s.bound && t.bound;
      sums = s.sums && t.sums;
      fits =
          s.fits && t.fits;
    }

at_least : (a b c d : Bool) → 7 ≤ cause_by a b c d
at_least true true true true = omega arith
at_least true true true false = omega arith
at_least true true false d = omega arith
at_least true false c d = omega arith
at_least false b c d = omega arith

-- the least of two first failures is the first failure of both
pub min_cause : (a b c d a' b' c' d' : Bool)
    → min (cause_by a b c d) (cause_by a' b' c' d') ≡ cause_by (a && a') (b && b') (c && c') (d && d')
min_cause true true true true true true true true = refl
min_cause true true true true true true true false = refl
min_cause true true true true true true false d' = refl
min_cause true true true true true false c' d' = refl
min_cause true true true true false b' c' d' = refl
min_cause true true true false true true true true = refl
min_cause true true true false true true true false = refl
min_cause true true true false true true false d' = refl
min_cause true true true false true false c' d' = refl
min_cause true true true false false b' c' d' = refl
min_cause true true false d true true true true = refl
min_cause true true false d true true true false = refl
min_cause true true false d true true false d' = refl
min_cause true true false d true false c' d' = refl
min_cause true true false d false b' c' d' = refl
min_cause true false c d true true true true = refl
min_cause true false c d true true true false = refl
min_cause true false c d true true false d' = refl
min_cause true false c d true false c' d' = refl
min_cause true false c d false b' c' d' = refl
min_cause false b c d a' b' c' d' = min-eq_left (at_least a' b' c' d')

pub min-causes : (s t : Tests) → min (cause s) (cause t) ≡ cause (join s t)
min-causes s t =
    min_cause s.there s.bound s.sums s.fits t.there t.bound t.sums t.fits

module _ (q : List Block) (j : ℕ) (x : Masks) where
  -- the tests of one element, and of all of a list
  abbrev pub tests_of : Element → Tests
  tests_of e = record { there = element_there q j e; bound = bound_by x e; sums = sums_whole q e; fits = constant_fits e }

  abbrev pub tests_all : List Element → Tests
  tests_all es =
      record {
        there = all (element_there q j) es;
        bound = all (bound_by x) es;
        sums = all (sums_whole q) es;
        fits =
            all constant_fits es;
      }

  and_assoc : (a b c : Bool) → (a && b) && c ≡ a && (b && c)
  and_assoc true b c = refl
  and_assoc false b c = refl

  and-true : (a : Bool) → a ≡ a && true
  and-true true = refl
  and-true false = refl

  tests_path : (a b c d a' b' c' d' : Bool) → a ≡ a' → b ≡ b' → c ≡ c' → d ≡ d'
      → ◌≡◌ {A = Tests} (record { there = a; bound = b; sums = c; fits = d })
      (record { there = a'; bound = b'; sums = c'; fits = d' })
  tests_path a b c d a' b' c' d' e f g h = λ i. record { there = e i; bound = f i; sums = g i; fits = h i }

  join-assoc : (s t u : Tests) → join (join s t) u ≡ join s (join t u)
  join-assoc s t u =
      tests_path _ _ _ _ _ _ _ _ (and_assoc s.there t.there u.there)
      (and_assoc s.bound t.bound u.bound)
      (and_assoc s.sums t.sums u.sums) (and_assoc s.fits t.fits u.fits)

  pub lowest-tests : (es : List Element) (s : Tests)
      → lowest (cause_of q j x) es (cause s) ≡ cause (join s (tests_all es))
  unfolding lowest cause_of all
  lowest-tests [] s =
      ap cause (tests_path _ _ _ _ _ _ _ _ (and-true s.there) (and-true s.bound) (and-true s.sums)
      (and-true s.fits))
  lowest-tests (e ∷ es) s =
      ap (lowest (cause_of q j x) es) (min-causes s (tests_of e))
      ∙ lowest-tests es (join s (tests_of e))
      ∙ ap cause (join-assoc s (tests_of e) (tests_all es))

  -- a relation row: the row itself, then its entries
  abbrev row_tests : List ℤ → RelationRow → Tests
  row_tests d w = record { there = row_there d w; bound = true; sums = true; fits = true }

  unfoldable pub rows_tests : List ℤ → List RelationRow → Tests
  rows_tests d [] = record { there = true; bound = true; sums = true; fits = true }
  rows_tests d (w ∷ ws) = join (join (row_tests d w) (tests_all w.entries)) (rows_tests d ws)

  row-cause : (d : List ℤ) (w : RelationRow) → row_cause d w ≡ cause (row_tests d w)
  unfolding row_cause
  row-cause d w = refl

  pub rows-tests : (d : List ℤ) (ws : List RelationRow) (s : Tests)
      → rows_lowest d q j x ws (cause s) ≡ cause (join s (rows_tests d ws))
  unfolding rows_lowest rows_tests
  rows-tests d [] s =
      ap cause (tests_path _ _ _ _ _ _ _ _ (and-true s.there) (and-true s.bound) (and-true s.sums)
      (and-true s.fits))
  rows-tests d (w ∷ ws) s =
      let r = row_tests d w in let t = tests_all w.entries in
      ap (λ m. rows_lowest d q j x ws (lowest (cause_of q j x) w.entries m))
      (ap (min (cause s)) (row-cause d w) ∙ min-causes s r)
      ∙ ap (rows_lowest d q j x ws) (lowest-tests w.entries (join s r))
      ∙ rows-tests d ws (join (join s r) t)
      ∙ ap cause (ap (λ u. join u (rows_tests d ws)) (join-assoc s r t) ∙ join-assoc s (join r t) (rows_tests d ws))

  -- of all rows together
  all_append : (p : Element → Bool) (l r : List Element) → all p (l ++ r) ≡ all p l && all p r
  unfolding all
  all_append p [] r = refl
  all_append p (e ∷ l) r = ap (λ t. p e && t) (all_append p l r) ∙ sym (and_assoc (p e) (all p l) (all p r))

  swap : (a b c d : Bool) → (a && b) && (c && d) ≡ (a && c) && (b && d)
  swap true true c d = refl
  swap true false true d = refl
  swap true false false d = refl
  swap false b c d = refl

  abbrev entries_of : List RelationRow → List Element
  entries_of ws = concat_map (λ (w : RelationRow). w.entries) ws

  rows_are : (d : List ℤ) (ws : List RelationRow)
      → rows_tests d ws
      ≡ record {
        there = all (row_there d) ws && all (element_there q j) (entries_of ws);
        bound =
            all (bound_by x) (entries_of ws);
        sums = all (sums_whole q) (entries_of ws);
        fits = all constant_fits (entries_of ws);
      }
  unfolding rows_tests all concat_map
  rows_are d [] = refl
  rows_are d (w ∷ ws) =
      ap (λ t. join (join (row_tests d w) (tests_all w.entries)) t) (rows_are d ws)
      ∙ tests_path _ _ _ _ _ _ _ _
      (swap (row_there d w) (all (element_there q j) w.entries) (all (row_there d) ws)
      (all (element_there q j) (entries_of ws))
      ∙ ap (λ t. (row_there d w && all (row_there d) ws) && t)
      (sym (all_append (element_there q j) w.entries (entries_of ws))))
      (sym (all_append (bound_by x) w.entries (entries_of ws)))
      (sym (all_append (sums_whole q) w.entries (entries_of ws)))
      (sym (all_append constant_fits w.entries (entries_of ws)))

  -- of the whole block
  abbrev pub block_tests : List ℤ → Tests
  block_tests d =
      record {
        there = block_there d q j;
        bound = all (bound_by x) (elements (block_at q j));
        sums =
            all (sums_whole q) (elements (block_at q j));
        fits = all constant_fits (elements (block_at q j));
      }

  place-tests : Tests
  place-tests = record { there = placed q j; bound = true; sums = true; fits = true }

  block-are : (d : List ℤ)
      → join (join place-tests (rows_tests d (block_at q j).relations)) (tests_all (other_elements (block_at q j)))
      ≡ block_tests d
  unfolding place-tests block_there elements row_elements
  block-are d =
      let b = block_at q j in let ws = entries_of b.relations in let os = other_elements b in
      ap (λ t. join (join place-tests t) (tests_all os)) (rows_are d b.relations)
      ∙ tests_path _ _ _ _ _ _ _ _
      (there (placed q j) (all (row_there d) b.relations) (all (element_there q j) ws) (all (element_there q j) os)
      ∙ ap (λ t. (placed q j && all (row_there d) b.relations) && t)
      (sym (all_append (element_there q j) ws os)))
      (sym (all_append (bound_by x) ws os)) (sym (all_append (sums_whole q) ws os))
      (sym (all_append constant_fits ws os))
    where
      there : (a b c d : Bool) → (a && (b && c)) && d ≡ (a && b) && (c && d)
      there true true c d = refl
      there true false c d = refl
      there false b c d = refl

  pub block-tests : (d : List ℤ) (s : Tests) → block_lowest d q j x (cause s) ≡ cause (join s (block_tests d))
  unfolding block_lowest place_cause place-tests
  block-tests d s =
      let b = block_at q j in let p = place-tests in let r = rows_tests d b.relations in
      let o = tests_all (other_elements b) in
      ap (λ m. lowest (cause_of q j x) (other_elements b) (rows_lowest d q j x b.relations m)) (min-causes s p)
      ∙ ap (lowest (cause_of q j x) (other_elements b)) (rows-tests d b.relations (join s p))
      ∙ lowest-tests (other_elements b) (join (join s p) r)
      ∙ ap cause (ap (λ u. join u o) (join-assoc s p r) ∙ join-assoc s (join p r) o ∙ ap (join s) (block-are d))
