-- Where a value stands in the result: row r, column c of n columns at words 2 × (r × n + c) and the next.
use Prim.Native.Nat.{ℕ, zero, suc, ◌+◌, ◌*◌, ◌<◌}
use native.Mathlib.Omega.{arith}
use mathlib.Core.List.{List, [], ◌∷◌, ◌++◌}
use mathlib.Core.Path.{◌≡◌, refl, ◌∙◌, ap}
use lib.IntN.{ℤ, pos}
use lib.ListN.{length, get_or, length-append, get_or-append}
use lib.Seq.{get_or-append-add}
use Rattle.model.specs.Aggregate.{column_at}
use Rattle.model.specs.Lists.{All}
use Rattle.model.specs.Matching.{result, set_of}
use Rattle.model.specs.Question.{Block, block_at}
use Rattle.model.specs.RowSet.{Row, row_words, set_words}
use Rattle.model.specs.Scan.{unbound, Binding}
use Rattle.model.specs.Scope.{levels}
use Rattle.model.proofs.CanonLaws.{set_given}
use Rattle.model.proofs.Lists.{map-length, all_of}

pub words-length : (r : Row) → length (row_words r) ≡ 2 * length r
unfolding row_words
words-length [] = refl
words-length (x ∷ xs) = omega (arith, words-length xs)

pub set-length : (n : ℕ) (rs : List Row) → All (λ r. length r ≡ n) rs → length (set_words rs) ≡ 2 * (length rs * n)
unfolding set_words
set-length n [] u = let e : 0 ≡ 2 * (0 * n) = omega arith in e
set-length n (r ∷ rs) u =
    length-append (row_words r) (set_words rs)
    ∙ (let a = words-length r in let b = ap (λ z. 2 * z) u.0 in let c = set-length n rs u.1 in
    let e : length (row_words r) + length (set_words rs) ≡ 2 * (suc (length rs) * n) = omega arith in e)

-- within one row
row-num : (r : Row) (c : ℕ) → c < length r → get_or (row_words r) (2 * c) (pos 0) ≡ (column_at c r).num
unfolding row_words
row-num [] c h = absurd (omega arith)
row-num (x ∷ xs) zero h = refl
row-num (x ∷ xs) (suc c) h = ap (λ i. get_or (row_words (x ∷ xs)) i (pos 0))
    (let e : 2 * suc c ≡ suc (suc (2 * c)) = omega arith in e) ∙ row-num xs c (omega arith)

row-den : (r : Row) (c : ℕ) → c < length r → get_or (row_words r) (suc (2 * c)) (pos 0) ≡ pos (column_at c r).den
unfolding row_words
row-den [] c h = absurd (omega arith)
row-den (x ∷ xs) zero h = refl
row-den (x ∷ xs) (suc c) h = ap (λ i. get_or (row_words (x ∷ xs)) i (pos 0))
    (let e : suc (2 * suc c) ≡ suc (suc (suc (2 * c))) = omega arith in e) ∙ row-den xs c (omega arith)

-- in the whole set, of rows of n columns
module _ (n : ℕ) where
  pub at-word : (rs : List Row) → All (λ r. length r ≡ n) rs → (r i : ℕ) → r < length rs → i < 2 * n
      → get_or (set_words rs) (2 * (r * n) + i) (pos 0) ≡ get_or (row_words (get_or rs r [])) i (pos 0)
  unfolding set_words
  at-word [] u r i h l = absurd (omega arith)
  at-word (x ∷ xs) u zero i h l =
      ap (λ j. get_or (row_words x ++ set_words xs) j (pos 0)) (let e : 2 * (0 * n) + i ≡ i = omega arith in e)
      ∙ get_or-append (row_words x) (set_words xs) (pos 0) i
      (let e = words-length x in let f = u.0 in let g = ap (λ z. 2 * z) u.0 in omega arith)
  at-word (x ∷ xs) u (suc r) i h l =
      ap (λ j. get_or (row_words x ++ set_words xs) j (pos 0))
      (let e = words-length x in let g = ap (λ z. 2 * z) u.0 in
      let k : 2 * (suc r * n) + i ≡ length (row_words x) + (2 * (r * n) + i) = omega arith in k)
      ∙ get_or-append-add (row_words x) (set_words xs) (2 * (r * n) + i) (pos 0)
      ∙ at-word xs u.1 r i (omega arith) l

-- every row of a block's set has its output columns
pub set-columns : (n : ℕ) (d : List ℤ) (q : List Block) (k : ℕ) (b : Binding)
    → All (λ r. length r ≡ length (block_at q k).outputs) (set_of n d q k b)
unfolding set_of
set-columns zero d q k b = tt
set-columns (suc n) d q k b = all_of _ (set_of (suc n) d q k b)
    (λ r i. let g = set_given n d q k b r i in ap length g.gives ∙ map-length _ (block_at q k).outputs)

pub result-columns : (d : List ℤ) (q : List Block) → All (λ r. length r ≡ length (block_at q 0).outputs) (result d q)
unfolding result
result-columns d q = set-columns levels d q 0 unbound

nth_columns : (n : ℕ) (rs : List Row) → All (λ r. length r ≡ n) rs → (r : ℕ) → r < length rs → length (get_or rs r []) ≡ n
nth_columns n [] u r h = absurd (omega arith)
nth_columns n (x ∷ xs) u zero h = u.0
nth_columns n (x ∷ xs) u (suc r) h = nth_columns n xs u.1 r (omega arith)

pub result-num : (n : ℕ) (rs : List Row) → All (λ r. length r ≡ n) rs → (r c : ℕ) → r < length rs → c < n
    → get_or (set_words rs) (2 * (r * n + c)) (pos 0) ≡ (column_at c (get_or rs r [])).num
result-num n rs u r c h l = let e = nth_columns n rs u r h in
    ap (λ j. get_or (set_words rs) j (pos 0)) (let k : 2 * (r * n + c) ≡ 2 * (r * n) + 2 * c = omega arith in k)
    ∙ at-word n rs u r (2 * c) h (omega arith) ∙ row-num (get_or rs r []) c (omega arith)

pub result-den : (n : ℕ) (rs : List Row) → All (λ r. length r ≡ n) rs → (r c : ℕ) → r < length rs → c < n
    → get_or (set_words rs) (suc (2 * (r * n + c))) (pos 0) ≡ pos (column_at c (get_or rs r [])).den
result-den n rs u r c h l = let e = nth_columns n rs u r h in
    ap (λ j. get_or (set_words rs) j (pos 0)) (let k : suc (2 * (r * n + c)) ≡ 2 * (r * n) + suc (2 * c) = omega arith in
    k) ∙ at-word n rs u r (suc (2 * c)) h (omega arith) ∙ row-den (get_or rs r []) c (omega arith)
