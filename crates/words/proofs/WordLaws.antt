-- A value is two words: what a put leaves, how a row is built and copied value by value, what a copied or zeroed buffer
-- holds. Assumes nothing.
use Prim.Native.Nat.{ℕ, zero, suc, ◌+◌, ◌*◌, ◌<◌, ◌≤◌, ◌-◌}
use native.Mathlib.Nat.{not-suc-le-zero, le_of_suc-le-suc}
use native.Mathlib.Omega.{arith}
use mathlib.Core.Bool.{true}
use mathlib.Core.List.{List, [], ◌∷◌, ◌++◌, append_assoc}
use mathlib.Core.Path.{◌≡◌, refl, sym, ◌∙◌, ap, ap₂}
use borrow.Author.Tests.{le-leb, lt-ltb, le-ltb}
use lib.IntN.{ℤ, pos}
use lib.ListN.{length, get_or, set, take, drop, replicate, length-set, length-append}
use lib.Seq.{paste, paste-suc, length-take-le, get_or-set_same, get_or-set_other}
use Rattle.model.specs.Lists.{overwrite}
use Rattle.model.specs.RowSet.{Row, row_words, set_words}
use Rattle.model.specs.Value.{Value}
use Rattle.value.specs.declared.Value as stored
use Rattle.value.specs.Exact.{in_words}
use Rattle.words.specs.Encoding.{Carries, Encodes}
use Rattle.words.specs.Words.{room_of, words_of, value_at, with_value, read_at, words_with, copyable, words_copied}
use Rattle.words.specs.Words.{words_zeroed, front_zeroed, behind_zeroed}

-- ---- one value
pub length_with : (l : List ℤ) (p : ℕ) (v : stored.Value) → length (with_value l p v) ≡ length l
length_with l p v = length-set (set l (2 * p) v.num) (2 * p + 1) v.den ∙ length-set l (2 * p) v.num

-- the value put is the value got
pub get-put : (l : List ℤ) (p : ℕ) (v : stored.Value) → p < room_of (length l) → value_at (with_value l p v) p ≡ v
get-put l p v h =
    let s = set l (2 * p) v.num in
    ap₂ (λ a b. record { num = a; den = b })
    (get_or-set_other s (2 * p + 1) (2 * p) v.den (pos 0) (λ e. omega arith)
    ∙ get_or-set_same l (2 * p) v.num (pos 0) (omega arith))
    (get_or-set_same s (2 * p + 1) v.den (pos 0) (omega (arith, length-set l (2 * p) v.num)))

-- and every other place keeps its value
pub get_other : (l : List ℤ) (p q : ℕ) (v : stored.Value) → (q ≡ p → ⊥) → value_at (with_value l p v) q ≡ value_at l q
get_other l p q v h =
    let s = set l (2 * p) v.num in
    ap₂ (λ a b. record { num = a; den = b })
    (get_or-set_other s (2 * p + 1) (2 * q) v.den (pos 0) (λ e. omega arith)
    ∙ get_or-set_other l (2 * p) (2 * q) v.num (pos 0) (λ e. h (omega arith)))
    (get_or-set_other s (2 * p + 1) (2 * q + 1) v.den (pos 0) (λ e. h (omega arith))
    ∙ get_or-set_other l (2 * p) (2 * q + 1) v.num (pos 0) (λ e. omega arith))

pub read_past : (l : List ℤ) (p : ℕ) → room_of (length l) ≤ p → read_at l p ≡ record { num = pos 0; den = pos 0 }
unfolding read_at
read_past l p h = simp (le-ltb p (room_of (length l)) h)

pub read_in : (l : List ℤ) (p : ℕ) → p < room_of (length l) → read_at l p ≡ value_at l p
unfolding read_at
read_in l p h = simp (lt-ltb p (room_of (length l)) h)

pub read_value : (l : List ℤ) (p : ℕ) (v : stored.Value) → v ≡ read_at l p → p < room_of (length l) → v ≡ value_at l p
read_value l p v e h = e ∙ read_in l p h

pub write_past : (l : List ℤ) (p : ℕ) (v : stored.Value) → room_of (length l) ≤ p → words_with l p v ≡ l
unfolding words_with
write_past l p v h = simp (le-ltb p (room_of (length l)) h)

pub write_in : (l : List ℤ) (p : ℕ) (v : stored.Value) → p < room_of (length l) → words_with l p v ≡ with_value l p v
unfolding words_with
write_in l p v h = simp (lt-ltb p (room_of (length l)) h)

-- ---- values copied one after the other
pub paste_value : (l : List ℤ) (p : ℕ) (x : List ℤ) (j : ℕ) → p + j < room_of (length l) → j < room_of (length x)
    → with_value (paste l (words_of p) x (words_of j)) (p + j) (value_at x j) ≡ paste l (words_of p) x (words_of (j + 1))
paste_value l p x j h k =
    let a = paste-suc l (2 * p) x (2 * j) (pos 0) (omega arith) (omega arith) in
    let b = paste-suc l (2 * p) x (suc (2 * j)) (pos 0) (omega arith) (omega arith) in
    let e : 2 * p + 2 * j ≡ 2 * (p + j) = omega arith in
    let f : 2 * p + suc (2 * j) ≡ 2 * (p + j) + 1 = omega arith in
    let g : suc (2 * j) ≡ 2 * j + 1 = omega arith in
    let i : suc (suc (2 * j)) ≡ 2 * (j + 1) = omega arith in
    let num = ap (λ i. set (paste l (2 * p) x (2 * j)) i (get_or x (2 * j) (pos 0))) (sym e) ∙ a in
    let den = ap₂ (λ i k. set (paste l (2 * p) x (suc (2 * j))) i (get_or x k (pos 0))) (sym f) (sym g) ∙ b in
    ap (λ s. set s (2 * (p + j) + 1) (get_or x (2 * j + 1) (pos 0))) num ∙ den ∙ ap (λ k. paste l (2 * p) x k) i

-- ---- a row built value by value
row_words_more : (c : Row) (v : Value) → row_words (c ++ (v ∷ [])) ≡ row_words c ++ (v.num ∷ pos v.den ∷ [])
unfolding row_words
row_words_more [] v = refl
row_words_more (w ∷ ws) v = ap (λ s. w.num ∷ pos w.den ∷ s) (row_words_more ws v)

take-set : {A : Type 0} (l : List A) (k : ℕ) (a : A) → k < length l → take (suc k) (set l k a) ≡ take k l ++ (a ∷ [])
take-set [] k a h = absurd (not-suc-le-zero h)
take-set (x ∷ xs) zero a h = refl
take-set (x ∷ xs) (suc k) a h = ap (λ s. x ∷ s) (take-set xs k a (le_of_suc-le-suc h))

pub carries_none : (x : List ℤ) → Carries 0 x []
unfolding row_words
carries_none x = record { columns = refl; words = refl }

-- a row of p columns, and a value written after it
pub carries_more : (p : ℕ) (x : List ℤ) (c : Row) (v : Value) → p < room_of (length x) → Carries p x c
    → Carries (p + 1) (with_value x p (in_words v)) (c ++ (v ∷ []))
carries_more p x c v h r =
    let s = set x (2 * p) v.num in
    let e : 2 * (p + 1) ≡ suc (2 * p + 1) = omega arith in
    let f : 2 * p + 1 ≡ suc (2 * p) = omega arith in
    let long : 2 * p + 1 < length s = omega (arith, length-set x (2 * p) v.num) in
    record {
      columns = length-append c (v ∷ []) ∙ ap (λ k. k + 1) r.columns;
      words =
          ap (λ k. take k (set s (2 * p + 1) (pos v.den))) e
          ∙ take-set s (2 * p + 1) (pos v.den) long
          ∙ ap (λ t. t ++ (pos v.den ∷ [])) (
          ap (λ k. take k s) f ∙ take-set x (2 * p) v.num (omega arith) ∙ ap (λ t. t ++ (v.num ∷ [])) r.words)
          ∙ append_assoc (row_words c) (v.num ∷ []) (pos v.den ∷ [])
          ∙ sym (row_words_more c v);
    }

-- ---- whole buffers
pub overwritten : (s l : List ℤ) (k : ℕ) → k ≤ length s → paste l 0 s k ≡ overwrite (take k s) l
unfolding overwrite
overwritten s l k h =
    ap (λ m. take k s ++ drop m l) ((let e : 0 + k ≡ k = omega arith in e) ∙ sym (length-take-le k s h))

pub copied : (m : ℕ) (s l : List ℤ) → copyable m s l ≡ true → words_copied m s l ≡ overwrite (take (words_of m) s) l
unfolding words_copied
copied m s l e = simp e

pub zeroed : (n : ℕ) (l : List ℤ) → n ≤ length l → words_zeroed n l ≡ overwrite (replicate n (pos 0)) l
unfolding words_zeroed
zeroed n l h = simp (le-leb n (length l) h)

-- a set copied: the model's words of the set, and every word after them as it was
pub encodes_copied : (n : ℕ) (s l : List ℤ) (rows : List Row) → Encodes n s rows
    → copyable (length rows * n) s l ≡ true → words_copied (length rows * n) s l ≡ overwrite (set_words rows) l
encodes_copied n s l rows E e = copied (length rows * n) s l e ∙ ap (λ t. overwrite t l) E.words

-- values zeroed in front, and behind
pub front_zeroed_lem : (m : ℕ) (l : List ℤ) → m ≤ room_of (length l)
    → front_zeroed m l ≡ overwrite (replicate (words_of m) (pos 0)) l
unfolding front_zeroed
front_zeroed_lem m l h = simp (le-leb m (room_of (length l)) h)

pub behind_zeroed_lem : (m : ℕ) (l : List ℤ) → m ≤ room_of (length l)
    → behind_zeroed m l ≡ take (words_of m) l ++ replicate (length l - words_of m) (pos 0)
unfolding behind_zeroed
behind_zeroed_lem m l h = simp (le-leb m (room_of (length l)) h)
