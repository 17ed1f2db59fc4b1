-- Insertion in the words is the model's insertion in the set. Assumes nothing.
use Prim.Native.Nat.{ℕ, zero, suc, ◌+◌, ◌*◌, ◌-◌, ◌<◌, ◌≤◌}
use native.Mathlib.Omega.{arith}
use native.Mathlib.Nat.{mul-le-mul_right}
use mathlib.Core.Path.{◌≡◌, refl, sym, ◌∙◌, ap, ap₂}
use mathlib.Core.Bool.{Bool, true, false}
use mathlib.Core.List.{List, [], ◌∷◌, ◌++◌, append_assoc}
use lib.Dec.{leb}
use borrow.Author.Tests.{le-leb, leb-true, leb-false}
use lib.ListN.{length, take, drop, length-append, length-take, length-drop, take-append-drop}
use lib.Seq.{paste, take-append-le, take_at, drop_at, take-take, length-take-le}
use lib.IntN.{ℤ}
use Rattle.model.specs.RowSet.{Row, insert, order_rows, row_words, set_words}
use Rattle.model.specs.Lists.{All}
use Rattle.model.proofs.SetLaws.{Ascending, insert_all}
use Rattle.model.proofs.OrderLaws.{ProperRow, linear_rows}
use Rattle.model.proofs.WordLaws.{words-length}
use Rattle.value.specs.Exact.{Fair}
use Rattle.std.specs.Prelude.{Result, Ok, Err}
use Rattle.rows.specs.declared.Place.{Place}
use Rattle.rows.specs.declared.Place.TheVariants as place
use Rattle.rows.specs.declared.Fault.{Fault}
use Rattle.rows.specs.declared.Fault.TheVariants as fault
use Rattle.rows.specs.Insertion.{at_place, bisect, fits_in, find_of, as_new, added_of, words_after}
use Rattle.words.specs.Words.{room_of, shifted}
use Rattle.words.specs.Encoding.{Carries, Encodes}
use Rattle.rows.proofs.CaseLaws.{placed}
use Rattle.rows.proofs.Bisection.{Told, there, new, bisected}
use Rattle.rows.proofs.RowOrder.{at_row}

-- ---- the words of a set, by its parts
pub words_append : (a b : List Row) → set_words (a ++ b) ≡ set_words a ++ set_words b
unfolding set_words
words_append [] b = refl
words_append (r ∷ a) b =
    ap (λ t. row_words r ++ t) (words_append a b) ∙ sym (append_assoc (row_words r) (set_words a) (set_words b))

module _ (n : ℕ) where
  pub set-length : (rows : List Row) → All (λ r. length r ≡ n) rows → length (set_words rows) ≡ 2 * (length rows * n)
  unfolding set_words
  set-length [] u = omega arith
  set-length (r ∷ rows) u =
      let e = words-length r in
      let g = ap (λ z. 2 * z) u.0 in
      simp length-append (omega (arith, set-length rows u.1))

  pub take-columns : (k : ℕ) (rows : List Row) → All (λ r. length r ≡ n) rows → All (λ r. length r ≡ n) (take k rows)
  take-columns zero rows u = tt
  take-columns (suc k) [] u = tt
  take-columns (suc k) (r ∷ rows) u = (u.0, take-columns k rows u.1)

  -- the first k rows, and those after them
  module _ (k : ℕ) (rows : List Row) (u : All (λ r. length r ≡ n) rows) (h : k ≤ length rows) where
    both-parts : set_words rows ≡ set_words (take k rows) ++ set_words (drop k rows)
    both-parts = sym (ap set_words (take-append-drop k rows)) ∙ words_append (take k rows) (drop k rows)

    first-length : length (set_words (take k rows)) ≡ 2 * (k * n)
    first-length = set-length (take k rows) (take-columns k rows u) ∙ ap (λ m. 2 * (m * n)) (length-take-le k rows h)

    pub take_words : take (2 * (k * n)) (set_words rows) ≡ set_words (take k rows)
    take_words =
        ap (take (2 * (k * n))) both-parts
        ∙ take_at (set_words (take k rows)) (set_words (drop k rows)) (2 * (k * n)) first-length

    pub drop-words : drop (2 * (k * n)) (set_words rows) ≡ set_words (drop k rows)
    drop-words =
        ap (drop (2 * (k * n))) both-parts
        ∙ drop_at (set_words (take k rows)) (set_words (drop k rows)) (2 * (k * n)) first-length

-- a part of a prefix
take-drop : {A : Type 0} (p e : ℕ) (l : List A) → p ≤ e → take (e - p) (drop p l) ≡ drop p (take e l)
take-drop zero e l h = ap (λ k. take k l) (let x : e - 0 ≡ e = omega arith in x)
take-drop (suc p) zero l h = absurd (omega arith)
take-drop (suc p) (suc e) [] h = nothing (suc e - suc p)
  where
    nothing : {A : Type 0} (k : ℕ) → ◌≡◌ {A = List A} (take k []) []
    nothing zero = refl
    nothing (suc k) = refl
take-drop (suc p) (suc e) (x ∷ l) h =
    ap (λ k. take k (drop p l)) (let x : suc e - suc p ≡ e - p = omega arith in x) ∙ take-drop p e l (omega arith)

-- ---- a row put among the words
module _ (n : ℕ) (l x : List ℤ) (rows : List Row) (c : Row) (E : Encodes n l rows) (C : Carries n x c) (k : ℕ)
    (h : k ≤ length rows) (room : 2 * ((length rows + 1) * n) ≤ length l) (wide : 2 * n ≤ length x) where
  abbrev p : ℕ
  p = 2 * (k * n)

  abbrev e : ℕ
  e = 2 * (length rows * n)

  abbrev m : ℕ
  m = 2 * n

  p-e : p ≤ e
  p-e = omega (arith, mul-le-mul_right n h)

  front : take p (shifted p e m l) ≡ set_words (take k rows)
  unfolding shifted
  front =
      let q = p-e in
      let a : p ≤ length (take (p + m) l) = simp length-take (omega arith) in
      let b : p ≤ length (take (p + m) l ++ take (e - p) (drop p l)) = simp length-append (omega arith) in
      take-append-le p (take (p + m) l ++ take (e - p) (drop p l)) (drop (e + m) l) b
      ∙ take-append-le p (take (p + m) l) (take (e - p) (drop p l)) a
      ∙ take-take p (p + m) l (omega arith)
      ∙ sym (take-take p e l q)
      ∙ ap (take p) E.words
      ∙ take_words n k rows E.columns h

  back : drop (p + m) (shifted p e m l) ≡ set_words (drop k rows) ++ drop (e + m) l
  unfolding shifted
  back =
      let q = p-e in
      let a : length (take (p + m) l) ≡ p + m = length-take-le (p + m) l (omega arith) in
      ap (drop (p + m)) (append_assoc (take (p + m) l) (take (e - p) (drop p l)) (drop (e + m) l))
      ∙ drop_at (take (p + m) l) (take (e - p) (drop p l) ++ drop (e + m) l) (p + m) a
      ∙ ap (λ t. t ++ drop (e + m) l) (take-drop p e l q ∙ ap (drop p) E.words ∙ drop-words n k rows E.columns h)

  pub put-words : paste (shifted p e m l) p x m ≡ set_words (take k rows ++ (c ∷ drop k rows)) ++ drop
      (2 * ((length rows + 1) * n)) l
  unfolding set_words
  put-words =
      let z : e + m ≡ 2 * ((length rows + 1) * n) = omega arith in
      ap₂ (λ s t. s ++ t) (ap₂ (λ s t. s ++ t) front C.words) back
      ∙ sym (append_assoc (set_words (take k rows) ++ row_words c) (set_words (drop k rows)) (drop (e + m) l))
      ∙ ap (λ t. t ++ drop (e + m) l)
      (append_assoc (set_words (take k rows)) (row_words c) (set_words (drop k rows))
      ∙ sym (words_append (take k rows) (c ∷ drop k rows)))
      ∙ ap (λ t. set_words (take k rows ++ (c ∷ drop k rows)) ++ drop t l) z

-- ---- insertion, told by the model
-- a set of the model in words, and a row to be put into it, where the words have room
pub record Ready (n : ℕ) (l x : List ℤ) (rows : List Row) (c : Row) : Type 0 where
  pub some : 1 ≤ n
  pub narrow : n ≤ 4
  pub few : length rows ≤ 256
  pub holds : length rows * n ≤ room_of (length l)
  pub room : length rows < 256 → (length rows + 1) * n ≤ room_of (length l)
  pub wide : n ≤ room_of (length x)
  pub set : Encodes n l rows
  pub row : Carries n x c
  pub ascending : Ascending order_rows rows
  pub rows-proper : All ProperRow rows
  pub row-proper : ProperRow c
  pub rows-fair : All (All Fair) rows
  pub row-fair : All Fair c

pub data Outcome (n : ℕ) (l : List ℤ) (rows : List Row) (c : Row) (a : Result Place Fault) (after : List ℤ) : Type 0 where
  kept : (k : ℕ) → a ≡ Ok (place.There k) → insert order_rows c rows ≡ rows → after ≡ l → Outcome n l rows c a after
  put : (k : ℕ) → a ≡ Ok (place.New k) → length (insert order_rows c rows) ≡ length rows + 1
      → after ≡ set_words (insert order_rows c rows) ++ drop (2 * ((length rows + 1) * n)) l → Outcome n l rows c a after
  large : a ≡ Err fault.Large → length (insert order_rows c rows) ≡ 257 → after ≡ l → Outcome n l rows c a after

length_split : {A : Type 0} (k : ℕ) (s : List A) (x : A) → k ≤ length s
    → length (take k s ++ (x ∷ drop k s)) ≡ length s + 1
length_split k s x h = simp (length-append, length-take, length-drop) (omega arith)

module _ (n : ℕ) (l x : List ℤ) (rows : List Row) (c : Row) (R : Ready n l x rows c) where
  abbrev count : ℕ
  count = length rows

  told : Told order_rows c rows (bisect (at_place n x l) count 0 count)
  told =
      bisected ProperRow order_rows linear_rows [] c rows R.row-proper R.rows-proper R.ascending (at_place n x l)
      (at_row n x l c rows R.row R.set R.row-fair R.rows-fair)

  found : find_of n count l x ≡ bisect (at_place n x l) count 0 count
  unfolding find_of fits_in
  found =
      simp (
        le-leb 1 n R.some,
        le-leb n 4 R.narrow,
        le-leb count 256 R.few,
        le-leb n (room_of (length x)) R.wide,
        le-leb (count * n) (room_of (length l)) R.holds,
      )

  outcome-new : (k : ℕ) → k ≤ count → insert order_rows c rows ≡ take k rows ++ (c ∷ drop k rows)
      → added_of n count l x ≡ as_new n count (room_of (length l)) k → (t : Bool) → leb 256 count ≡ t
      → Outcome n l rows c (added_of n count l x) (words_after n count l x (added_of n count l x))
  unfolding as_new words_after
  outcome-new k h i q true t =
      let g = leb-true 256 count t in
      let z : added_of n count l x ≡ Err fault.Large = q ∙ simp t in
      large z (ap length i ∙ length_split k rows c h ∙ (let y : count + 1 ≡ 257 = omega (arith, R.few) in y))
      (ap (words_after n count l x) z)
  outcome-new k h i q false t =
      let g = leb-false 256 count t in
      let z : added_of n count l x ≡ Ok (place.New k) = q ∙ simp (t, le-leb ((count + 1) * n) (room_of (length l)) (R.room g)) in
      put k z (ap length i ∙ length_split k rows c h)
      (ap (words_after n count l x) z
      ∙ put-words n l x rows c R.set R.row k h (omega (arith, R.room g)) (omega (arith, R.wide))
      ∙ ap (λ s. set_words s ++ drop (2 * ((count + 1) * n)) l) (sym i))

  pub outcome : Outcome n l rows c (added_of n count l x) (words_after n count l x (added_of n count l x))
  unfolding words_after
  outcome = go (bisect (at_place n x l) count 0 count) refl told
    where
      go : (p : Result Place Fault) → p ≡ bisect (at_place n x l) count 0 count → Told order_rows c rows p
          → Outcome n l rows c (added_of n count l x) (words_after n count l x (added_of n count l x))
      go (Ok (place.There k)) e (there i) =
          let z : added_of n count l x ≡ Ok (place.There k) = placed n count l x (Ok (place.There k))
          (found ∙ sym e) in
          kept k z i (ap (words_after n count l x) z)
      go (Ok (place.New k)) e (new h i) =
          outcome-new k h i (placed n count l x (Ok (place.New k)) (found ∙ sym e)) (leb 256 count) refl
      go (Err f) e x3 = elim x3 [ ]

-- ---- and so the words at exit hold the model's set, unless it is too large
prefix : (n : ℕ) (rows : List Row) (rest : List ℤ) → All (λ r. length r ≡ n) rows
    → Encodes n (set_words rows ++ rest) rows
prefix n rows rest u =
    record { columns = u; words = take_at (set_words rows) rest (2 * (length rows * n)) (set-length n rows u) }

pub encodes_after : (n : ℕ) (l x : List ℤ) (rows : List Row) (c : Row) → Ready n l x rows c
    → length (insert order_rows c rows) ≤ 256
    → Encodes n (words_after n (length rows) l x (added_of n (length rows) l x)) (insert order_rows c rows)
encodes_after n l x rows c R few = go (outcome n l x rows c R)
  where
    go : Outcome n l rows c (added_of n (length rows) l x)
        (words_after n (length rows) l x (added_of n (length rows) l x))
        → Encodes n (words_after n (length rows) l x (added_of n (length rows) l x)) (insert order_rows c rows)
    go (kept k a i w) = rw (w, i) R.set
    go (put k a m w) =
        rw w (prefix n (insert order_rows c rows) _
        (insert_all order_rows (λ r. length r ≡ n) c rows R.row.columns R.set.columns))
    go (large a m w) = absurd (omega arith)
