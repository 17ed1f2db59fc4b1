-- Four bytes as a number and data bytes as words, by place, and the loop that fills a buffer with them.
use Prim.Native.Nat.{ℕ, zero, suc, ◌+◌, ◌*◌, ◌/◌, ◌<◌, ◌≤◌, min}
use native.Mathlib.Numerals.{add-one}
use native.Mathlib.Omega.{arith}
use mathlib.Core.Bool.{Bool, true, false}
use mathlib.Core.List.{List, [], ◌∷◌, ◌++◌}
use mathlib.Core.Path.{◌≡◌, refl, sym, ◌∙◌, ap, ap₂}
use borrow.Author.Tests.{leb-true, leb-false}
use lib.Dec.{leb}
use lib.IntN.{ℤ, pos}
use lib.ListN.{length, get_or, set, take, drop}
use lib.Seq.{get_or-drop, paste, paste-suc, take_all, length-take-le}
use Rattle.model.specs.Format.{number64}
use Rattle.model.specs.Listing.{signed32, words_of}
use Rattle.model.specs.Lists.{overwrite}
use Rattle.job.specs.Places.{four}

-- ---- four bytes
pub four-drop : (bs : List ℕ) (n i : ℕ) → four (drop n bs) i ≡ four bs (n + i)
four-drop bs n i = rw (at 3, at 2, at 1, get_or-drop n bs i 0) refl
  where
    at : (k : ℕ) → get_or (drop n bs) (i + k) 0 ≡ get_or bs (n + i + k) 0
    at k = get_or-drop n bs (i + k) 0 ∙ ap (λ j. get_or bs j 0) (let e : n + (i + k) ≡ n + i + k = omega arith in e)

pub four_front : (bs : List ℕ) → 4 ≤ length bs → number64 (take 4 bs) ≡ four bs 0
unfolding number64
four_front [] h = absurd (omega arith)
four_front (a ∷ []) h = absurd (omega arith)
four_front (a ∷ b ∷ []) h = absurd (omega arith)
four_front (a ∷ b ∷ c ∷ []) h = absurd (omega arith)
four_front (a ∷ b ∷ c ∷ d ∷ bs) h =
    let e : a + 256 * (b + 256 * (c + 256 * (d + 256 * 0))) ≡ ((d * 256 + c) * 256 + b) * 256 + a = omega arith in e

-- ---- words
pub words-length : (bs : List ℕ) → length (words_of bs) ≡ length bs / 4
unfolding words_of
words-length [] = refl
words-length (a ∷ []) = refl
words-length (a ∷ b ∷ []) = refl
words-length (a ∷ b ∷ c ∷ []) = refl
words-length (a ∷ b ∷ c ∷ d ∷ bs) =
    let r = words-length bs in
    let e : suc (length (words_of bs)) ≡ suc (suc (suc (suc (length bs)))) / 4 = omega arith in e

pub word_at : (bs : List ℕ) (i : ℕ) → i < length bs / 4 → get_or (words_of bs) i (pos 0) ≡ signed32 (four bs (4 * i))
unfolding words_of number64
word_at [] i h = absurd (omega arith)
word_at (a ∷ []) i h = absurd (none h)
  where
    none : i < 1 / 4 → ⊥
    none h = omega arith
word_at (a ∷ b ∷ []) i h = absurd (none h)
  where
    none : i < 2 / 4 → ⊥
    none h = omega arith
word_at (a ∷ b ∷ c ∷ []) i h = absurd (none h)
  where
    none : i < 3 / 4 → ⊥
    none h = omega arith
word_at (a ∷ b ∷ c ∷ d ∷ bs) zero h =
    ap signed32 (four_front (a ∷ b ∷ c ∷ d ∷ bs) (omega arith)
    ∙ ap (λ j. four (a ∷ b ∷ c ∷ d ∷ bs) j) (let e : 0 ≡ 4 * 0 = omega arith in e))
word_at (a ∷ b ∷ c ∷ d ∷ bs) (suc i) h =
    word_at bs i (omega arith)
    ∙ ap signed32 (four-drop (a ∷ b ∷ c ∷ d ∷ bs) 4 (4 * i)
    ∙ ap (λ j. four (a ∷ b ∷ c ∷ d ∷ bs) j) (let e : 4 + 4 * i ≡ 4 * suc i = omega arith in e))

-- ---- the loop
module _ (bs : List ℕ) (l : List ℤ) where
  abbrev filled : ℕ → List ℤ
  filled i = paste l 0 (words_of bs) i

  pub fill_more : (i : ℕ) (x : ℤ) → i < length bs / 4 → i < length l → x ≡ signed32 (four bs (4 * i))
      → set (filled i) i x ≡ filled (i + 1)
  fill_more i x h k e =
      ap₂ (λ j z. set (filled i) j z) (let z : i ≡ 0 + i = omega arith in z) (e ∙ sym (word_at bs i h))
      ∙ paste-suc l 0 (words_of bs) i (pos 0) (omega arith) (let w = words-length bs in omega arith)
      ∙ ap filled (sym (add-one i))

  take-least : (n : ℕ) → n ≡ min (length (words_of bs)) (length l) → take n (words_of bs) ≡ take (length l) (words_of bs)
  take-least n e = go (leb (length (words_of bs)) (length l)) refl
    where
      go : (t : Bool) → leb (length (words_of bs)) (length l) ≡ t → take n (words_of bs) ≡ take (length l) (words_of bs)
      go true f =
          let h = leb-true (length (words_of bs)) (length l) f in
          take_all n (words_of bs) (omega arith) ∙ sym (take_all (length l) (words_of bs) h)
      go false f =
          let h = leb-false (length (words_of bs)) (length l) f in
          ap (λ k. take k (words_of bs)) (let g : n ≡ length l = omega arith in g)

  pub fill_end : (n : ℕ) → n ≡ min (length bs / 4) (length l) → filled n ≡ overwrite (take (length l) (words_of bs)) l
  unfolding overwrite
  fill_end n e =
      let w = words-length bs in
      let f : n ≡ min (length (words_of bs)) (length l) = omega arith in
      ap (λ m. take n (words_of bs) ++ drop m l)
      ((let g : 0 + n ≡ n = omega arith in g) ∙ sym (length-take-le n (words_of bs) (omega arith)))
      ∙ ap (λ t. t ++ drop (length t) l) (take-least n f)
