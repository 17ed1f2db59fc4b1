-- Parts of sixteen words that are put in their places, one after the other, f k in part n + k.
--   part-there, part_none   the words reach so far, and they do not
--   inside          an element that is there needs no default
--   parts_in         the words with the first k parts in place; filled_none, filled_more, filled-long, filled_at: none,
--                   one more, how many words, and a word of a part; filled-front, filled-back: those around
--   Storing         the invariant of a loop that puts them; its begin, step and end
use Prim.Native.Nat.{ℕ, zero, suc, ◌+◌, ◌*◌, ◌<◌, ◌≤◌}
use native.Mathlib.Numerals.{add-one}
use native.Mathlib.Omega.{arith}
use mathlib.Core.Bool.{Bool, true, false}
use mathlib.Core.List.{List, [], ◌∷◌, ◌++◌, append_assoc, append-nil}
use mathlib.Core.Path.{◌≡◌, refl, sym, ap, ap₂, subst, ◌∙◌}
use lib.Dec.{eqb}
use lib.ListN.{length, get_or, take, drop, length-append, length-drop, take-append-drop, get_or-append}
use lib.Seq.{length-take-le, take_at, drop_at, drop-append-add, drop-drop, get_or-append-add}
use borrow.Author.Tests.{eqb-true, eqb-false, le-leb, lt-leb}
use Rattle.model.specs.Lists.{concat_map, range}
use Rattle.model.proofs.ListEquations.{range_last, concat_map-nil, concat_map-append, concat_map-cons}
use Rattle.outline.specs.Stored.{with_part}

module _ (a : List ℕ) (k : ℕ) (ws : List ℕ) where
  pub part-there : 16 * k + 16 ≤ length a → with_part a k ws ≡ take (16 * k) a ++ ws ++ drop (16 * k + 16) a
  unfolding with_part
  part-there h = rw (le-leb (16 * k + 16) (length a) h) refl

  pub part_none : length a < 16 * k + 16 → with_part a k ws ≡ a
  unfolding with_part
  part_none h = rw (lt-leb (16 * k + 16) (length a) h) refl

pub inside : {A : Type 0} (l : List A) (k : ℕ) (x y : A) → k < length l → get_or l k x ≡ get_or l k y
inside [] k x y h = absurd (omega arith)
inside (z ∷ l) zero x y h = refl
inside (z ∷ l) (suc k) x y h = inside l k x y (omega arith)

abbrev pub parts_in : (ℕ → List ℕ) → ℕ → List ℕ → ℕ → List ℕ
parts_in f n a k = take (16 * n) a ++ concat_map f (range 0 k) ++ drop (16 * (n + k)) a

-- ---- the parts alone
module _ (f : ℕ → List ℕ) (sixteen : (k : ℕ) → length (f k) ≡ 16) where
  parts_more : (k : ℕ) → concat_map f (range 0 (suc k)) ≡ concat_map f (range 0 k) ++ f k
  parts_more k =
      let z : 0 + k ≡ k = omega arith in
      ap (concat_map f) (range_last 0 k)
      ∙ concat_map-append f (range 0 k) ((0 + k) ∷ [])
      ∙ ap (λ l. concat_map f (range 0 k) ++ l)
      (concat_map-cons f (0 + k) [] ∙ ap (λ l. f (0 + k) ++ l) (concat_map-nil f) ∙ append-nil (f (0 + k)) ∙ ap f z)

  parts-long : (k : ℕ) → length (concat_map f (range 0 k)) ≡ 16 * k
  unfolding concat_map range
  parts-long zero = refl
  parts-long (suc k) =
      ap length (parts_more k) ∙ length-append (concat_map f (range 0 k)) (f k)
      ∙ (let e : length (concat_map f (range 0 k)) + length (f k) ≡ 16 * suc k
      = omega (arith, parts-long k, sixteen k) in e)

  parts_at : (k j m : ℕ) → j < k → m < 16 → get_or (concat_map f (range 0 k)) (16 * j + m) 0 ≡ get_or (f j) m 0
  parts_at zero j m h l = absurd (omega arith)
  parts_at (suc k) j m h l = ap (λ p. get_or p (16 * j + m) 0) (parts_more k) ∙ go (λ i. parts_at k j m i l) (eqb j k) refl
    where
      go : (j < k → get_or (concat_map f (range 0 k)) (16 * j + m) 0 ≡ get_or (f j) m 0) → (t : Bool) → eqb j k ≡ t
          → get_or (concat_map f (range 0 k) ++ f k) (16 * j + m) 0 ≡ get_or (f j) m 0
      go before true e =
          let same = eqb-true j k e in
          let at : 16 * j + m ≡ length (concat_map f (range 0 k)) + m = omega (arith, same, parts-long k) in
          ap (λ i. get_or (concat_map f (range 0 k) ++ f k) i 0) at
          ∙ get_or-append-add (concat_map f (range 0 k)) (f k) m 0
          ∙ ap (λ i. get_or (f i) m 0) (sym same)
      go before false e =
          let other = eqb-false j k e in
          get_or-append (concat_map f (range 0 k)) (f k) 0 (16 * j + m) (low other)
          ∙ before (less other)
        where
          less : (j ≡ k → ⊥) → j < k
          less n = omega (arith, h, n)

          low : (j ≡ k → ⊥) → 16 * j + m < length (concat_map f (range 0 k))
          low n = omega (arith, h, n, l, parts-long k)

  -- ---- the parts among other words
  module _ (n : ℕ) (a : List ℕ) where
    pub filled_none : parts_in f n a 0 ≡ a
    unfolding concat_map range
    filled_none =
        let e : 16 * (n + 0) ≡ 16 * n = omega arith in
        ap₂ (λ l i. l ++ drop i a) (append-nil (take (16 * n) a)) e ∙ take-append-drop (16 * n) a

    module _ (k : ℕ) (room : 16 * (n + k) ≤ length a) where
      abbrev front : List ℕ
      front = take (16 * n) a ++ concat_map f (range 0 k)

      taken-long : length (take (16 * n) a) ≡ 16 * n
      taken-long = length-take-le (16 * n) a (omega (arith, room))

      front_long : length front ≡ 16 * (n + k)
      front_long =
          length-append (take (16 * n) a) (concat_map f (range 0 k))
          ∙ (let e : length (take (16 * n) a) + length (concat_map f (range 0 k)) ≡ 16 * (n + k)
          = omega (arith, taken-long, parts-long k) in e)

      pub filled-long : length (parts_in f n a k) ≡ length a
      filled-long =
          length-append front (drop (16 * (n + k)) a)
          ∙ (let e : length front + length (drop (16 * (n + k)) a) ≡ length a
          = omega (arith, front_long, length-drop (16 * (n + k)) a, room) in e)

      pub filled-front : take (16 * n) (parts_in f n a k) ≡ take (16 * n) a
      filled-front =
          ap (take (16 * n)) (append_assoc (take (16 * n) a) (concat_map f (range 0 k)) (drop (16 * (n + k)) a))
          ∙ take_at (take (16 * n) a) (concat_map f (range 0 k) ++ drop (16 * (n + k)) a) (16 * n) taken-long

      pub filled-back : drop (16 * (n + k)) (parts_in f n a k) ≡ drop (16 * (n + k)) a
      filled-back = drop_at front (drop (16 * (n + k)) a) (16 * (n + k)) front_long

      pub filled_at : (j m : ℕ) → j < k → m < 16 → get_or (parts_in f n a k) (16 * (n + j) + m) 0 ≡ get_or (f j) m 0
      filled_at j m h l =
          let at : 16 * (n + j) + m ≡ length (take (16 * n) a) + (16 * j + m) = omega (arith, taken-long) in
          get_or-append front (drop (16 * (n + k)) a) 0 (16 * (n + j) + m) (omega (arith, front_long, h, l))
          ∙ ap (λ i. get_or front i 0) at
          ∙ get_or-append-add (take (16 * n) a) (concat_map f (range 0 k)) (16 * j + m) 0
          ∙ parts_at k j m h l

    pub filled_more : (k : ℕ) → 16 * (n + k) + 16 ≤ length a → with_part (parts_in f n a k) (n + k) (f k) ≡ parts_in f n a (k + 1)
    filled_more k room =
        let r : 16 * (n + k) ≤ length a = omega (arith, room) in
        let long = front_long k r in
        let after : 16 * (n + k) + 16 ≡ 16 * (n + suc k) = omega arith in
        part-there (parts_in f n a k) (n + k) (f k) (omega (arith, room, filled-long k r))
        ∙ ap₂ (λ x y. x ++ f k ++ y) (take_at (front k r) (drop (16 * (n + k)) a) (16 * (n + k)) long)
        (ap (λ i. drop (i + 16) (parts_in f n a k)) (sym long)
        ∙ drop-append-add (front k r) (drop (16 * (n + k)) a) 16
        ∙ drop-drop 16 (16 * (n + k)) a
        ∙ ap (λ i. drop i a) after)
        ∙ ap (λ l. l ++ drop (16 * (n + suc k)) a)
        (append_assoc (take (16 * n) a) (concat_map f (range 0 k)) (f k)
        ∙ ap (λ l. take (16 * n) a ++ l) (sym (parts_more k)))
        ∙ ap (parts_in f n a) (sym (add-one k))

-- ---- one part more, and what is told of it
pub record Storing (f : ℕ → List ℕ) (P : ℕ → Type 0) (n : ℕ) (a : List ℕ) (k : ℕ) (b : List ℕ) : Type 0 where
  pub few : k ≤ 5
  pub long : length b ≡ length a
  pub is : b ≡ parts_in f n a k
  pub tells : (j : ℕ) → j < k → P j

module _ (f : ℕ → List ℕ) (sixteen : (k : ℕ) → length (f k) ≡ 16) (P : ℕ → Type 0) (n : ℕ) (a : List ℕ)
    (room : 16 * n + 80 ≤ length a) where
  pub storing-begin : Storing f P n a 0 a
  storing-begin =
      record {
        few = omega arith;
        long = refl;
        is = sym (filled_none f sixteen n a);
        tells = λ j h. absurd (omega (arith, h));
      }

  pub storing-more : (k p : ℕ) (w b c : List ℕ) → k < 5 → p ≡ n + k → w ≡ f k → P k → c ≡ with_part b p w
      → Storing f P n a k b → Storing f P n a (k + 1) c
  storing-more k p w b c h at w-is told put s =
      let is =
      put
      ∙ (λ t. with_part (s.is t) (at t) (w-is t))
      ∙ filled_more f sixteen n a k (omega (arith, room, h)) in
      record {
        few = omega arith;
        long = ap length is ∙ filled-long f sixteen n a (k + 1) (omega (arith, room, h));
        is = is;
        tells = λ j l. go j l (eqb j k) refl;
      }
    where
      go : (j : ℕ) → j < k + 1 → (t : Bool) → eqb j k ≡ t → P j
      go j l true e = subst P (sym (eqb-true j k e)) told
      go j l false e = let other = eqb-false j k e in s.tells j (less other)
        where
          less : (j ≡ k → ⊥) → j < k
          less x = omega (arith, l, x)

  pub storing-end : (k : ℕ) (b : List ℕ) → 5 ≤ k → Storing f P n a k b
      → (b ≡ parts_in f n a 5) × ((j : ℕ) → j < 5 → P j)
  storing-end k b h s =
      let five : k ≡ 5 = omega (arith, h, s.few) in
      (s.is ∙ ap (parts_in f n a) five, λ j l. s.tells j (omega (arith, l, five)))
