-- Descriptions that are read out of words, and that are stored there.
--   blocks_at       the description of a block is that of its sixteen words
--   stored_there, stored-none   the words reach so far, and they do not
--   stored-outline  the words of a description are that description
--   stored_words, stored-enough, stored_short   what is stored, with eighty words and with fewer
--   stored-long, stored-kept, stored-holds   as many words, those past the eightieth, and each description read back
use Prim.Native.Nat.{ℕ, zero, suc, ◌+◌, ◌*◌, ◌%◌, ◌<◌, ◌≤◌}
use native.Mathlib.Nat.{mod-eq_of_lt}
use native.Mathlib.Omega.{arith}
use mathlib.Core.Bool.{Bool, true, false, cond}
use mathlib.Core.List.{List, [], ◌∷◌}
use mathlib.Core.Path.{◌≡◌, refl, ap, ap₂, ◌∙◌}
use lib.Dec.{leb}
use lib.ListN.{length, get_or, drop}
use Rattle.outline.proofs.PartLaws.{parts_in, filled-long, filled-back, filled_at}
use Rattle.outline.specs.Stored.{no_outline, outline_from, outline_in, blocks_in, words_of, stored, Narrow}
use Rattle.outline.specs.declared.Outline.{Outline}
use Rattle.syntax.specs.Places.{no_block}
use borrow.Author.Tests.{le-leb, lt-leb, leb-true}

pub blocks_at : (code : List ℕ) (k : ℕ) → k < 5 → (o : Outline) → get_or (blocks_in code) k o ≡ outline_in code k
unfolding blocks_in
blocks_at code zero h o = refl
blocks_at code (suc zero) h o = refl
blocks_at code (suc (suc zero)) h o = refl
blocks_at code (suc (suc (suc zero))) h o = refl
blocks_at code (suc (suc (suc (suc zero)))) h o = refl
blocks_at code (suc (suc (suc (suc (suc k))))) h o = absurd (omega arith)

module _ (code : List ℕ) (k : ℕ) where
  pub stored_there : 16 * k + 16 ≤ length code → outline_in code k ≡ outline_from code (16 * k)
  unfolding outline_in
  stored_there h = rw (le-leb (16 * k + 16) (length code) h) refl

  pub stored-none : length code < 16 * k + 16 → outline_in code k ≡ no_outline
  unfolding outline_in
  stored-none h = rw (lt-leb (16 * k + 16) (length code) h) refl

-- a list of three is its elements
three : (l : List ℕ) → length l ≡ 3 → get_or l 0 0 ∷ get_or l 1 0 ∷ get_or l 2 0 ∷ [] ≡ l
three [] e = absurd (omega arith)
three (x ∷ []) e = absurd (omega arith)
three (x ∷ y ∷ []) e = absurd (omega arith)
three (x ∷ y ∷ z ∷ []) e = refl
three (x ∷ y ∷ z ∷ w ∷ l) e = absurd (omega arith)

module _ (code : List ℕ) (i : ℕ) (o : Outline) (small : Narrow o) (long : length o.live.places ≡ 3)
    (e : (n : ℕ) → n < 16 → get_or code (i + n) 0 ≡ get_or (words_of o) n 0) where
  first : get_or code i 0 ≡ o.places.parent
  first = let h : i ≡ i + 0 = omega arith in ap (λ n. get_or code n 0) h ∙ e 0 (omega arith)

  pub stored-outline : outline_from code i ≡ o
  unfolding outline_from
  stored-outline = λ t.
      record {
        places =
            record {
              parent = (ap (λ x. x % 256) first ∙ mod-eq_of_lt small.parent-small) t;
              rows_at = e 1 (omega arith) t;
              rows = e 2 (omega arith) t;
              conditions_at = e 3 (omega arith) t;
              conditions = e 4 (omega arith) t;
              outputs_at = e 5 (omega arith) t;
              outputs = e 6 (omega arith) t;
              end = e 7 (omega arith) t;
            };
        level = (ap (λ x. x % 256) (e 8 (omega arith)) ∙ mod-eq_of_lt small.level-small) t;
        named = (ap (λ x. x % 65536) (e 9 (omega arith)) ∙ mod-eq_of_lt small.named_small) t;
        live =
            record {
              count = e 11 (omega arith) t;
              places =
                  (ap₂ (λ x l. x ∷ l) (e 12 (omega arith))
                  (ap₂ (λ y z. y ∷ z ∷ []) (e 13 (omega arith)) (e 14 (omega arith)))
                  ∙ three o.live.places long)
                  t;
            };
      }

-- ---- what is stored
abbrev pub stored_words : List Outline → ℕ → List ℕ
stored_words os k = words_of (get_or os k no_outline)

module _ (os : List Outline) (a : List ℕ) where
  pub stored-enough : 80 ≤ length a → stored os a ≡ parts_in (stored_words os) 0 a 5
  unfolding stored
  stored-enough h = rw (le-leb 80 (length a) h) refl

  pub stored_short : length a < 80 → stored os a ≡ a
  unfolding stored
  stored_short h = rw (lt-leb 80 (length a) h) refl

  pub stored-long : length (stored os a) ≡ length a
  unfolding stored
  stored-long = go (leb 80 (length a)) refl
    where
      go : (t : Bool) → leb 80 (length a) ≡ t
          → length (cond t (parts_in (stored_words os) 0 a 5) a) ≡ length a
      go true e = filled-long (stored_words os) (λ k. refl) 0 a 5 (leb-true 80 (length a) e)
      go false e = refl

  pub stored-kept : drop 80 (stored os a) ≡ drop 80 a
  unfolding stored
  stored-kept = go (leb 80 (length a)) refl
    where
      go : (t : Bool) → leb 80 (length a) ≡ t
          → drop 80 (cond t (parts_in (stored_words os) 0 a 5) a) ≡ drop 80 a
      go true e = filled-back (stored_words os) (λ k. refl) 0 a 5 (leb-true 80 (length a) e)
      go false e = refl

  pub stored-holds : 80 ≤ length a → (k : ℕ) → k < 5 → Narrow (get_or os k no_outline)
      → length (get_or os k no_outline).live.places ≡ 3 → outline_in (stored os a) k ≡ get_or os k no_outline
  stored-holds h k l small three =
      stored_there (stored os a) k (omega (arith, h, l, stored-long))
      ∙ stored-outline (stored os a) (16 * k) (get_or os k no_outline) small three at
    where
      at : (n : ℕ) → n < 16 → get_or (stored os a) (16 * k + n) 0 ≡ get_or (stored_words os k) n 0
      at n m =
          let e : 16 * k + n ≡ 16 * (0 + k) + n = omega arith in
          ap (λ i. get_or (stored os a) i 0) e
          ∙ ap (λ b. get_or b (16 * (0 + k) + n) 0) (stored-enough h)
          ∙ filled_at (stored_words os) (λ k. refl) 0 a 5 h k n l m

-- three numbers that are all 0
pub three_zeros : (l : List ℕ) → length l ≡ 3 → ((i d : ℕ) → i < 3 → get_or l i d ≡ 0) → l ≡ 0 ∷ 0 ∷ 0 ∷ []
three_zeros [] e f = absurd (omega arith)
three_zeros (a ∷ []) e f = absurd (omega arith)
three_zeros (a ∷ b ∷ []) e f = absurd (omega arith)
three_zeros (a ∷ b ∷ c ∷ []) e f = λ i. f 0 0 (omega arith) i ∷ f 1 0 (omega arith) i ∷ f 2 0 (omega arith) i ∷ []
three_zeros (a ∷ b ∷ c ∷ d ∷ l) e f = absurd (omega arith)

-- the description of `Outline::default`
pub default_is : (o : Outline) → o.places ≡ no_block → o.level ≡ 0 → o.named ≡ 0 → o.live.count ≡ 0
    → o.live.places ≡ 0 ∷ 0 ∷ 0 ∷ [] → o ≡ no_outline
default_is o p l n c w = λ i. record {
  places = p i;
  level = l i;
  named = n i;
  live = record { count = c i; places = w i };
}
