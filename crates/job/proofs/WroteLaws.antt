-- Printing at a place: nothing, one byte, one text after the other, letters in a loop, and what is left in the end.
use Prim.Native.Nat.{ℕ, zero, suc, ◌+◌, ◌<◌, ◌≤◌, min}
use native.Mathlib.Numerals.{add-one}
use native.Mathlib.Omega.{arith}
use mathlib.Core.List.{List, [], ◌∷◌, ◌++◌}
use mathlib.Core.Bool.{Bool, true, false}
use mathlib.Core.Path.{◌≡◌, refl, sym, ◌∙◌, ap, subst}
use borrow.Author.Tests.{leb-true, leb-false}
use lib.Dec.{leb}
use lib.ListN.{length, get_or, set, take, length-append}
use lib.Seq.{sets, length-sets, set_out, take-suc, take_all, take-nil}
use Rattle.model.specs.Lists.{overwrite}
use Rattle.job.specs.Texts.{Wrote, gap_text}

-- ---- stores one after the other
sets-append : (s t l : List ℕ) (i : ℕ) → sets l i (s ++ t) ≡ sets (sets l i s) (i + length s) t
sets-append [] t l i = let e : i ≡ i + 0 = omega arith in ap (λ k. sets l k t) e
sets-append (b ∷ s) t l i =
    let e : suc i + length s ≡ i + suc (length s) = omega arith in
    sets-append s t (set l i b) (suc i) ∙ ap (λ k. sets (sets (set l i b) (suc i) s) k t) e

sets_past : (t l : List ℕ) (i : ℕ) → length l ≤ i → sets l i t ≡ l
sets_past [] l i h = refl
sets_past (b ∷ t) l i h = rw (set_out l i b h) (sets_past t l (suc i) (omega arith))

sets_clamp : (t l : List ℕ) (i : ℕ) → sets l (min i (length l)) t ≡ sets l i t
sets_clamp t l i = go (leb i (length l)) refl
  where
    go : (b : Bool) → leb i (length l) ≡ b → sets l (min i (length l)) t ≡ sets l i t
    go true h =
        let k = leb-true i (length l) h in
        let e : min i (length l) ≡ i = omega arith in ap (λ k. sets l k t) e
    go false h =
        let k = leb-false i (length l) h in
        sets_past t l (min i (length l)) (omega arith) ∙ sym (sets_past t l i (omega arith))

sets-nil : (t : List ℕ) (i : ℕ) → sets [] i t ≡ []
sets-nil [] i = refl
sets-nil (b ∷ t) i = sets-nil t (suc i)

sets-cons : (t l : List ℕ) (x i : ℕ) → sets (x ∷ l) (suc i) t ≡ x ∷ sets l i t
sets-cons [] l x i = refl
sets-cons (b ∷ t) l x i = sets-cons t (set l i b) x (suc i)

-- from the front on: as much of the text as there is room for, then the rest of the list
pub sets_front : (t l : List ℕ) → sets l 0 t ≡ overwrite (take (length l) t) l
unfolding overwrite
sets_front [] l = rw (take-nil {A = ℕ} (length l)) refl
sets_front (b ∷ t) [] = sets-nil t 1
sets_front (b ∷ t) (x ∷ l) = sets-cons t l b 0 ∙ ap (λ r. b ∷ r) (sets_front t l)

-- ---- texts one after the other
pub wrote_none : (at : ℕ) (l : List ℕ) → at ≤ length l → Wrote at [] l l at
wrote_none at l h = record { bytes = refl; place = let e : at ≡ min (at + 0) (length l) = omega arith in e }

pub wrote_full : (at b : ℕ) (l : List ℕ) → at ≤ length l → length l ≤ at → Wrote at (b ∷ []) l l at
wrote_full at b l h k = record {
  bytes = sym (set_out l at b k);
  place = let e : at ≡ min (at + 1) (length l) = omega arith in e;
}

pub wrote_byte : (at b : ℕ) (l : List ℕ) → at < length l → Wrote at (b ∷ []) l (set l at b) (at + 1)
wrote_byte at b l h = record { bytes = refl; place = let e : at + 1 ≡ min (at + 1) (length l) = omega arith in e }

module _ {at r : ℕ} {s l m : List ℕ} (w : Wrote at s l m r) where
  pub wrote-length : length m ≡ length l
  wrote-length = ap length w.bytes ∙ length-sets l at s

  pub wrote-within : r ≤ length m
  wrote-within = let e = w.place in let f = wrote-length in omega arith

  pub wrote_then : {t n : List ℕ} {q : ℕ} → Wrote r t m n q → Wrote at (s ++ t) l n q
  wrote_then {t} {n} {q} v = record {
    bytes =
        v.bytes ∙ ap (λ k. sets m k t) clamped ∙ sets_clamp t m (at + length s)
        ∙ ap (λ x. sets x (at + length s) t) w.bytes ∙ sym (sets-append s t l at);
    place =
        let a = w.place in let b = v.place in let c = wrote-length in let d = length-append s t in
        let e : q ≡ min (at + length (s ++ t)) (length l) = omega arith in e;
  }
    where
      clamped : r ≡ min (at + length s) (length m)
      clamped = w.place ∙ ap (λ k. min (at + length s) k) (sym wrote-length)

  -- where there is no more room, any text after it is as good as printed
  pub wrote-more : (t : List ℕ) → length l ≤ r → Wrote at (s ++ t) l m r
  wrote-more t h = record {
    bytes =
        w.bytes
        ∙ sym (sets_past t (sets l at s) (at + length s)
        (let a = w.place in let b = length-sets l at s in omega arith))
        ∙ sym (sets-append s t l at);
    place =
        let a = w.place in let d = length-append s t in
        let e : r ≡ min (at + length (s ++ t)) (length l) = omega arith in e;
  }

  pub wrote_as : (t : List ℕ) → s ≡ t → Wrote at t l m r
  wrote_as t e = subst (λ x. Wrote at x l m r) e w

-- ---- the space before a field
pub gap_none : (at j : ℕ) (l : List ℕ) → at ≤ length l → j ≡ 0 → Wrote at (gap_text j) l l at
gap_none at zero l h e = wrote_none at l h
gap_none at (suc j) l h e = absurd (omega arith)

pub gap_some : {at r : ℕ} {l m : List ℕ} (j : ℕ) → (j ≡ 0 → ⊥) → Wrote at (32 ∷ []) l m r → Wrote at (gap_text j) l m r
gap_some zero h w = absurd (h refl)
gap_some (suc j) h w = w

-- ---- from the first byte on
module _ {r : ℕ} {s l m : List ℕ} (w : Wrote 0 s l m r) where
  pub printed-bytes : m ≡ overwrite (take (length l) s) l
  printed-bytes = w.bytes ∙ sets_front s l

  pub printed-count : r ≡ min (length s) (length l)
  printed-count = let a = w.place in omega arith

-- ---- letters in a loop
module _ {at r : ℕ} {l m : List ℕ} (i : ℕ) (t : List ℕ) (w : Wrote at (take i t) l m r) where
  pub letters-more : {n : List ℕ} {q : ℕ} → i < length t → Wrote r (get_or t i 0 ∷ []) m n q
      → Wrote at (take (i + 1) t) l n q
  letters-more h v =
      wrote_as (wrote_then w v) (take (i + 1) t) (sym (ap (λ k. take k t) (add-one i) ∙ take-suc t i 0 h))

  pub letters-end : length t ≤ i → Wrote at t l m r
  letters-end h = wrote_as w t (take_all i t h)
