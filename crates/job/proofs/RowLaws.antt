-- Numbers, values, fields, lines and rows as the code prints them, and how many rows the words hold.
use Prim.Native.Nat.{ℕ, zero, suc, ◌+◌, ◌*◌, ◌-◌, ◌/◌, ◌≤◌, min}
use native.Mathlib.Nat.{le_trans, mul-le-mul_right, div-mul-le_self}
use native.Mathlib.Numerals.{add-one}
use native.Mathlib.Omega.{arith}
use mathlib.Core.Bool.{Bool, true, false}
use mathlib.Core.List.{List, [], ◌∷◌, ◌++◌}
use mathlib.Core.Path.{◌≡◌, refl, sym, ◌∙◌, ap, subst}
use borrow.Author.Tests.{eq-eqb, ne_eqb, eqb-true, eqb-false}
use lib.Dec.{eqb}
use lib.IntN.{ℤ, pos, nat_abs}
use lib.ListN.{length, get_or}
use lib.Seq.{append_snoc}
use Rattle.model.specs.Listing.{digits, integer_text, no_line}
use Rattle.job.specs.Texts.{Wrote, is_zero, is_one, ratio_text, gap_text, field_text, fields_text, line_text, lines_text}
use Rattle.job.specs.Texts.{ok_text}
use Rattle.job.specs.Texts.{shown_rows}
use Rattle.job.proofs.WroteLaws.{wrote_as, wrote_then, wrote-more}

-- ---- numbers and values
module _ {at r : ℕ} {l m : List ℕ} (x : ℤ) (n : ℕ) (e : n ≡ nat_abs x) where
  pub integer-negative : {q : ℕ} {k : List ℕ} → integer_text x ≡ 45 ∷ digits (nat_abs x) → Wrote at (45 ∷ []) l m r
      → Wrote r (digits n) m k q
      → Wrote at (integer_text x) l k q
  integer-negative t w v =
      wrote_as (wrote_then w v) (integer_text x) (ap (λ z. 45 ∷ digits z) e ∙ sym t)

  pub integer-plain : integer_text x ≡ digits (nat_abs x) → Wrote at (digits n) l m r → Wrote at (integer_text x) l m r
  integer-plain t w = wrote_as w (integer_text x) (ap digits e ∙ sym t)

-- a value: absent, whole or a ratio
pub ratio-absent : {at r : ℕ} {l m : List ℕ} (n d : ℤ) → is_zero d ≡ true → Wrote at (45 ∷ []) l m r
    → Wrote at (ratio_text n d) l m r
unfolding ratio_text
ratio-absent n d e w = rw e w

module _ {at r : ℕ} {l m : List ℕ} (n d : ℤ) (some : is_zero d ≡ false) (w : Wrote at (integer_text n) l m r) where
  pub ratio-whole : is_one d ≡ true → Wrote at (ratio_text n d) l m r
  unfolding ratio_text
  ratio-whole e = rw (some, e) w

  pub ratio-over : {k j : List ℕ} {q s : ℕ} → is_one d ≡ false → Wrote r (47 ∷ []) m k q → Wrote q (integer_text d) k j s
      → Wrote at (ratio_text n d) l j s
  unfolding ratio_text
  ratio-over e v u =
      rw (some, e)
      (wrote_as (wrote_then (wrote_then w v) u) (integer_text n ++ (47 ∷ integer_text d))
      (append_snoc (integer_text n) 47 (integer_text d)))

pub field_is : {at r : ℕ} {l m : List ℕ} (ws : List ℤ) (p : ℕ)
    → Wrote at (ratio_text (get_or ws (2 * p) (pos 0)) (get_or ws (2 * p + 1) (pos 0))) l m r
    → Wrote at (field_text ws p) l m r
unfolding field_text
field_is ws p w = w

-- ---- the fields of a line
module _ {at r q : ℕ} {l m k : List ℕ} (ws : List ℤ) (p j : ℕ) (w : Wrote at (fields_text ws p j) l m r) where
  pub line-more : Wrote r (gap_text j ++ field_text ws (p + j)) m k q → Wrote at (fields_text ws p (j + 1)) l k q
  unfolding fields_text
  line-more v = rw (add-one j) (wrote_then w v)

  pub line-end : (n : ℕ) → j ≡ n → Wrote r (10 ∷ []) m k q → Wrote at (line_text ws p n) l k q
  unfolding line_text
  line-end n e v = subst (λ i. Wrote at (fields_text ws p i ++ (10 ∷ [])) l k q) e (wrote_then w v)

pub line_none : {at : ℕ} {l : List ℕ} (ws : List ℤ) (p : ℕ) → Wrote at [] l l at → Wrote at (fields_text ws p 0) l l at
unfolding fields_text
line_none ws p w = w

-- ---- first lines
pub ok_is : {at q : ℕ} {l m : List ℕ} (r c t : ℕ)
    → Wrote at ((111 ∷ 107 ∷ 32 ∷ []) ++ (digits r ++ (32 ∷ [])) ++ (digits c ++ (32 ∷ [])) ++ (digits t ++ (10 ∷ [])))
    l m q
    → Wrote at (ok_text r c t) l m q
unfolding ok_text
ok_is r c t w = w

pub no_is : {at q : ℕ} {l m : List ℕ} (n : ℕ) → Wrote at ((110 ∷ 111 ∷ 32 ∷ []) ++ (digits n ++ (10 ∷ []))) l m q
    → Wrote at (no_line n) l m q
unfolding no_line
no_is n w = w

-- ---- how many rows are shown
pub shown-none : (k c w : ℕ) → c ≡ 0 → shown_rows k c w ≡ k
unfolding shown_rows
shown-none k c w e = rw (eq-eqb c 0 e) refl

pub shown-some : (k c w : ℕ) → (c ≡ 0 → ⊥) → shown_rows k c w ≡ min k (w / 2 / c)
unfolding shown_rows
shown-some k c w e = rw (ne_eqb c 0 e) refl

-- ---- the lines of the rows
pub lines_none : {at : ℕ} {l : List ℕ} (ws : List ℤ) (c : ℕ) → Wrote at [] l l at → Wrote at (lines_text ws c 0) l l at
unfolding lines_text
lines_none ws c w = w

module _ {at q : ℕ} {l m : List ℕ} (ws : List ℤ) (c r : ℕ) (w : Wrote at (lines_text ws c r) l m q) where
  pub lines_more : {k : List ℕ} {s : ℕ} → Wrote q (line_text ws (r * c) c) m k s
      → Wrote at (lines_text ws c (r + 1)) l k s
  unfolding lines_text
  lines_more v = rw (add-one r) (wrote_then w v)

  -- no more room: the rows that are left change nothing
  lines-full : (d : ℕ) → length l ≤ q → Wrote at (lines_text ws c (d + r)) l m q
  unfolding lines_text
  lines-full zero h = subst (λ z. Wrote at (lines_text ws c z) l m q) (let e : r ≡ 0 + r = omega arith in e) w
  lines-full (suc d) h =
      subst (λ z. Wrote at (lines_text ws c z) l m q) (let e : suc (d + r) ≡ suc d + r = omega arith in e)
      (wrote-more (lines-full d h) (line_text ws ((d + r) * c) c) h)

  pub lines_end : (n : ℕ) → r ≤ n → length l ≤ q → Wrote at (lines_text ws c n) l m q
  lines_end n h full =
      let d : n - r + r ≡ n = omega arith in
      subst (λ z. Wrote at (lines_text ws c z) l m q) d (lines-full (n - r) full)

-- the rows shown are held by the words
pub shown-room : (k c w : ℕ) → shown_rows k c w * c ≤ w / 2
shown-room k c w = go (eqb c 0) refl
  where
    go : (t : Bool) → eqb c 0 ≡ t → shown_rows k c w * c ≤ w / 2
    go true e =
        let z = eqb-true c 0 e in
        subst (λ n. shown_rows k n w * n ≤ w / 2) (sym z)
        (let m : shown_rows k 0 w * 0 ≤ w / 2 = omega arith in m)
    go false e =
        let s = shown-some k c w (eqb-false c 0 e) in
        let m = mul-le-mul_right c (let b : min k (w / 2 / c) ≤ w / 2 / c = omega arith in b) in
        let d = div-mul-le_self (w / 2) c in
        subst (λ n. n * c ≤ w / 2) (sym s) (le_trans m d)
