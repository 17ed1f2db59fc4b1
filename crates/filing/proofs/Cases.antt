-- What each function over the files gives, by its cases, over plain values.
use Prim.Native.Nat.{ℕ, zero, suc, ◌+◌, ◌*◌, ◌-◌, ◌≤◌, ◌<◌}
use native.Mathlib.Omega.{arith}
use mathlib.Core.Bool.{false}
use mathlib.Core.List.{List, ◌++◌, append-nil}
use mathlib.Core.Path.{◌≡◌, refl, sym, ap, ap₂, ◌∙◌}
use lib.IntN.{ℤ, pos}
use lib.ListN.{length, take, drop, length-drop, drop_of_length-le}
use lib.Seq.{take_all}
use lib.Signed.{le_z}
use borrow.Author.Tests.{lt-ltb, le-ltb, lt-leb, le-leb, eq-eqb, ne_eqb}
use borrow.Rule.Slice.PartMut.{put_mid, mid_of}
use Rattle.groups.specs.Asking.{asked_at, function_at, column_at}
use Rattle.groups.specs.Groups.{mark_place, slot_place}
use Rattle.groups.specs.declared.Ask.{Ask}
use Rattle.groups.specs.declared.Asked.{Asked}
use Rattle.aggregates.specs.Columns.{aggregate_in}
use Rattle.words.specs.Words.{read_at, words_with, words_zeroed}
use Rattle.filing.specs.Files.{is_filed, words_before, words_in, emptied, told, slot_value, slot_filed}
use Rattle.filing.specs.Files.{slots_filed, filled_mark, filed}

-- ---- whether a group is filled
pub filed_past : (fl : List ℤ) (k n : ℕ) → 256 ≤ n → is_filed fl k n ≡ false
unfolding is_filed
filed_past fl k n h = rw (le-ltb n 256 h) refl

pub filed-in : (fl : List ℤ) (k n : ℕ) → n < 256 → is_filed fl k n ≡ le_z (pos 1) (read_at fl (mark_place k n)).num
unfolding is_filed
filed-in fl k n h = rw (lt-ltb n 256 h) refl

-- ---- a file emptied
pub emptied_short : (k n : ℕ) (fl : List ℤ) → length fl < words_before k + words_in n → emptied k n fl ≡ fl
unfolding emptied
emptied_short k n fl h = rw (lt-leb (words_before k + words_in n) (length fl) h) refl

pub emptied_is : (k n : ℕ) (fl : List ℤ) → words_before k + words_in n ≤ length fl
    → emptied k n fl ≡ take (words_before k) fl ++ words_zeroed (words_in n) (drop (words_before k) fl)
unfolding emptied
emptied_is k n fl h = rw (le-leb (words_before k + words_in n) (length fl) h) refl

-- a part to the end lent and zeroed
pub part_zeroed : (at n : ℕ) (fl ys : List ℤ) → ys ≡ words_zeroed n (mid_of at (length fl - at) fl)
    → put_mid at (length fl - at) fl ys ≡ take at fl ++ words_zeroed n (drop at fl)
part_zeroed at n fl ys e =
    ap (λ t. take at fl ++ t)
    (ap (λ t. ys ++ t) (drop_of_length-le (drop at fl) {i = length fl - at} (omega (arith, length-drop at fl)))
    ∙ append-nil ys ∙ e
    ∙ ap (words_zeroed n) (take_all (length fl - at) (drop at fl) (omega (arith, length-drop at fl))))

pub empty_done : (k n r z : ℕ) (fl ys : List ℤ) → r ≡ k - 1 → z ≡ words_in n → 2048 * r + z ≤ length fl
    → ys ≡ words_zeroed z (mid_of (2048 * r) (length fl - 2048 * r) fl)
    → put_mid (2048 * r) (length fl - 2048 * r) fl ys ≡ emptied k n fl
empty_done k n r z fl ys e f h g =
    let i : words_before k ≡ 2048 * r = omega arith in
    part_zeroed (2048 * r) z fl ys g
    ∙ sym (emptied_is k n fl (omega arith) ∙ rw (i, sym f) refl)

-- ---- a slot filled
module _ (a : Asked) (k n i columns count : ℕ) (sets fl : List ℤ) where
  pub slot-none : function_at a (3 * k + i) ≡ 255 → slot_filed a k n i columns count sets fl ≡ fl
  unfolding slot_filed
  slot-none e = rw (eq-eqb (function_at a (3 * k + i)) 255 e) refl

  pub slot-some : (function_at a (3 * k + i) ≡ 255 → ⊥)
      → slot_filed a k n i columns count sets fl
      ≡ words_with fl (slot_place k n i) (slot_value a k i columns count sets)
  unfolding slot_filed
  slot-some e = rw (ne_eqb (function_at a (3 * k + i)) 255 e) refl

pub slot_value_is : (a : Asked) (k i columns count : ℕ) (sets : List ℤ)
    → slot_value a k i columns count sets
    ≡ told (aggregate_in (function_at a (3 * k + i)) (column_at a (3 * k + i)) columns count sets)
unfolding slot_value
slot_value_is a k i columns count sets = refl

-- ---- the first slots of a group filled
unfoldable pub slots_to : Asked → (k n columns count : ℕ) → List ℤ → List ℤ → ℕ → List ℤ
slots_to a k n columns count sets start zero = start
slots_to a k n columns count sets start (suc i) =
    slot_filed a k n i columns count sets (slots_to a k n columns count sets start i)

pub slots_begin : (a : Asked) (k n columns count : ℕ) (sets start : List ℤ)
    → start ≡ slots_to a k n columns count sets start 0
unfolding slots_to
slots_begin a k n columns count sets start = refl

pub slots_end : (a : Asked) (k n columns count i : ℕ) (sets start fl : List ℤ) → 3 ≤ i → i ≤ 3
    → fl ≡ slots_to a k n columns count sets start i → fl ≡ slots_filed a k n columns count sets start
unfolding slots_to slots_filed
slots_end a k n columns count i sets start fl h g so_far =
    so_far
    ∙ (let e : i ≡ 3 = omega arith in ap (slots_to a k n columns count sets start) e)

-- the two ways through slot i: b is the block's number, x what the array has there
module _ (a : Asked) (k n columns count b i : ℕ) (x : Ask) (sets start fl : List ℤ) (same : b ≡ k)
    (there : x ≡ asked_at a (3 * b + i)) (so_far : fl ≡ slots_to a k n columns count sets start i) where
  asks : asked_at a (3 * k + i) ≡ x
  asks = ap (λ j. asked_at a (3 * j + i)) (sym same) ∙ sym there

  more : slot_filed a k n i columns count sets fl ≡ slots_to a k n columns count sets start (i + 1)
  unfolding slots_to
  more =
      let e : i + 1 ≡ suc i = omega arith in
      ap (slot_filed a k n i columns count sets) so_far ∙ ap (slots_to a k n columns count sets start) (sym e)

  pub slots-left : x.function ≡ 255 → fl ≡ slots_to a k n columns count sets start (i + 1)
  slots-left e = sym (slot-none a k n i columns count sets fl (ap (λ (y : Ask). y.function) asks ∙ e)) ∙ more

  pub slots-put : (at : ℕ) (out : List ℤ) → (x.function ≡ 255 → ⊥) → at ≡ slot_place k n 0
      → out ≡ words_with fl (at + i) (told (aggregate_in x.function x.column columns count sets))
      → out ≡ slots_to a k n columns count sets start (i + 1)
  slots-put at out h place put =
      put
      ∙ ap₂ (words_with fl) (let e : at + i ≡ slot_place k n i = omega arith in e)
      (ap (λ (y : Ask). told (aggregate_in y.function y.column columns count sets)) (sym asks)
      ∙ sym (slot_value_is a k i columns count sets))
      ∙ sym (slot-some a k n i columns count sets fl (λ e. h (ap (λ (y : Ask). y.function) (sym asks) ∙ e))) ∙ more

-- ---- a group filled
module _ (a : Asked) (k n columns count : ℕ) (sets fl : List ℤ) where
  pub slots_filed-is : slots_filed a k n columns count sets fl
      ≡ slot_filed a k n 2 columns count sets
      (slot_filed a k n 1 columns count sets (slot_filed a k n 0 columns count sets fl))
  unfolding slots_filed
  slots_filed-is = refl

  pub group-past : 256 ≤ n → filed a k n columns count sets fl ≡ fl
  unfolding filed
  group-past h = rw (le-ltb n 256 h) refl

  pub group-in : n < 256
      → filed a k n columns count sets fl
      ≡ words_with (slots_filed a k n columns count sets fl) (mark_place k n) filled_mark
  unfolding filed
  group-in h = rw (lt-ltb n 256 h) refl

  pub group-put : (x out : List ℤ) (p : ℕ) → n < 256 → x ≡ slots_filed a k n columns count sets fl → p ≡ mark_place k n
      → out ≡ words_with x p filled_mark → out ≡ filed a k n columns count sets fl
  group-put x out p h e place put = put ∙ ap₂ (λ l q. words_with l q filled_mark) e place ∙ sym (group-in h)
