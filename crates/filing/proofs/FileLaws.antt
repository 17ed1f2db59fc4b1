-- What the files tell after a block's groups were made empty, and after a group was filled: that group is filled, and
-- every other group and every other region is as it was. What a block's groups tell depends on its region alone.
use Prim.Native.Nat.{ℕ, zero, suc, ◌+◌, ◌*◌, ◌-◌, ◌≤◌, ◌<◌, min}
use native.Mathlib.Decide.{ℕ_discrete}
use native.Mathlib.Omega.{arith}
use mathlib.Core.Bool.{true, false}
use mathlib.Core.List.{List, ◌++◌}
use mathlib.Core.Logic.{◌⊎◌, inl, inr, ⊎_elim}
use mathlib.Core.Path.{◌≡◌, refl, sym, ap, ap₂, ◌∙◌, subst}
use lib.IntN.{ℤ, pos}
use lib.ListN.{length, get_or, set, take, drop, replicate, length-append, length-take, length-drop}
use lib.ListN.{length-replicate, get_or-replicate, get_or-append}
use lib.Seq.{ext_get_or, get_or-take, get_or-drop, get_or-append-add, get_or-set_other, length-take-le}
use lib.Signed.{le_z}
use Rattle.groups.specs.Asking.{function_at, column_at}
use Rattle.groups.specs.Groups.{mark_place, slot_place}
use Rattle.groups.specs.declared.Asked.{Asked}
use Rattle.model.proofs.ListEquations.{overwrite-is}
use Rattle.words.proofs.WordLaws.{length_with, get-put, read_in, write_past, write_in, zeroed}
use Rattle.aggregates.specs.Columns.{aggregate_in}
use Rattle.words.specs.Words.{room_of, with_value, read_at, words_with, words_zeroed}
use Rattle.std.specs.Prelude.{Ok}
use Rattle.syntax.proofs.Elements.{le-or}
use Rattle.value.specs.declared.Value.{Value}
use Rattle.filing.specs.Files.{is_filed, filled_mark, words_before, words_in, emptied, told, slot_value, slot_filed}
use Rattle.filing.specs.Files.{filed, region}
use Rattle.filing.proofs.Cases.{filed_past, filed-in, emptied_short, emptied_is, slot-none, slot-some}
use Rattle.filing.proofs.Cases.{slot_value_is, slots_to, slots_filed-is, group-past, group-in}

abbrev word : List ℤ → ℕ → ℤ
word l i = get_or l i (pos 0)

-- m is as long as l, and has its words but for those from a on and before b
record Same (a b : ℕ) (l m : List ℤ) : Type 0 where
  pub long : length m ≡ length l
  pub words : (i : ℕ) → (i < a) ⊎ (b ≤ i) → word m i ≡ word l i

same_self : (a b : ℕ) (l : List ℤ) → Same a b l l
same_self a b l = record { long = refl; words = λ i h. refl }

same_then : (a b : ℕ) (l m n : List ℤ) → Same a b l m → Same a b m n → Same a b l n
same_then a b l m n x y = record { long = y.long ∙ x.long; words = λ i h. y.words i h ∙ x.words i h }

-- ---- what is read depends on the words read
read_agree : (l m : List ℤ) (q : ℕ) → length m ≡ length l → word m (2 * q) ≡ word l (2 * q)
    → word m (2 * q + 1) ≡ word l (2 * q + 1) → read_at m q ≡ read_at l q
unfolding read_at
read_agree l m q e f g = rw (e, f, g) refl

same_read : (a b : ℕ) (l m : List ℤ) (q : ℕ) → Same a b l m → (2 * q + 1 < a) ⊎ (b ≤ 2 * q) → read_at m q ≡ read_at l q
same_read a b l m q s h =
    read_agree l m q s.long
    (s.words (2 * q) (⊎_elim (λ x. inl (omega arith)) (λ x. inr x) h))
    (s.words (2 * q + 1) (⊎_elim (λ x. inl x) (λ x. inr (omega arith)) h))

filed-agree : (l m : List ℤ) (k n : ℕ) → read_at m (mark_place k n) ≡ read_at l (mark_place k n)
    → is_filed m k n ≡ is_filed l k n
unfolding is_filed
filed-agree l m k n e = rw e refl

-- ---- one value written
module _ (l : List ℤ) (p : ℕ) (v : Value) where
  with_same : (a b : ℕ) → a ≤ 2 * p → 2 * p + 2 ≤ b → Same a b l (words_with l p v)
  with_same a b h g =
      ⊎_elim
      (λ i.
      subst (Same a b l) (sym (write_in l p v i))
      (record { long = length_with l p v; words = each }))
      (λ i. subst (Same a b l) (sym (write_past l p v (omega arith))) (same_self a b l))
      (le-or (suc p) (room_of (length l)))
    where
      each : (i : ℕ) → (i < a) ⊎ (b ≤ i) → word (with_value l p v) i ≡ word l i
      each i d =
          get_or-set_other (set l (2 * p) v.num) (2 * p + 1) i v.den (pos 0)
          (λ e. ⊎_elim (λ x. omega arith) (λ x. omega arith) d)
          ∙ get_or-set_other l (2 * p) i v.num (pos 0) (λ e. ⊎_elim (λ x. omega arith) (λ x. omega arith) d)

  with_other : (q : ℕ) → (q ≡ p → ⊥) → read_at (words_with l p v) q ≡ read_at l q
  with_other q h =
      same_read (2 * p) (2 * p + 2) l (words_with l p v) q (with_same (2 * p) (2 * p + 2) (omega arith) (omega arith))
      (⊎_elim (λ x. inl (omega arith)) (λ x. inr (omega arith)) (le-or (suc q) p))

  with_read : p < room_of (length l) → read_at (words_with l p v) p ≡ v
  with_read h =
      ap (λ m. read_at m p) (write_in l p v h)
      ∙ read_in (with_value l p v) p
      (subst (λ n. p < room_of n) (sym (length_with l p v)) h)
      ∙ get-put l p v h

-- ---- regions
region-word : (k : ℕ) (l : List ℤ) (i : ℕ) → i < 2048 → word (region k l) i ≡ word l (words_before k + i)
unfolding region
region-word k l i h =
    get_or-take 2048 (drop (words_before k) l) i (pos 0) h ∙ get_or-drop (words_before k) l i (pos 0)

region-length : (k : ℕ) (l m : List ℤ) → length m ≡ length l → length (region k m) ≡ length (region k l)
unfolding region
region-length k l m e =
    length-take 2048 (drop (words_before k) m)
    ∙ ap (λ n. min 2048 n)
    (length-drop (words_before k) m ∙ ap (λ n. n - words_before k) e ∙ sym (length-drop (words_before k) l))
    ∙ sym (length-take 2048 (drop (words_before k) l))

region-few : (k : ℕ) (l : List ℤ) → length (region k l) ≤ 2048
unfolding region
region-few k l = omega (arith, length-take 2048 (drop (words_before k) l))

same-region : (a b : ℕ) (l m : List ℤ) (j : ℕ) → Same a b l m
    → (words_before j + 2048 ≤ a) ⊎ (b ≤ words_before j) → region j m ≡ region j l
same-region a b l m j s h =
    ext_get_or (pos 0) (region j m) (region j l) (region-length j l m s.long)
    (λ i g.
    let i-in : i < 2048 = omega (arith, region-few j m, g) in
    region-word j m i i-in
    ∙ s.words (words_before j + i) (⊎_elim (λ x. inl (omega arith)) (λ x. inr (omega arith)) h)
    ∙ sym (region-word j l i i-in))

module _ (k : ℕ) (l m : List ℤ) (same : region k l ≡ region k m) (long : length l ≡ length m) where
  region-at : (i : ℕ) → i < 2048 → word l (words_before k + i) ≡ word m (words_before k + i)
  region-at i h = sym (region-word k l i h) ∙ ap (λ r. word r i) same ∙ region-word k m i h

  at : (x j : ℕ) → x ≡ words_before k + j → j < 2048 → word l x ≡ word m x
  at x j e h = subst (λ y. word l y ≡ word m y) (sym e) (region-at j h)

  region-value : (q j : ℕ) → q ≡ 1024 * (k - 1) + j → j < 1024 → read_at l q ≡ read_at m q
  region-value q j e h =
      read_agree m l q long
      (at (2 * q) (2 * j) (omega arith) (omega arith))
      (at (2 * q + 1) (2 * j + 1) (omega arith) (omega arith))

  pub region-mark : (n : ℕ) → n < 256 → read_at l (mark_place k n) ≡ read_at m (mark_place k n)
  region-mark n h = region-value (mark_place k n) n refl (omega arith)

  -- what a block's groups tell depends on the block's region alone
  pub region-filed : (n : ℕ) → is_filed l k n ≡ is_filed m k n
  region-filed n = ⊎_elim inside past (le-or (suc n) 256)
    where
      inside : n < 256 → is_filed l k n ≡ is_filed m k n
      inside h =
          filed-agree m l k n (region-mark n h)

      past : 256 < suc n → is_filed l k n ≡ is_filed m k n
      past h = filed_past l k n (omega arith) ∙ sym (filed_past m k n (omega arith))

  pub region-read : (n i : ℕ) → n < 256 → i < 3
      → read_at l (slot_place k n i) ≡ read_at m (slot_place k n i)
  region-read n i h g = region-value (slot_place k n i) (256 + 3 * n + i) (omega arith) (omega arith)

-- ---- groups made empty
module _ (k n : ℕ) (fl : List ℤ) where
  abbrev d : ℕ
  d = words_before k

  abbrev z : ℕ
  z = words_in n

  module _ (h : d + z ≤ length fl) where
    rest-long : length (drop d fl) ≡ length fl - d
    rest-long = length-drop d fl

    front_long : length (take d fl) ≡ d
    front_long = length-take-le d fl (omega arith)

    rest-is : words_zeroed z (drop d fl) ≡ replicate z (pos 0) ++ drop z (drop d fl)
    rest-is =
        zeroed z (drop d fl) (omega (arith, rest-long)) ∙ overwrite-is (replicate z (pos 0)) (drop d fl)
        ∙ ap (λ m. replicate z (pos 0) ++ drop m (drop d fl)) (length-replicate z (pos 0))

    parts : emptied k n fl ≡ take d fl ++ (replicate z (pos 0) ++ drop z (drop d fl))
    parts = emptied_is k n fl h ∙ ap (λ t. take d fl ++ t) rest-is

    parts-long : length (take d fl ++ (replicate z (pos 0) ++ drop z (drop d fl))) ≡ length fl
    parts-long =
        length-append (take d fl) (replicate z (pos 0) ++ drop z (drop d fl))
        ∙ ap₂ ◌+◌ front_long
        (length-append (replicate z (pos 0)) (drop z (drop d fl))
        ∙ ap₂ ◌+◌ (length-replicate z (pos 0)) (length-drop z (drop d fl) ∙ ap (λ m. m - z) rest-long))
        ∙ (let e : d + (z + (length fl - d - z)) ≡ length fl = omega arith in e)

    zero-part : (i : ℕ) → i < z → word (emptied k n fl) (d + i) ≡ pos 0
    zero-part i g =
        ap (λ l. word l (d + i)) parts
        ∙ ap (λ m. word (take d fl ++ (replicate z (pos 0) ++ drop z (drop d fl))) (m + i)) (sym front_long)
        ∙ get_or-append-add (take d fl) (replicate z (pos 0) ++ drop z (drop d fl)) i (pos 0)
        ∙ get_or-append (replicate z (pos 0)) (drop z (drop d fl)) (pos 0) i
        (omega (arith, length-replicate z (pos 0)))
        ∙ get_or-replicate z i (pos 0) (pos 0) g

    before-part : (i : ℕ) → i < d → word (emptied k n fl) i ≡ word fl i
    before-part i g =
        ap (λ l. word l i) parts
        ∙ get_or-append (take d fl) (replicate z (pos 0) ++ drop z (drop d fl)) (pos 0) i (omega (arith, front_long))
        ∙ get_or-take d fl i (pos 0) g

    after_part : (i : ℕ) → word (emptied k n fl) (d + (z + i)) ≡ word fl (d + (z + i))
    after_part i =
        ap (λ l. word l (d + (z + i))) parts
        ∙ ap (λ m. word (take d fl ++ (replicate z (pos 0) ++ drop z (drop d fl))) (m + (z + i))) (sym front_long)
        ∙ get_or-append-add (take d fl) (replicate z (pos 0) ++ drop z (drop d fl)) (z + i) (pos 0)
        ∙ ap (λ m. word (replicate z (pos 0) ++ drop z (drop d fl)) (m + i)) (sym (length-replicate z (pos 0)))
        ∙ get_or-append-add (replicate z (pos 0)) (drop z (drop d fl)) i (pos 0)
        ∙ get_or-drop z (drop d fl) i (pos 0) ∙ get_or-drop d fl (z + i) (pos 0)

    emptied-part : Same d (d + z) fl (emptied k n fl)
    emptied-part =
        record { long = ap length parts ∙ parts-long; words = λ i g. ⊎_elim (before-part i) (after i) g }
      where
        after : (i : ℕ) → d + z ≤ i → word (emptied k n fl) i ≡ word fl i
        after i g =
            let e : d + (z + (i - d - z)) ≡ i = omega arith in
            subst (λ x. word (emptied k n fl) x ≡ word fl x) e (after_part (i - d - z))

  emptied-same : Same d (d + z) fl (emptied k n fl)
  emptied-same =
      ⊎_elim emptied-part
      (λ h. subst (Same d (d + z) fl) (sym (emptied_short k n fl h)) (same_self d (d + z) fl))
      (le-or (d + z) (length fl))

  pub emptied-length : length (emptied k n fl) ≡ length fl
  emptied-length = emptied-same.long

-- the groups made empty are not filled
pub emptied_unfiled : (k groups n : ℕ) (fl : List ℤ) → length fl ≡ 8192 → k ≤ 4 → n < groups
    → is_filed (emptied k groups fl) k n ≡ false
emptied_unfiled k groups n fl long few h = ⊎_elim inside past (le-or (suc n) 256)
  where
    past : 256 < suc n → is_filed (emptied k groups fl) k n ≡ false
    past g = filed_past (emptied k groups fl) k n (omega arith)

    room : words_before k + words_in groups ≤ length fl
    room = omega arith

    inside : n < 256 → is_filed (emptied k groups fl) k n ≡ false
    inside g =
        let e : words_before k + 2 * n ≡ 2 * mark_place k n = omega arith in
        filed-in (emptied k groups fl) k n g
        ∙ ap (λ (v : Value). le_z (pos 1) v.num)
        (read_in (emptied k groups fl) (mark_place k n) (omega (arith, emptied-length k groups fl)))
        ∙ ap (le_z (pos 1))
        (subst (λ i. word (emptied k groups fl) i ≡ pos 0) e (zero-part k groups fl room (2 * n) (omega arith)))

-- and every other region is as it was
pub emptied-region : (k groups : ℕ) (fl : List ℤ) (j : ℕ) → 1 ≤ k → 1 ≤ j → (j ≡ k → ⊥)
    → region j (emptied k groups fl) ≡ region j fl
emptied-region k groups fl j h g n =
    same-region (words_before k) (words_before k + words_in groups) fl (emptied k groups fl) j (emptied-same k groups fl)
    (⊎_elim (λ x. inl (omega arith)) (λ x. inr (omega arith)) (le-or j k))

-- ---- a slot filled
module _ (a : Asked) (k n i columns count : ℕ) (sets fl : List ℤ) where
  slot_same : (x y : ℕ) → x ≤ 2 * slot_place k n i → 2 * slot_place k n i + 2 ≤ y
      → Same x y fl (slot_filed a k n i columns count sets fl)
  slot_same x y h g = go (ℕ_discrete (function_at a (3 * k + i)) 255)
    where
      go : Dec (function_at a (3 * k + i) ≡ 255) → Same x y fl (slot_filed a k n i columns count sets fl)
      go (yes e) = subst (Same x y fl) (sym (slot-none a k n i columns count sets fl e)) (same_self x y fl)
      go (no e) =
          subst (Same x y fl) (sym (slot-some a k n i columns count sets fl e))
          (with_same fl (slot_place k n i) (slot_value a k i columns count sets) x y h g)

  slot_read : (function_at a (3 * k + i) ≡ 255 → ⊥) → slot_place k n i < room_of (length fl)
      → read_at (slot_filed a k n i columns count sets fl) (slot_place k n i) ≡ slot_value a k i columns count sets
  slot_read e h =
      ap (λ l. read_at l (slot_place k n i)) (slot-some a k n i columns count sets fl e)
      ∙ with_read fl (slot_place k n i) (slot_value a k i columns count sets) h

  slot-other : (q : ℕ) → (q ≡ slot_place k n i → ⊥)
      → read_at (slot_filed a k n i columns count sets fl) q ≡ read_at fl q
  slot-other q h =
      same_read (2 * slot_place k n i) (2 * slot_place k n i + 2) fl (slot_filed a k n i columns count sets fl) q
      (slot_same (2 * slot_place k n i) (2 * slot_place k n i + 2) (omega arith) (omega arith))
      (⊎_elim (λ x. inl (omega arith)) (λ x. inr (omega arith)) (le-or (suc q) (slot_place k n i)))

-- as many words as before
pub slots_length : (a : Asked) (k n columns count : ℕ) (sets fl : List ℤ) (i : ℕ)
    → length (slots_to a k n columns count sets fl i) ≡ length fl
unfolding slots_to
slots_length a k n columns count sets fl zero = refl
slots_length a k n columns count sets fl (suc i) =
    (slot_same a k n i columns count sets (slots_to a k n columns count sets fl i) 0 (2 * slot_place k n i + 2) (omega arith)
    (omega arith)).long
    ∙ slots_length a k n columns count sets fl i

-- what a slot asks for
pub slot_told : (a : Asked) (k i columns count : ℕ) (sets : List ℤ) (v : Value)
    → aggregate_in (function_at a (3 * k + i)) (column_at a (3 * k + i)) columns count sets ≡ Ok v
    → slot_value a k i columns count sets ≡ v
slot_told a k i columns count sets v e = slot_value_is a k i columns count sets ∙ ap told e

-- ---- a group filled
module _ (a : Asked) (k n columns count : ℕ) (sets fl : List ℤ) where
  abbrev one : List ℤ
  one = slot_filed a k n 0 columns count sets fl

  abbrev two : List ℤ
  two = slot_filed a k n 1 columns count sets one

  abbrev three : List ℤ
  three = slot_filed a k n 2 columns count sets two

  abbrev from : ℕ
  from = words_before k

  abbrev to : ℕ
  to = words_before k + 2048

  one_same : n < 256 → Same from to fl one
  one_same h = slot_same a k n 0 columns count sets fl from to (omega arith) (omega arith)

  two-same : n < 256 → Same from to fl two
  two-same h =
      same_then from to fl one two (one_same h)
      (slot_same a k n 1 columns count sets one from to (omega arith) (omega arith))

  three-same : n < 256 → Same from to fl three
  three-same h =
      same_then from to fl two three (two-same h)
      (slot_same a k n 2 columns count sets two from to (omega arith) (omega arith))

  whole : n < 256 → filed a k n columns count sets fl ≡ words_with three (mark_place k n) filled_mark
  whole h =
      group-in a k n columns count sets fl h
      ∙ ap (λ l. words_with l (mark_place k n) filled_mark) (slots_filed-is a k n columns count sets fl)

  -- the words outside the block's region are as they were
  filed-same : Same from to fl (filed a k n columns count sets fl)
  filed-same = ⊎_elim inside past (le-or (suc n) 256)
    where
      inside : n < 256 → Same from to fl (filed a k n columns count sets fl)
      inside h =
          subst (Same from to fl) (sym (whole h))
          (same_then from to fl three (words_with three (mark_place k n) filled_mark) (three-same h)
          (with_same three (mark_place k n) filled_mark from to (omega arith) (omega arith)))

      past : 256 < suc n → Same from to fl (filed a k n columns count sets fl)
      past h =
          subst (Same from to fl) (sym (group-past a k n columns count sets fl (omega arith)))
          (same_self from to fl)

  pub filed-length : length (filed a k n columns count sets fl) ≡ length fl
  filed-length = filed-same.long

  -- and so is the value at a place that is neither the mark's nor one of the three slots'
  abbrev Apart : ℕ → Type 0
  Apart q = (q ≡ mark_place k n → ⊥) × ((i : ℕ) → i < 3 → q ≡ slot_place k n i → ⊥)

  filed-apart : (q : ℕ) → (n < 256 → Apart q) → read_at (filed a k n columns count sets fl) q ≡ read_at fl q
  filed-apart q d = ⊎_elim (λ h. inside h (d h)) past (le-or (suc n) 256)
    where
      inside : n < 256 → Apart q → read_at (filed a k n columns count sets fl) q ≡ read_at fl q
      inside h d =
          ap (λ l. read_at l q) (whole h) ∙ with_other three (mark_place k n) filled_mark q d.0
          ∙ slot-other a k n 2 columns count sets two q (d.1 2 (omega arith))
          ∙ slot-other a k n 1 columns count sets one q (d.1 1 (omega arith))
          ∙ slot-other a k n 0 columns count sets fl q (d.1 0 (omega arith))

      past : 256 < suc n → read_at (filed a k n columns count sets fl) q ≡ read_at fl q
      past h = ap (λ l. read_at l q) (group-past a k n columns count sets fl (omega arith))

  -- every other group of the block tells what it told
  pub filed-other : (m : ℕ) → (m ≡ n → ⊥)
      → (is_filed (filed a k n columns count sets fl) k m ≡ is_filed fl k m)
      × ((i : ℕ) → i < 3
      → read_at (filed a k n columns count sets fl) (slot_place k m i) ≡ read_at fl (slot_place k m i))
  filed-other m h = (⊎_elim inside past (le-or (suc m) 256), read)
    where
      marked : m < 256 → read_at (filed a k n columns count sets fl) (mark_place k m) ≡ read_at fl (mark_place k m)
      marked l = filed-apart (mark_place k m) (λ g. (λ e. h (omega arith), λ i d e. omega arith))

      read : (i : ℕ) → i < 3
          → read_at (filed a k n columns count sets fl) (slot_place k m i) ≡ read_at fl (slot_place k m i)
      read i l = filed-apart (slot_place k m i) (λ g. (λ e. omega arith, λ j d e. h (omega arith)))

      inside : m < 256 → is_filed (filed a k n columns count sets fl) k m ≡ is_filed fl k m
      inside l = filed-agree fl (filed a k n columns count sets fl) k m (marked l)

      past : 256 < suc m → is_filed (filed a k n columns count sets fl) k m ≡ is_filed fl k m
      past l =
          filed_past (filed a k n columns count sets fl) k m (omega arith)
          ∙ sym (filed_past fl k m (omega arith))

  -- and so does every other block
  pub filed-region : (j : ℕ) → 1 ≤ k → 1 ≤ j → (j ≡ k → ⊥) → region j (filed a k n columns count sets fl) ≡ region
      j fl
  filed-region j h g d =
      same-region from to fl (filed a k n columns count sets fl) j filed-same
      (⊎_elim (λ x. inl (omega arith)) (λ x. inr (omega arith)) (le-or j k))

  -- the group itself is filled, and tells what the block's slots ask for
  module _ (long : length fl ≡ 8192) (few : k ≤ 4) (h : n < 256) where
    filed-mark : read_at (filed a k n columns count sets fl) (mark_place k n) ≡ filled_mark
    filed-mark =
        ap (λ l. read_at l (mark_place k n)) (whole h)
        ∙ with_read three (mark_place k n) filled_mark (omega (arith, (three-same h).long ∙ long))

    pub filed-marked : is_filed (filed a k n columns count sets fl) k n ≡ true
    filed-marked =
        filed-in (filed a k n columns count sets fl) k n h
        ∙ ap (λ (v : Value). le_z (pos 1) v.num) filed-mark

    pub filed-slot : (i : ℕ) → i < 3 → (function_at a (3 * k + i) ≡ 255 → ⊥)
        → read_at (filed a k n columns count sets fl) (slot_place k n i) ≡ slot_value a k i columns count sets
    filed-slot i g e =
        ap (λ l. read_at l (slot_place k n i)) (whole h)
        ∙ with_other three (mark_place k n) filled_mark (slot_place k n i) (λ x. omega arith) ∙ go i g e
      where
        go : (i : ℕ) → i < 3 → (function_at a (3 * k + i) ≡ 255 → ⊥)
            → read_at three (slot_place k n i) ≡ slot_value a k i columns count sets
        go zero g e =
            slot-other a k n 2 columns count sets two (slot_place k n 0) (λ x. omega arith)
            ∙ slot-other a k n 1 columns count sets one (slot_place k n 0) (λ x. omega arith)
            ∙ slot_read a k n 0 columns count sets fl e (omega arith)
        go (suc zero) g e =
            slot-other a k n 2 columns count sets two (slot_place k n 1) (λ x. omega arith)
            ∙ slot_read a k n 1 columns count sets one e (omega (arith, (one_same h).long ∙ long))
        go (suc (suc zero)) g e =
            slot_read a k n 2 columns count sets two e (omega (arith, (two-same h).long ∙ long))
        go (suc (suc (suc i))) g e = absurd (omega arith)
