-- The loop that moves words up, the last first: one turn of it for a word, for a value and for four values, and moving
-- in two parts. Assumes nothing.
use Prim.Native.Nat.{ℕ, zero, suc, ◌+◌, ◌*◌, ◌-◌, ◌<◌, ◌≤◌}
use native.Mathlib.Omega.{arith}
use mathlib.Core.Bool.{Bool, true, false}
use mathlib.Core.List.{List, ◌++◌}
use mathlib.Core.Path.{◌≡◌, refl, sym, ◌∙◌, ap}
use borrow.Author.Tests.{ltb-true, ltb-false, eqb-true, eqb-false}
use lib.Dec.{ltb, eqb}
use lib.ListN.{length, get_or, set, take, drop, length-set, length-take, length-drop, length-append, get_or-append}
use lib.Seq.{ext_get_or, get_or-set_same, get_or-set_other, get_or-take, get_or-drop, get_or-append-add, length-take-le, set_comm}
use lib.IntN.{ℤ, pos}
use Rattle.words.specs.Words.{room_of, words_of, value_at, with_value, shifted}

-- the words from j to e are moved up by m, those below j + m and from e + m on are as they were
pub record Moved (l : List ℤ) (p e m : ℕ) (s : List ℤ) (j : ℕ) : Type 0 where
  pub low : p ≤ j
  pub high : j ≤ e
  pub long : length s ≡ length l
  pub below : (k : ℕ) → k < j + m → get_or s k (pos 0) ≡ get_or l k (pos 0)
  pub moved : (k : ℕ) → j ≤ k → k < e → get_or s (k + m) (pos 0) ≡ get_or l k (pos 0)
  pub above : (k : ℕ) → e + m ≤ k → get_or s k (pos 0) ≡ get_or l k (pos 0)

pub moved_begin : (l : List ℤ) (p e m : ℕ) → p ≤ e → Moved l p e m l e
moved_begin l p e m h =
    record {
      low = h;
      high = omega arith;
      long = refl;
      below = λ k q. refl;
      moved = λ k q r. absurd (omega arith);
      above = λ k q. refl;
    }

module _ (l : List ℤ) (p e m : ℕ) (fits : e + m ≤ length l) (s : List ℤ) (j : ℕ) (h : Moved l p e m s j) where
  pub moved_more : p < j → Moved l p e m (set s (j - 1 + m) (get_or s (j - 1) (pos 0))) (j - 1)
  moved_more lt = record {
    low = omega arith;
    high = omega (arith, h.high);
    long = simp length-set h.long;
    below =
        λ k q. get_or-set_other s (j - 1 + m) k (get_or s (j - 1) (pos 0)) (pos 0) (λ x. omega arith)
        ∙ h.below k (omega arith);
    moved = λ k q r. go k (eqb k (j - 1)) refl q r;
    above =
        λ k q. get_or-set_other s (j - 1 + m) k (get_or s (j - 1) (pos 0)) (pos 0) (λ x. omega (arith, h.high))
        ∙ h.above k q;
  }
    where
      go : (k : ℕ) (t : Bool) → eqb k (j - 1) ≡ t → j - 1 ≤ k → k < e
          → get_or (set s (j - 1 + m) (get_or s (j - 1) (pos 0))) (k + m) (pos 0) ≡ get_or l k (pos 0)
      go k true t q r =
          let x : k ≡ j - 1 = eqb-true k (j - 1) t in
          rw x (get_or-set_same s (j - 1 + m) (get_or s (j - 1) (pos 0)) (pos 0) (omega (arith, h.long, h.high))
          ∙ h.below (j - 1) (omega arith))
      go k false t q r =
          let x = eqb-false k (j - 1) t in
          get_or-set_other s (j - 1 + m) (k + m) (get_or s (j - 1) (pos 0)) (pos 0) (λ y. x (omega arith))
          ∙ h.moved k (let z : k ≡ j - 1 → ⊥ = x in omega arith) r

  -- so at the end
  pub moved_end : j ≤ p → s ≡ shifted p e m l
  unfolding shifted
  moved_end le = ext_get_or (pos 0) s _ lengths each
    where
      lengths : length s ≡ length (take (p + m) l ++ take (e - p) (drop p l) ++ drop (e + m) l)
      lengths = simp (length-append, length-take, length-drop) (omega (arith, h.long, h.low, h.high))

      front : length (take (p + m) l) ≡ p + m
      front = length-take-le (p + m) l (omega (arith, h.low, h.high))

      mid : length (take (e - p) (drop p l)) ≡ e - p
      mid = length-take-le (e - p) (drop p l) (simp length-drop (omega (arith, h.low, h.high)))

      first : (i : ℕ) → i < p + m
          → get_or s i (pos 0) ≡ get_or (take (p + m) l ++ take (e - p) (drop p l) ++ drop (e + m) l) i (pos 0)
      first i q = h.below i (omega (arith, h.low)) ∙ sym (
          get_or-append (take (p + m) l ++ take (e - p) (drop p l)) (drop (e + m) l) (pos 0) i
          (simp length-append (omega (arith, front)))
          ∙ get_or-append (take (p + m) l) (take (e - p) (drop p l)) (pos 0) i (omega (arith, front))
          ∙ get_or-take (p + m) l i (pos 0) q)

      second : (i : ℕ) → p + m ≤ i → i < e + m
          → get_or s i (pos 0) ≡ get_or (take (p + m) l ++ take (e - p) (drop p l) ++ drop (e + m) l) i (pos 0)
      second i q r =
          let a : i ≡ (i - m) + m = omega arith in
          let b : i ≡ length (take (p + m) l) + (i - (p + m)) = omega (arith, front) in
          let g : p + (i - (p + m)) ≡ i - m = omega arith in
          ap (λ k. get_or s k (pos 0)) a ∙ h.moved (i - m) (omega arith) (omega arith) ∙ sym (
          get_or-append (take (p + m) l ++ take (e - p) (drop p l)) (drop (e + m) l) (pos 0) i
          (simp length-append (omega (arith, front, mid)))
          ∙ ap (λ k. get_or (take (p + m) l ++ take (e - p) (drop p l)) k (pos 0)) b
          ∙ get_or-append-add (take (p + m) l) (take (e - p) (drop p l)) (i - (p + m)) (pos 0)
          ∙ get_or-take (e - p) (drop p l) (i - (p + m)) (pos 0) (omega arith)
          ∙ get_or-drop p l (i - (p + m)) (pos 0)
          ∙ ap (λ k. get_or l k (pos 0)) g)

      third : (i : ℕ) → e + m ≤ i
          → get_or s i (pos 0) ≡ get_or (take (p + m) l ++ take (e - p) (drop p l) ++ drop (e + m) l) i (pos 0)
      third i q =
          let x : length (take (p + m) l ++ take (e - p) (drop p l)) ≡ e + m = simp length-append
          (omega (arith, front, mid, h.low, h.high)) in
          let b : i ≡ length (take (p + m) l ++ take (e - p) (drop p l)) + (i - (e + m)) = omega arith in
          let g : e + m + (i - (e + m)) ≡ i = omega arith in
          h.above i q ∙ sym (
          ap (λ k. get_or (take (p + m) l ++ take (e - p) (drop p l) ++ drop (e + m) l) k (pos 0)) b
          ∙ get_or-append-add (take (p + m) l ++ take (e - p) (drop p l)) (drop (e + m) l) (i - (e + m)) (pos 0)
          ∙ get_or-drop (e + m) l (i - (e + m)) (pos 0)
          ∙ ap (λ k. get_or l k (pos 0)) g)

      each : (i : ℕ) → i < length s
          → get_or s i (pos 0) ≡ get_or (take (p + m) l ++ take (e - p) (drop p l) ++ drop (e + m) l) i (pos 0)
      each i q = go (ltb i (p + m)) (ltb i (e + m)) refl refl
        where
          go : (a b : Bool) → ltb i (p + m) ≡ a → ltb i (e + m) ≡ b
              → get_or s i (pos 0) ≡ get_or (take (p + m) l ++ take (e - p) (drop p l) ++ drop (e + m) l) i (pos 0)
          go true b x y = first i (ltb-true i (p + m) x)
          go false true x y = second i (ltb-false i (p + m) x) (ltb-true i (e + m) y)
          go false false x y = third i (ltb-false i (e + m) y)

-- ---- moving in two parts
-- the words s after n turns from j down
turns : ℕ → ℕ → List ℤ → ℕ → List ℤ
turns m zero s j = s
turns m (suc n) s j = set (turns m n s j) (j - n - 1 + m) (get_or (turns m n s j) (j - n - 1) (pos 0))

moved_turns : (l : List ℤ) (p e m : ℕ) → e + m ≤ length l → (s : List ℤ) (j : ℕ) → Moved l p e m s j
    → (n : ℕ) → p + n ≤ j → Moved l p e m (turns m n s j) (j - n)
unfolding turns
moved_turns l p e m fits s j h zero q = let i : j - 0 ≡ j = omega arith in rw i h
moved_turns l p e m fits s j h (suc n) q =
    let b = moved_more l p e m fits (turns m n s j) (j - n)
    (moved_turns l p e m fits s j h n (omega arith)) (omega arith) in
    let i : j - suc n ≡ j - n - 1 = omega arith in
    rw i b

-- moving the words from j to e is the state of the loop at j
moved_of_shifted : (l : List ℤ) (p e m : ℕ) → e + m ≤ length l → (j : ℕ) → p ≤ j → j ≤ e
    → Moved l p e m (shifted j e m l) j
moved_of_shifted l p e m fits j low high =
    let i : e - (e - j) ≡ j = omega arith in
    let a = moved_turns l p e m fits l e (moved_begin l p e m (omega arith)) (e - j) (omega arith) in
    let b = moved_turns l j e m fits l e (moved_begin l j e m high) (e - j) (omega arith) in
    let same : turns m (e - j) l e ≡ shifted j e m l = moved_end l j e m fits _ (e - (e - j)) b (omega arith) in
    rw same at (rw i at a)

-- the words from j to e moved, then those from p to j: those from p to e moved
pub shifted_join : (l : List ℤ) (p j e m : ℕ) → e + m ≤ length l → p ≤ j → j ≤ e
    → shifted p j m (shifted j e m l) ≡ shifted p e m l
shifted_join l p j e m fits low high =
    let s = shifted j e m l in
    let h = moved_of_shifted l p e m fits j low high in
    let fits' : j + m ≤ length s = omega (arith, h.long) in
    let a = moved_turns l p e m fits s j h (j - p) (omega arith) in
    let b = moved_turns s p j m fits' s j (moved_begin s p j m low) (j - p) (omega arith) in
    sym (moved_end s p j m fits' _ (j - (j - p)) b (omega arith))
    ∙ moved_end l p e m fits _ (j - (j - p)) a (omega arith)

-- none moved
pub shifted_none : (l : List ℤ) (e m : ℕ) → e + m ≤ length l → l ≡ shifted e e m l
shifted_none l e m fits = moved_end l e e m fits l e (moved_begin l e e m (omega arith)) (omega arith)

-- ---- a value is two words
-- the value at place j - 1 put m places further up
pub moved_value : (l : List ℤ) (p e m : ℕ) → e + m ≤ room_of (length l) → (s : List ℤ) (j : ℕ)
    → Moved l (words_of p) (words_of e) (words_of m) s (words_of j) → p < j
    → Moved l (words_of p) (words_of e) (words_of m) (with_value s (j - 1 + m) (value_at s (j - 1))) (words_of (j - 1))
moved_value l p e m fits s j h lt =
    let a = moved_more l (2 * p) (2 * e) (2 * m) (omega arith) s (2 * j) h (omega arith) in
    let b = moved_more l (2 * p) (2 * e) (2 * m) (omega arith) _ (2 * j - 1) a (omega arith) in
    let i : 2 * j - 1 ≡ 2 * (j - 1) + 1 = omega arith in
    let k : 2 * (j - 1) + 1 + 2 * m ≡ 2 * (j - 1 + m) + 1 = omega arith in
    let i' : 2 * (j - 1) + 1 - 1 ≡ 2 * (j - 1) = omega arith in
    let k' : 2 * (j - 1) + 2 * m ≡ 2 * (j - 1 + m) = omega arith in
    let same : get_or (set s (2 * (j - 1 + m) + 1) (get_or s (2 * (j - 1) + 1) (pos 0))) (2 * (j - 1)) (pos 0)
    ≡ get_or s (2 * (j - 1)) (pos 0)
    = get_or-set_other s (2 * (j - 1 + m) + 1) (2 * (j - 1)) (get_or s (2 * (j - 1) + 1) (pos 0)) (pos 0)
    (λ x. omega arith) in
    let both = set_comm s (2 * (j - 1 + m)) (2 * (j - 1 + m) + 1) (get_or s (2 * (j - 1)) (pos 0))
    (get_or s (2 * (j - 1) + 1) (pos 0)) (λ x. omega arith) in
    rw both (rw (i, i', k, k', same) at b)

-- the same with the value as it was before the loop
moved_first : (l : List ℤ) (p e m : ℕ) → e + m ≤ room_of (length l) → (s : List ℤ) (k j : ℕ) → k ≡ j + 1
    → Moved l (words_of p) (words_of e) (words_of m) s (words_of k) → p ≤ j
    → Moved l (words_of p) (words_of e) (words_of m) (with_value s (j + m) (value_at l j)) (words_of j)
moved_first l p e m fits s k j q h le =
    let i : k - 1 ≡ j = omega arith in
    let a = moved_value l p e m fits s k h (omega arith) in
    let x : get_or s (2 * j) (pos 0) ≡ get_or l (2 * j) (pos 0) = h.below (2 * j) (omega arith) in
    let y : get_or s (2 * j + 1) (pos 0) ≡ get_or l (2 * j + 1) (pos 0) = h.below (2 * j + 1) (omega arith) in
    rw (i, x, y) at a

-- four values read, then put, the last first
pub moved_four : (l : List ℤ) (j m : ℕ) → j + 4 + m ≤ room_of (length l)
    → with_value
    (with_value (with_value (with_value l (j + 3 + m) (value_at l (j + 3))) (j + 2 + m) (value_at l (j + 2))) (j + 1 + m)
    (value_at l (j + 1))) (j + m) (value_at l j)
    ≡ shifted (words_of j) (words_of (j + 4)) (words_of m) l
moved_four l j m fits =
    let start = moved_begin l (2 * j) (2 * (j + 4)) (2 * m) (omega arith) in
    let d = moved_first l j (j + 4) m fits l (j + 4) (j + 3) (omega arith) start (omega arith) in
    let c = moved_first l j (j + 4) m fits _ (j + 3) (j + 2) (omega arith) d (omega arith) in
    let b = moved_first l j (j + 4) m fits _ (j + 2) (j + 1) (omega arith) c (omega arith) in
    let a = moved_first l j (j + 4) m fits _ (j + 1) j (omega arith) b (omega arith) in
    moved_end l (2 * j) (2 * (j + 4)) (2 * m) (omega arith) _ (2 * j) a (omega arith)
