-- Bisection in a strictly ascending list finds the place where `insert` puts a member. The order is any that is linear
-- on the members, and the search any that halves: its steps are given by equations, its result by two functions of a
-- place.
--   insert-at, insert-there   insertion where the place is known: new there, or there already
--   ascending-at, all-at      two places of an ascending list; a place of a list whose members have P
--   middle lo hi              the place halfway from lo to hi
--   Bisects ..                how the search of x goes on, with f steps left between lo and hi
--   Told r                    what a result r tells of the insertion
--   bisected                  a search through the whole list tells the truth
use Prim.Native.Nat.{ℕ, zero, suc, ◌+◌, ◌-◌, ◌/◌, ◌<◌, ◌≤◌, Ordering}
use native.Mathlib.Omega.{arith}
use mathlib.Core.Bool.{Bool, true, false}
use mathlib.Core.List.{List, [], ◌∷◌, ◌++◌}
use mathlib.Core.Path.{◌≡◌, refl, sym, ap, subst}
use borrow.Author.Tests.{ltb-true, ltb-false}
use lib.Dec.{ltb}
use lib.ListN.{length, get_or, take, drop}
use Rattle.model.specs.Lists.{All}
use Rattle.model.specs.RowSet.{insert}
use Rattle.model.proofs.SetLaws.{Linear, Ascending, Under, turn-back}

module _ {A : Type 0} (cmp : A → A → Ordering) (d : A) where
  pub insert-at : (x : A) (s : List A) (k : ℕ) → k ≤ length s
      → ((i : ℕ) → i < k → cmp x (get_or s i d) ≡ Ordering.gt) → (k < length s → cmp x (get_or s k d) ≡ Ordering.lt)
      → insert cmp x s ≡ take k s ++ (x ∷ drop k s)
  unfolding insert
  insert-at x [] zero h f g = refl
  insert-at x [] (suc k) h f g = absurd (omega arith)
  insert-at x (y ∷ ys) zero h f g = rw (g (omega arith), insert) refl
  insert-at x (y ∷ ys) (suc k) h f g =
      rw (f 0 (omega arith), insert)
      (ap (λ t. y ∷ t) (insert-at x ys k (omega arith) (λ i l. f (suc i) (omega arith)) (λ l. g (omega arith))))

  pub insert-there : (x : A) (s : List A) (k : ℕ) → k < length s
      → ((i : ℕ) → i < k → cmp x (get_or s i d) ≡ Ordering.gt) → cmp x (get_or s k d) ≡ Ordering.eq
      → insert cmp x s ≡ s
  unfolding insert
  insert-there x [] k h f g = absurd (omega arith)
  insert-there x (y ∷ ys) zero h f g = rw (g, insert) refl
  insert-there x (y ∷ ys) (suc k) h f g =
      rw (f 0 (omega arith), insert)
      (ap (λ t. y ∷ t) (insert-there x ys k (omega arith) (λ i l. f (suc i) (omega arith)) g))

  under_at : (x : A) (s : List A) (i : ℕ) → i < length s → Under cmp x s → cmp x (get_or s i d) ≡ Ordering.lt
  under_at x [] i h u = absurd (omega arith)
  under_at x (y ∷ ys) zero h u = u.0
  under_at x (y ∷ ys) (suc i) h u = under_at x ys i (omega arith) u.1

  pub ascending-at : (s : List A) (i j : ℕ) → i < j → j < length s → Ascending cmp s
      → cmp (get_or s i d) (get_or s j d) ≡ Ordering.lt
  ascending-at [] i j h k a = absurd (omega arith)
  ascending-at (y ∷ ys) i zero h k a = absurd (omega arith)
  ascending-at (y ∷ ys) zero (suc j) h k a = under_at y ys j (omega arith) a.0
  ascending-at (y ∷ ys) (suc i) (suc j) h k a = ascending-at ys i j (omega arith) (omega arith) a.1

pub all-at : {A : Type 0} (P : A → Type 0) (d : A) (s : List A) (i : ℕ) → i < length s → All P s → P (get_or s i d)
all-at P d [] i h u = absurd (omega arith)
all-at P d (y ∷ ys) zero h u = u.0
all-at P d (y ∷ ys) (suc i) h u = all-at P d ys i (omega arith) u.1

abbrev pub middle : ℕ → ℕ → ℕ
middle lo hi = lo + (hi - lo) / 2

module _ {A R : Type 0} (cmp : A → A → Ordering) (d x : A) (s : List A) (found absent : ℕ → R) where
  pub record Bisects (run : ℕ → ℕ → ℕ → R) : Type 0 where
    pub done : (f lo hi : ℕ) → hi ≤ lo → run f lo hi ≡ absent lo
    pub less : (f lo hi : ℕ) → lo < hi → hi ≤ length s → cmp x (get_or s (middle lo hi) d) ≡ Ordering.lt
        → run (suc f) lo hi ≡ run f lo (middle lo hi)
    pub equal : (f lo hi : ℕ) → lo < hi → hi ≤ length s → cmp x (get_or s (middle lo hi) d) ≡ Ordering.eq
        → run (suc f) lo hi ≡ found (middle lo hi)
    pub greater : (f lo hi : ℕ) → lo < hi → hi ≤ length s → cmp x (get_or s (middle lo hi) d) ≡ Ordering.gt
        → run (suc f) lo hi ≡ run f (middle lo hi + 1) hi

  pub data Told (r : R) : Type 0 where
    there : (k : ℕ) → r ≡ found k → k < length s → insert cmp x s ≡ s → Told r
    new : (k : ℕ) → r ≡ absent k → k ≤ length s → insert cmp x s ≡ take k s ++ (x ∷ drop k s) → Told r

module _ {A R : Type 0} (P : A → Type 0) (cmp : A → A → Ordering) (L : Linear P cmp) (d x : A) (s : List A)
    (p : P x) (u : All P s) (a : Ascending cmp s) (found absent : ℕ → R) (run : ℕ → ℕ → ℕ → R)
    (B : Bisects cmp d x s found absent run) where
  -- x is above all members before lo and below all from hi on
  pub record Split (lo hi : ℕ) : Type 0 where
    pub order : lo ≤ hi
    pub top : hi ≤ length s
    pub above : (i : ℕ) → i < lo → cmp x (get_or s i d) ≡ Ordering.gt
    pub below : (i : ℕ) → hi ≤ i → i < length s → cmp x (get_or s i d) ≡ Ordering.lt

  above_before : (m i : ℕ) → m < length s → i < m → cmp x (get_or s m d) ≡ Ordering.gt → cmp x (get_or s i d) ≡ Ordering.gt
  above_before m i h l e =
      let q = all-at P d s m h u in let r = all-at P d s i (omega arith) u in
      turn-back P cmp L (get_or s i d) x r p
      (L.chain (get_or s i d) (get_or s m d) x r q p (ascending-at cmp d s i m l h a) (L.turn x (get_or s m d) p q e))

  below-after : (m i : ℕ) → i < length s → m < i → cmp x (get_or s m d) ≡ Ordering.lt → cmp x (get_or s i d) ≡ Ordering.lt
  below-after m i h l e =
      let q = all-at P d s m (omega arith) u in let r = all-at P d s i h u in
      L.chain x (get_or s m d) (get_or s i d) p q r e (ascending-at cmp d s m i l h a)

  module _ (lo hi : ℕ) (h : Split lo hi) (lt : lo < hi) where
    abbrev mid : ℕ
    mid = middle lo hi

    inside : mid < length s
    inside = omega (arith, h.top)

    lower : cmp x (get_or s mid d) ≡ Ordering.lt → Split lo mid
    lower e = record {
      order = omega arith;
      top = omega (arith, h.top);
      above = h.above;
      below = λ i q r. after i q r (ltb mid i) refl;
    }
      where
        after : (i : ℕ) → mid ≤ i → i < length s → (t : Bool) → ltb mid i ≡ t → cmp x (get_or s i d) ≡ Ordering.lt
        after i q r true t = below-after mid i r (ltb-true mid i t) e
        after i q r false t = let z : i ≡ mid = omega (arith, ltb-false mid i t) in rw z e

    upper : cmp x (get_or s mid d) ≡ Ordering.gt → Split (mid + 1) hi
    upper e =
        record { order = omega arith; top = h.top; above = λ i q. before i q (ltb i mid) refl; below = h.below }
      where
        before : (i : ℕ) → i < mid + 1 → (t : Bool) → ltb i mid ≡ t → cmp x (get_or s i d) ≡ Ordering.gt
        before i q true t = above_before mid i inside (ltb-true i mid t) e
        before i q false t = let z : i ≡ mid = omega (arith, ltb-false i mid t) in rw z e

    above_equal : cmp x (get_or s mid d) ≡ Ordering.eq → (i : ℕ) → i < mid → cmp x (get_or s i d) ≡ Ordering.gt
    above_equal e i l =
        let q = all-at P d s mid inside u in
        let r = all-at P d s i (omega (arith, inside)) u in
        let z : x ≡ get_or s mid d = L.same x (get_or s mid d) p q e in
        turn-back P cmp L (get_or s i d) x r p
        (subst (λ y. cmp (get_or s i d) y ≡ Ordering.lt) (sym z) (ascending-at cmp d s i mid l inside a))

    -- by the order of x and the member in the middle
    next : (o : Ordering) → cmp x (get_or s mid d) ≡ o → (f : ℕ)
        → ((lo hi : ℕ) → Split lo hi → hi - lo ≤ f → Told cmp d x s found absent (run f lo hi)) → hi - lo ≤ suc f
        → Told cmp d x s found absent (run (suc f) lo hi)
    next Ordering.lt e f again k = rw (B.less f lo hi lt h.top e) (again lo mid (lower e) (omega arith))
    next Ordering.eq e f again k =
        there mid (B.equal f lo hi lt h.top e) inside
        (insert-there cmp d x s mid inside (λ i l. above_equal e i l) e)
    next Ordering.gt e f again k = rw (B.greater f lo hi lt h.top e) (again (mid + 1) hi (upper e) (omega arith))

  ended : (f lo hi : ℕ) → Split lo hi → hi ≤ lo → Told cmp d x s found absent (run f lo hi)
  ended f lo hi h le =
      new lo (B.done f lo hi le) (omega (arith, h.order, h.top))
      (insert-at cmp d x s lo (omega (arith, h.order, h.top)) h.above (λ q. h.below lo le q))

  told : (f lo hi : ℕ) → Split lo hi → hi - lo ≤ f → Told cmp d x s found absent (run f lo hi)
  told zero lo hi h k = ended zero lo hi h (omega arith)
  told (suc f) lo hi h k = go (λ a b q r. told f a b q r) (ltb lo hi) refl
    where
      go : ((a b : ℕ) → Split a b → b - a ≤ f → Told cmp d x s found absent (run f a b)) → (t : Bool) → ltb lo hi ≡ t
          → Told cmp d x s found absent (run (suc f) lo hi)
      go again true t = next lo hi h (ltb-true lo hi t) (cmp x (get_or s (middle lo hi) d)) refl f again k
      go again false t = ended (suc f) lo hi h (ltb-false lo hi t)

  pub bisected : Told cmp d x s found absent (run (length s) 0 (length s))
  bisected =
      told (length s) 0 (length s)
      (record {
        order = omega arith;
        top = omega arith;
        above = λ i q. absurd (omega arith);
        below = λ i q r. absurd (omega arith);
      })
      (omega arith)
