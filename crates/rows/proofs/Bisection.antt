-- In a strictly ascending list bisection finds the place where the model inserts. Assumes nothing.
use Prim.Native.Nat.{ℕ, zero, suc, ◌+◌, ◌-◌, ◌<◌, ◌≤◌, Ordering}
use native.Mathlib.Omega.{arith}
use mathlib.Core.Path.{◌≡◌, refl, sym, ap, subst}
use mathlib.Core.Bool.{Bool, true, false}
use mathlib.Core.List.{List, [], ◌∷◌, ◌++◌}
use lib.Dec.{ltb}
use borrow.Author.Tests.{ltb-true, ltb-false}
use lib.ListN.{length, get_or, take, drop}
use Rattle.model.specs.RowSet.{insert}
use Rattle.model.specs.Lists.{All}
use Rattle.model.proofs.SetLaws.{Linear, Ascending, Under, turn-back}
use Rattle.std.specs.Prelude.{Option, Result, Ok}
use Rattle.std.specs.declared.cmp.Ordering as compared
use Rattle.value.specs.Exact.{tell}
use Rattle.rows.specs.declared.Place.{Place}
use Rattle.rows.specs.declared.Place.TheVariants as place
use Rattle.rows.specs.declared.Fault.{Fault}
use Rattle.rows.specs.Insertion.{lower, upper, middle, turn_of, bisect}
use Rattle.words.proofs.Decoding.{all-at}
use Rattle.rows.proofs.SearchLoop.{bisect_done, bisect-step, middle_below}

module _ {A : Type 0} (cmp : A → A → Ordering) (d : A) where
  -- the model's insertion, where the place is known
  pub insert-at : (x : A) (s : List A) (k : ℕ) → k ≤ length s → ((i : ℕ) → i < k → cmp x (get_or s i d) ≡ Ordering.gt)
      → (k < length s → cmp x (get_or s k d) ≡ Ordering.lt) → insert cmp x s ≡ take k s ++ (x ∷ drop k s)
  unfolding insert
  insert-at x [] k h f g = go k h
    where
      go : (k : ℕ) → k ≤ 0 → x ∷ [] ≡ take k [] ++ (x ∷ drop k [])
      go zero h = refl
      go (suc k) h = absurd (omega arith)
  insert-at x (y ∷ ys) zero h f g = rw (g (omega arith), insert) refl
  insert-at x (y ∷ ys) (suc k) h f g =
      rw (f 0 (omega arith), insert)
      (ap (λ t. y ∷ t) (insert-at x ys k (omega arith) (λ i l. f (suc i) (omega arith)) (λ l. g (omega arith))))

  pub insert-there : (x : A) (s : List A) (k : ℕ) → k < length s → ((i : ℕ) → i < k → cmp x (get_or s i d) ≡ Ordering.gt)
      → cmp x (get_or s k d) ≡ Ordering.eq → insert cmp x s ≡ s
  unfolding insert
  insert-there x [] k h f g = absurd (omega arith)
  insert-there x (y ∷ ys) zero h f g = rw (g, insert) refl
  insert-there x (y ∷ ys) (suc k) h f g =
      rw (f 0 (omega arith), insert)
      (ap (λ t. y ∷ t) (insert-there x ys k (omega arith) (λ i l. f (suc i) (omega arith)) g))

  under_at : (x : A) (s : List A) (i : ℕ) → i < length s → Under cmp x s → cmp x (get_or s i d) ≡ Ordering.lt
  under_at x [] i h u = absurd (omega arith)
  under_at x (y ∷ ys) zero h u = u.0
  under_at x (y ∷ ys) (suc i) h u = under_at x ys i (omega arith) u.1

  pub ascending-at : (s : List A) (i j : ℕ) → i < j → j < length s → Ascending cmp s
      → cmp (get_or s i d) (get_or s j d) ≡ Ordering.lt
  ascending-at [] i j h k a = absurd (omega arith)
  ascending-at (y ∷ ys) i zero h k a = absurd (omega arith)
  ascending-at (y ∷ ys) zero (suc j) h k a = under_at y ys j (omega arith) a.0
  ascending-at (y ∷ ys) (suc i) (suc j) h k a = ascending-at ys i j (omega arith) (omega arith) a.1

-- what the bisection tells of the insertion
pub data Told {A : Type 0} (cmp : A → A → Ordering) (x : A) (s : List A) : Result Place Fault → Type 0 where
  there : {k : ℕ} → insert cmp x s ≡ s → Told cmp x s (Ok (place.There k))
  new : {k : ℕ} → k ≤ length s → insert cmp x s ≡ take k s ++ (x ∷ drop k s) → Told cmp x s (Ok (place.New k))

module _ {A : Type 0} (P : A → Type 0) (cmp : A → A → Ordering) (L : Linear P cmp) (d x : A) (s : List A) (p : P x)
    (u : All P s) (a : Ascending cmp s) (at : ℕ → Option compared.Ordering)
    (by : (i : ℕ) → i < length s → at i ≡ tell (cmp x (get_or s i d))) where
  pub record Split (lo hi : ℕ) : Type 0 where
    pub order : lo ≤ hi
    pub top : hi ≤ length s
    pub above : (i : ℕ) → i < lo → cmp x (get_or s i d) ≡ Ordering.gt
    pub below : (i : ℕ) → hi ≤ i → i < length s → cmp x (get_or s i d) ≡ Ordering.lt

  -- x above row m is above all before it, x below row m below all after it
  above_before : (m i : ℕ) → m < length s → i < m → cmp x (get_or s m d) ≡ Ordering.gt → cmp x (get_or s i d) ≡ Ordering.gt
  above_before m i h l e =
      let q = all-at P d s m h u in let r = all-at P d s i (omega arith) u in
      turn-back P cmp L (get_or s i d) x r p
      (L.chain (get_or s i d) (get_or s m d) x r q p (ascending-at cmp d s i m l h a) (L.turn x (get_or s m d) p q e))

  below-after : (m i : ℕ) → i < length s → m < i → cmp x (get_or s m d) ≡ Ordering.lt → cmp x (get_or s i d) ≡ Ordering.lt
  below-after m i h l e =
      let q = all-at P d s m (omega arith) u in let r = all-at P d s i h u in
      L.chain x (get_or s m d) (get_or s i d) p q r e (ascending-at cmp d s m i l h a)

  module _ (lo hi : ℕ) (h : Split lo hi) (lt : lo < hi) where
    abbrev mid : ℕ
    mid = middle lo hi

    inside : mid < length s
    inside = middle_below lo hi (length s) lt h.top

    -- by the order of x and the row in the middle
    next : (o : Ordering) → cmp x (get_or s mid d) ≡ o → (f : ℕ)
        → ((lo hi : ℕ) → Split lo hi → hi - lo ≤ f → Told cmp x s (bisect at f lo hi)) → hi - lo ≤ suc f
        → Told cmp x s (turn_of (tell o) mid (bisect at f (lower (tell o) mid lo) (upper (tell o) mid hi)))
    next Ordering.lt e f again k =
        again lo mid
        (record {
          order = omega arith;
          top = omega (arith, h.top);
          above = h.above;
          below = λ i q r. after i q r (ltb mid i) refl;
        })
        (omega arith)
      where
        after : (i : ℕ) → mid ≤ i → i < length s → (t : Bool) → ltb mid i ≡ t → cmp x (get_or s i d) ≡ Ordering.lt
        after i q r true t = below-after mid i r (ltb-true mid i t) e
        after i q r false t = let z : i ≡ mid = omega (arith, ltb-false mid i t) in rw z e
    next Ordering.eq e f again k = there (insert-there cmp d x s mid inside (λ i l. above_equal i l) e)
      where
        above_equal : (i : ℕ) → i < mid → cmp x (get_or s i d) ≡ Ordering.gt
        above_equal i l =
            let q = all-at P d s mid inside u in
            let r = all-at P d s i (omega (arith, inside)) u in
            let z : x ≡ get_or s mid d = L.same x (get_or s mid d) p q e in
            turn-back P cmp L (get_or s i d) x r p
            (subst (λ y. cmp (get_or s i d) y ≡ Ordering.lt) (sym z) (ascending-at cmp d s i mid l inside a))
    next Ordering.gt e f again k =
        again (mid + 1) hi
        (record { order = omega arith; top = h.top; above = λ i q. before i q (ltb i mid) refl; below = h.below })
        (omega arith)
      where
        before : (i : ℕ) → i < mid + 1 → (t : Bool) → ltb i mid ≡ t → cmp x (get_or s i d) ≡ Ordering.gt
        before i q true t = above_before mid i inside (ltb-true i mid t) e
        before i q false t = let z : i ≡ mid = omega (arith, ltb-false i mid t) in rw z e

  ended : (f lo hi : ℕ) → Split lo hi → hi ≤ lo → Told cmp x s (bisect at f lo hi)
  ended f lo hi h le =
      rw (bisect_done at f lo hi le)
      (new {k = lo} (omega (arith, h.order, h.top))
      (insert-at cmp d x s lo (omega (arith, h.order, h.top)) h.above (λ q. h.below lo le q)))

  told : (f lo hi : ℕ) → Split lo hi → hi - lo ≤ f → Told cmp x s (bisect at f lo hi)
  told zero lo hi h k = ended zero lo hi h (omega arith)
  told (suc f) lo hi h k = go (λ a b q r. told f a b q r) (ltb lo hi) refl
    where
      go : ((a b : ℕ) → Split a b → b - a ≤ f → Told cmp x s (bisect at f a b)) → (t : Bool) → ltb lo hi ≡ t
          → Told cmp x s (bisect at (suc f) lo hi)
      go again true t =
          let lt = ltb-true lo hi t in
          let m = by (middle lo hi) (inside lo hi h lt) in
          rw (bisect-step at f lo hi lt, m) (next lo hi h lt (cmp x (get_or s (middle lo hi) d)) refl f again k)
      go again false t = ended (suc f) lo hi h (ltb-false lo hi t)

  pub bisected : Told cmp x s (bisect at (length s) 0 (length s))
  bisected =
      told (length s) 0 (length s)
      (record {
        order = omega arith;
        top = omega arith;
        above = λ i q. absurd (omega arith);
        below = λ i q r. absurd (omega arith);
      }) (omega arith)
