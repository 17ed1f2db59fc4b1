-- Insertion into a strictly ascending list, and that such lists with the same members are equal.
-- The order is linear on the members that have P: two of these that compare equal are the same.
use Prim.Native.Nat.{ℕ, Ordering}
use native.Mathlib.Omega.{arith}
use mathlib.Core.List.{List, [], ◌∷◌}
use mathlib.Core.Logic.{◌⊎◌, inl, inr}
use mathlib.Core.Path.{◌≡◌, refl, sym, subst}
use Rattle.model.specs.Lists.{In, All}
use Rattle.model.specs.RowSet.{insert}

module _ {A : Type 0} (P : A → Type 0) (cmp : A → A → Ordering) where
  pub record Linear : Type 0 where
    pub same : (x y : A) → P x → P y → cmp x y ≡ Ordering.eq → x ≡ y
    pub self : (x : A) → cmp x x ≡ Ordering.eq
    pub turn : (x y : A) → P x → P y → cmp x y ≡ Ordering.gt → cmp y x ≡ Ordering.lt
    pub chain : (x y z : A) → P x → P y → P z → cmp x y ≡ Ordering.lt → cmp y z ≡ Ordering.lt → cmp x z ≡ Ordering.lt

module _ {A : Type 0} (cmp : A → A → Ordering) where
  abbrev pub Under : A → List A → Type 0
  Under x [] = Unit {0}
  Under x (y ∷ ys) = (cmp x y ≡ Ordering.lt) × Under x ys

  abbrev pub Ascending : List A → Type 0
  Ascending [] = Unit {0}
  Ascending (x ∷ xs) = Under x xs × Ascending xs

module _ {A : Type 0} (cmp : A → A → Ordering) where
  pub insert_all : (Q : A → Type 0) (x : A) (l : List A) → Q x → All Q l → All Q (insert cmp x l)
  unfolding insert
  insert_all Q x [] h u = (h, tt)
  insert_all Q x (z ∷ zs) h u = go (insert_all Q x zs h u.1) (cmp x z) refl
    where
      go : All Q (insert cmp x zs) → (o : Ordering) → cmp x z ≡ o → All Q (insert cmp x (z ∷ zs))
      go r Ordering.lt e = rw (e, insert) (h, u)
      go r Ordering.eq e = rw (e, insert) u
      go r Ordering.gt e = rw (e, insert) (u.0, r)

  pub insert-old : (x a : A) (l : List A) → In a l → In a (insert cmp x l)
  unfolding insert
  insert-old x a (z ∷ zs) (inl p) = go (cmp x z) refl
    where
      go : (o : Ordering) → cmp x z ≡ o → In a (insert cmp x (z ∷ zs))
      go Ordering.lt e = rw (e, insert) (inr (inl p))
      go Ordering.eq e = rw (e, insert) (inl p)
      go Ordering.gt e = rw (e, insert) (inl p)
  insert-old x a (z ∷ zs) (inr i) = go (insert-old x a zs i) (cmp x z) refl
    where
      go : In a (insert cmp x zs) → (o : Ordering) → cmp x z ≡ o → In a (insert cmp x (z ∷ zs))
      go r Ordering.lt e = rw (e, insert) (inr (inr i))
      go r Ordering.eq e = rw (e, insert) (inr i)
      go r Ordering.gt e = rw (e, insert) (inr r)
  insert-old x a [] x'' = elim x'' [ ]

  pub insert-only : (x a : A) (l : List A) → In a (insert cmp x l) → (a ≡ x) ⊎ In a l
  unfolding insert
  insert-only x a [] i = i
  insert-only x a (z ∷ zs) i = go (insert-only x a zs) (cmp x z) refl i
    where
      after : (a ≡ x) ⊎ In a zs → (a ≡ x) ⊎ In a (z ∷ zs)
      after (inl p) = inl p
      after (inr k) = inr (inr k)

      go : (In a (insert cmp x zs) → (a ≡ x) ⊎ In a zs) → (o : Ordering) → cmp x z ≡ o → In a (insert cmp x (z ∷ zs))
          → (a ≡ x) ⊎ In a (z ∷ zs)
      go r Ordering.lt e = rw (e, insert) (λ k. k)
      go r Ordering.eq e = rw (e, insert) (λ k. inr k)
      go r Ordering.gt e = rw (e, insert) (elim [ inl p ↦ inr (inl p) | inr k ↦ after (r k) ])

module _ {A : Type 0} (P : A → Type 0) (cmp : A → A → Ordering) (L : Linear P cmp) where
  under-trans : (x y : A) (l : List A) → P x → P y → All P l → cmp x y ≡ Ordering.lt → Under cmp y l → Under cmp x l
  under-trans x y [] p q a h u = tt
  under-trans x y (z ∷ zs) p q a h u = (L.chain x y z p q a.0 h u.0, under-trans x y zs p q a.1 h u.1)

  under-insert : (x y : A) (l : List A) → cmp y x ≡ Ordering.lt → Under cmp y l → Under cmp y (insert cmp x l)
  unfolding insert
  under-insert x y [] h u = (h, tt)
  under-insert x y (z ∷ zs) h u = go (under-insert x y zs h u.1) (cmp x z) refl
    where
      go : Under cmp y (insert cmp x zs) → (o : Ordering) → cmp x z ≡ o → Under cmp y (insert cmp x (z ∷ zs))
      go r Ordering.lt e = rw (e, insert) (h, u)
      go r Ordering.eq e = rw (e, insert) u
      go r Ordering.gt e = rw (e, insert) (u.0, r)

  pub insert-ascending : (x : A) (l : List A) → P x → All P l → Ascending cmp l → Ascending cmp (insert cmp x l)
  unfolding insert
  insert-ascending x [] p u a = (tt, tt)
  insert-ascending x (z ∷ zs) p u a = go (insert-ascending x zs p u.1 a.1) (cmp x z) refl
    where
      go : Ascending cmp (insert cmp x zs) → (o : Ordering) → cmp x z ≡ o → Ascending cmp (insert cmp x (z ∷ zs))
      go r Ordering.lt e = rw (e, insert) ((e, under-trans x z zs p u.0 u.1 e a.0), a)
      go r Ordering.eq e = rw (e, insert) a
      go r Ordering.gt e = rw (e, insert) (under-insert x z zs (L.turn x z p u.0 e) a.0, r)

  -- the members
  pub insert-new : (x : A) (l : List A) → P x → All P l → In x (insert cmp x l)
  unfolding insert
  insert-new x [] p u = inl refl
  insert-new x (z ∷ zs) p u = go (insert-new x zs p u.1) (cmp x z) refl
    where
      go : In x (insert cmp x zs) → (o : Ordering) → cmp x z ≡ o → In x (insert cmp x (z ∷ zs))
      go r Ordering.lt e = rw (e, insert) (inl refl)
      go r Ordering.eq e = rw (e, insert) (inl (L.same x z p u.0 e))
      go r Ordering.gt e = rw (e, insert) (inr r)

  -- two ascending lists with the same members
  under-in : (x a : A) (l : List A) → Under cmp x l → In a l → cmp x a ≡ Ordering.lt
  under-in x a (y ∷ ys) u (inl p) = rw p u.0
  under-in x a (y ∷ ys) u (inr i) = under-in x a ys u.1 i
  under-in x a [] u x3 = elim x3 [ ]

  not-under-self : (x : A) → cmp x x ≡ Ordering.lt → ⊥
  not-under-self x e = let s = L.self x in let z : ◌≡◌ {A = ℕ} 0 1 = cc in omega arith

  -- of three answers just one: below turned round is above
  pub turn-back : (x y : A) → P x → P y → cmp x y ≡ Ordering.lt → cmp y x ≡ Ordering.gt
  turn-back x y p q e = go (cmp y x) refl
    where
      go : (o : Ordering) → cmp y x ≡ o → cmp y x ≡ Ordering.gt
      go Ordering.lt h = absurd (not-under-self x (L.chain x y x p q p e h))
      go Ordering.eq h = absurd (not-under-self x (subst (λ z. cmp x z ≡ Ordering.lt) (L.same y x q p h) e))
      go Ordering.gt h = h

  not-in-under : (x : A) (l : List A) → Under cmp x l → In x l → ⊥
  not-in-under x l u i = not-under-self x (under-in x x l u i)

  heads : (x y : A) (xs ys : List A) → P x → P y → Under cmp x xs → Under cmp y ys → In x (y ∷ ys) → In y (x ∷ xs)
      → x ≡ y
  heads x y xs ys p q u v (inl e) j = e
  heads x y xs ys p q u v (inr i) (inl e) = sym e
  heads x y xs ys p q u v (inr i) (inr j) =
      absurd (not-under-self x (L.chain x y x p q p (under-in x y xs u j) (under-in y x ys v i)))

  drop_head : (x : A) (xs ys : List A) → Under cmp x xs → ((a : A) → In a (x ∷ xs) → In a (x ∷ ys)) → (a : A)
      → In a xs → In a ys
  drop_head x xs ys u f a i = go (f a (inr i))
    where
      go : (a ≡ x) ⊎ In a ys → In a ys
      go (inl p) = absurd (not-in-under x xs u (subst (λ b. In b xs) p i))
      go (inr k) = k

  pub same-members : (l r : List A) → All P l → All P r → Ascending cmp l → Ascending cmp r
      → ((a : A) → In a l → In a r) → ((a : A) → In a r → In a l) → l ≡ r
  same-members [] [] p q a b f g = refl
  same-members [] (y ∷ ys) p q a b f g = absurd (g y (inl refl))
  same-members (x ∷ xs) [] p q a b f g = absurd (f x (inl refl))
  same-members (x ∷ xs) (y ∷ ys) p q a b f g =
      let e : x ≡ y = heads x y xs ys p.0 q.0 a.0 b.0 (f x (inl refl)) (g y (inl refl)) in
      let f' : (c : A) → In c (x ∷ xs) → In c (x ∷ ys) = λ c i. rw e (f c i) in
      let g' : (c : A) → In c (x ∷ ys) → In c (x ∷ xs) = λ c i. g c (rw e at i) in
      rw (same-members xs ys p.1 q.1 a.1 b.1 (drop_head x xs ys a.0 f')
      (drop_head x ys xs (subst (λ z. Under cmp z ys) (sym e) b.0) g')) (rw e)
