-- Lists in lexicographic order: linear where the order of their members is.
use Prim.Native.Nat.{Ordering}
use mathlib.Core.List.{List, [], ◌∷◌}
use mathlib.Core.Path.{◌≡◌, refl, ap₂}
use Rattle.model.specs.Lists.{All}
use Rattle.model.specs.RowSet.{Row, lexicographic, order_rows}
use Rattle.model.proofs.SetLaws.{Linear}
use Rattle.model.proofs.ValueLaws.{Proper, linear_value}

module _ {A : Type 0} (P : A → Type 0) (cmp : A → A → Ordering) (L : Linear P cmp) where
  abbrev lex : List A → List A → Ordering
  lex = lexicographic cmp

  lex-same : (x y : List A) → All P x → All P y → lex x y ≡ Ordering.eq → x ≡ y
  unfolding lexicographic
  lex-same [] [] p q e = refl
  lex-same [] (y ∷ ys) p q e = cc
  lex-same (x ∷ xs) [] p q e = cc
  lex-same (x ∷ xs) (y ∷ ys) p q e = go (lex-same xs ys p.1 q.1) (cmp x y) refl e
    where
      go : (lex xs ys ≡ Ordering.eq → xs ≡ ys) → (o : Ordering) → cmp x y ≡ o → lex (x ∷ xs) (y ∷ ys) ≡ Ordering.eq
          → x ∷ xs ≡ y ∷ ys
      go r Ordering.lt h = rw (h, lexicographic) (λ k. cc)
      go r Ordering.eq h = rw (h, lexicographic) (λ k. ap₂ ◌∷◌ (L.same x y p.0 q.0 h) (r k))
      go r Ordering.gt h = rw (h, lexicographic) (λ k. cc)

  lex-self : (x : List A) → lex x x ≡ Ordering.eq
  unfolding lexicographic
  lex-self [] = refl
  lex-self (x ∷ xs) = rw (L.self x, lexicographic) (lex-self xs)

  lex-turn : (x y : List A) → All P x → All P y → lex x y ≡ Ordering.gt → lex y x ≡ Ordering.lt
  unfolding lexicographic
  lex-turn [] [] p q e = cc
  lex-turn [] (y ∷ ys) p q e = cc
  lex-turn (x ∷ xs) [] p q e = refl
  lex-turn (x ∷ xs) (y ∷ ys) p q e = go (lex-turn xs ys p.1 q.1) (cmp x y) refl e
    where
      go : (lex xs ys ≡ Ordering.gt → lex ys xs ≡ Ordering.lt) → (o : Ordering) → cmp x y ≡ o
          → lex (x ∷ xs) (y ∷ ys) ≡ Ordering.gt → lex (y ∷ ys) (x ∷ xs) ≡ Ordering.lt
      go r Ordering.lt h = rw (h, lexicographic) (λ k. cc)
      go r Ordering.eq h = rw (h, lexicographic) (λ k. rw (L.same x y p.0 q.0 h, L.self y, lexicographic) (r k))
      go r Ordering.gt h = rw (h, L.turn x y p.0 q.0 h, lexicographic) (λ k. refl)

  lex-chain : (x y z : List A) → All P x → All P y → All P z → lex x y ≡ Ordering.lt → lex y z ≡ Ordering.lt
      → lex x z ≡ Ordering.lt
  unfolding lexicographic
  lex-chain [] y [] p q s e f = last y f
    where
      last : (y : List A) → lex y [] ≡ Ordering.lt → Ordering.eq ≡ Ordering.lt
      last [] h = h
      last (y ∷ ys) h = cc
  lex-chain [] y (z ∷ zs) p q s e f = refl
  lex-chain (x ∷ xs) [] z p q s e f = cc
  lex-chain (x ∷ xs) (y ∷ ys) [] p q s e f = cc
  lex-chain (x ∷ xs) (y ∷ ys) (z ∷ zs) p q s e f =
      go (lex-chain xs ys zs p.1 q.1 s.1) (cmp x y) (cmp y z) refl refl e f
    where
      Goal : Type 0
      Goal = lex (x ∷ xs) (y ∷ ys) ≡ Ordering.lt → lex (y ∷ ys) (z ∷ zs) ≡ Ordering.lt
          → lex (x ∷ xs) (z ∷ zs) ≡ Ordering.lt

      lt : cmp x z ≡ Ordering.lt → Goal
      lt h e f = rw (h, lexicographic) refl

      go : (lex xs ys ≡ Ordering.lt → lex ys zs ≡ Ordering.lt → lex xs zs ≡ Ordering.lt) → (o t : Ordering)
          → cmp x y ≡ o → cmp y z ≡ t → Goal
      go r Ordering.lt Ordering.lt h k = lt (L.chain x y z p.0 q.0 s.0 h k)
      go r Ordering.lt Ordering.eq h k = lt (rw (← (L.same y z q.0 s.0 k)) h)
      go r Ordering.lt Ordering.gt h k = rw (k, lexicographic) (λ e f. cc)
      go r Ordering.eq Ordering.lt h k = lt (rw (L.same x y p.0 q.0 h) k)
      go r Ordering.eq Ordering.eq h k = rw (h, k, L.same x y p.0 q.0 h, k, lexicographic) r
      go r Ordering.eq Ordering.gt h k = rw (k, lexicographic) (λ e f. cc)
      go r Ordering.gt t h k = rw (h, lexicographic) (λ e f. cc)

  pub linear-lists : Linear (All P) (lexicographic cmp)
  linear-lists = record { same = lex-same; self = lex-self; turn = lex-turn; chain = lex-chain }

-- the order of rows
abbrev pub ProperRow : Row → Type 0
ProperRow = All Proper

pub linear_rows : Linear ProperRow order_rows
linear_rows = linear-lists Proper _ linear_value
