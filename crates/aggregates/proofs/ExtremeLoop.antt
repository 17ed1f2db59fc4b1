-- The loop that finds the greatest or the least of a column: the best so far and the values left give the best of all.
-- Assumes nothing.
use Prim.Native.Nat.{ℕ, ◌+◌, ◌*◌, ◌-◌, ◌<◌, ◌≤◌, Ordering}
use native.Mathlib.Omega.{arith}
use native.Mathlib.Nat.{sub-zero}
use mathlib.Core.Path.{◌≡◌, refl, sym, ◌∙◌, ap}
use mathlib.Core.Bool.{Bool, true, false, cond}
use mathlib.Core.List.{List, [], ◌∷◌, map}
use lib.IntN.{ℤ}
use Rattle.model.specs.Aggregate.{present_of, lesser, greater, least_from, greatest_from, min_of, max_of}
use Rattle.model.specs.Lists.{all, filter}
use Rattle.model.specs.Value as model
use Rattle.model.specs.Value.{order, is_lt}
use Rattle.model.proofs.AggregateEquations.{present_of-kept, present_of-passed}
use Rattle.value.specs.declared.Value.{Value}
use Rattle.value.specs.Exact.{exact, in_words, inside_of, order_of, tell}
use Rattle.value.proofs.Laws.{inside_is, inside-absent, order-inside}
use Rattle.std.specs.Prelude.{Option, None, Some}
use Rattle.aggregates.specs.Columns.{column_in}
use Rattle.aggregates.specs.Folds.{is_less, chosen_of, better_of, extreme_in, extreme_of}
use lib.ListN.{length}
use Rattle.words.specs.Words.{room_of, value_at, read_at}
use Rattle.aggregates.proofs.ColumnLaws.{so, column-step, column-none, column_read}

-- ---- the greatest, the least
exact_back : (v : Value) → inside_of v ≡ true → in_words (exact v) ≡ v
exact_back v i = ap (λ d. record { num = v.num; den = d }) (inside_is v (so (inside_of v) i)).sign

less_is : (x y : Value) → inside_of x ≡ true → inside_of y ≡ true
    → is_less (order_of x y) ≡ is_lt (order (exact x) (exact y))
less_is x y i k = ap is_less (order-inside x y i k) ∙ go (order (exact x) (exact y))
  where
    go : (o : Ordering) → is_less (tell o) ≡ is_lt o
    go Ordering.lt = refl
    go Ordering.eq = refl
    go Ordering.gt = refl

chosen : (t : Bool) (x y : Value)
    → exact (cond t y x) ≡ elim t as (λ _. model.Value) [ true ↦ exact y | false ↦ exact x ]
chosen true x y = refl
chosen false x y = refl

-- a list of which the second value is absent
second-passed : (x y : model.Value) (xs : List model.Value) → model.present y ≡ false
    → present_of (x ∷ y ∷ xs) ≡ present_of (x ∷ xs)
second-passed x y xs e = go (model.present x) refl
  where
    go : (b : Bool) → model.present x ≡ b → present_of (x ∷ y ∷ xs) ≡ present_of (x ∷ xs)
    go true f =
        present_of-kept x (y ∷ xs) f ∙ ap (λ l. x ∷ l) (present_of-passed y xs e) ∙ sym (present_of-kept x xs f)
    go false f = present_of-passed x (y ∷ xs) f ∙ present_of-passed y xs e ∙ sym (present_of-passed x xs f)

module _ (g : Bool) (x y : Value) where
  pub better-first : model.present (exact y) ≡ false → x ≡ better_of g x y
  unfolding better_of
  better-first e = rw e refl

  pub better-second : model.present (exact y) ≡ true → model.present (exact x) ≡ false → y ≡ better_of g x y
  unfolding better_of
  better-second e f = rw (e, f) refl

  pub better-chosen : model.present (exact y) ≡ true → model.present (exact x) ≡ true
      → chosen_of g x y ≡ better_of g x y
  unfolding better_of
  better-chosen e f = rw (e, f) refl

-- the one chosen is one of the two, so it has what both have
chosen_has : (P : Value → Type 0) (g : Bool) (x y : Value) → P x → P y → P (chosen_of g x y)
unfolding chosen_of
chosen_has P g x y a b = one (is_less (cond g (order_of x y) (order_of y x)))
  where
    one : (t : Bool) → P (cond t y x)
    one true = b
    one false = a

better_has : (P : Value → Type 0) (g : Bool) (x y : Value) → P x → P y → P (better_of g x y)
unfolding better_of
better_has P g x y a b = go (model.present (exact y)) (model.present (exact x))
  where
    go : (s t : Bool) → P (cond s (cond t (chosen_of g x y) y) x)
    go true true = chosen_has P g x y a b
    go true false = b
    go false t = a

module _ (x y : Value) (i : inside_of x ≡ true) (k : inside_of y ≡ true) where
  chosen_more : (g : Bool) (ys : List model.Value)
      → extreme_in g (exact x ∷ exact y ∷ ys) ≡ extreme_in g (exact (chosen_of g x y) ∷ ys)
  unfolding chosen_of max_of min_of greatest_from least_from greater lesser
  chosen_more true ys =
      ap (λ z. greatest_from z ys)
      (sym (chosen (is_less (order_of x y)) x y
      ∙ ap (λ (t : Bool). elim t as (λ _. model.Value) [ true ↦ exact y | false ↦ exact x ]) (less_is x y i k)))
  chosen_more false ys =
      ap (λ z. least_from z ys)
      (sym (chosen (is_less (order_of y x)) x y
      ∙ ap (λ (t : Bool). elim t as (λ _. model.Value) [ true ↦ exact y | false ↦ exact x ]) (less_is y x k i)))

  pub best-more : (g : Bool) (ys : List model.Value)
      → extreme_in g (present_of (exact x ∷ exact y ∷ ys)) ≡ extreme_in g (present_of (exact (better_of g x y) ∷ ys))
  best-more g ys = go (model.present (exact y)) (model.present (exact x)) refl refl
    where
      go : (s t : Bool) → model.present (exact y) ≡ s → model.present (exact x) ≡ t
          → extreme_in g (present_of (exact x ∷ exact y ∷ ys)) ≡ extreme_in g (present_of (exact (better_of g x y) ∷ ys))
      go false t e f =
          ap (extreme_in g) (second-passed (exact x) (exact y) ys e)
          ∙ ap (λ z. extreme_in g (present_of (exact z ∷ ys))) (better-first g x y e)
      go true false e f =
          ap (extreme_in g) (present_of-passed (exact x) (exact y ∷ ys) f)
          ∙ ap (λ z. extreme_in g (present_of (exact z ∷ ys))) (better-second g x y e f)
      go true true e f =
          ap (extreme_in g) (present_of-kept (exact x) (exact y ∷ ys) f
          ∙ ap (λ l. exact x ∷ l) (present_of-kept (exact y) ys e))
          ∙ chosen_more g (present_of ys)
          ∙ ap (extreme_in g) (sym (present_of-kept (exact (chosen_of g x y)) ys
          (chosen_has (λ z. model.present (exact z) ≡ true) g x y f e)))
          ∙ ap (λ z. extreme_in g (present_of (exact z ∷ ys))) (better-chosen g x y e f)

-- the best so far, absent at first, and the values left
unfoldable pub extreme_with : Bool → Value → List Value → Option Value
extreme_with g x vs =
    cond (all inside_of vs)
    (Some (in_words (extreme_in g (present_of (exact x ∷ map exact vs))))) None

pub extreme_begin : (g : Bool) (vs : List Value) → extreme_with g (in_words model.absent) vs ≡ extreme_of g vs
unfolding extreme_with extreme_of model.present
extreme_begin g vs =
    ap (λ l. cond (all inside_of vs) (Some (in_words (extreme_in g l))) None)
    (present_of-passed model.absent (map exact vs) refl)

pub extreme_more : (g : Bool) (x v : Value) (vs : List Value) → inside_of x ≡ true → inside_of v ≡ true
    → extreme_with g x (v ∷ vs) ≡ extreme_with g (better_of g x v) vs
unfolding extreme_with all
extreme_more g x v vs i k = rw (k, best-more x v i k g (map exact vs)) refl

pub extreme_stop : (g : Bool) (x v : Value) (vs : List Value) → inside_of v ≡ false
    → extreme_with g x (v ∷ vs) ≡ None
unfolding extreme_with all
extreme_stop g x v vs e = rw e refl

pub extreme_end : (g : Bool) (x : Value) → inside_of x ≡ true → extreme_with g x [] ≡ Some x
unfolding extreme_with all present_of filter max_of min_of greatest_from least_from
extreme_end g x i = go (model.present (exact x)) refl g
  where
    go : (b : Bool) → model.present (exact x) ≡ b → (g : Bool)
        → Some (in_words (extreme_in g (present_of (exact x ∷ [])))) ≡ Some x
    go true e true =
        ap (λ l. Some (in_words (max_of l))) (present_of-kept (exact x) [] e) ∙ ap Some (exact_back x i)
    go true e false =
        ap (λ l. Some (in_words (min_of l))) (present_of-kept (exact x) [] e) ∙ ap Some (exact_back x i)
    go false e true =
        ap (λ l. Some (in_words (max_of l))) (present_of-passed (exact x) [] e)
        ∙ ap Some (sym (inside-absent x (so (inside_of x) i) e))
    go false e false =
        ap (λ l. Some (in_words (min_of l))) (present_of-passed (exact x) [] e)
        ∙ ap Some (sym (inside-absent x (so (inside_of x) i) e))

pub record Choosing (n : ℕ) (l : List ℤ) (c count : ℕ) (g : Bool) (x : Value) (j r : ℕ) : Type 0 where
  pub within : r ≤ count
  pub place : j ≡ c + r * n
  pub inside : inside_of x ≡ true
  pub rest : extreme_with g x (column_in n l j (count - r)) ≡ extreme_of g (column_in n l c count)

module _ (n : ℕ) (l : List ℤ) (c count : ℕ) (g : Bool) where
  pub choosing_begin : (v : Value) → v ≡ in_words model.absent → Choosing n l c count g v c 0
  unfolding inside_of model.present
  choosing_begin v e =
      record {
        within = omega arith;
        place = omega arith;
        inside = ap inside_of e;
        rest =
            ap (λ x. extreme_with g x (column_in n l c (count - 0))) e
            ∙ ap (λ k. extreme_with g (in_words model.absent) (column_in n l c k)) (sub-zero count)
            ∙ extreme_begin g (column_in n l c count);
      }

  module _ (x : Value) (j r : ℕ) (h : Choosing n l c count g x j r) where
    module _ (lt : r < count) (column : c < n) (fits : count * n ≤ room_of (length l)) (v : Value) (is : v ≡ read_at l j)
      where
        e : v ≡ value_at l j
        e = column_read l n count c r j lt column fits h.place v is

        chose : extreme_with g x (v ∷ column_in n l (j + n) (count - (r + 1))) ≡ extreme_of g (column_in n l c count)
        chose =
            ap (λ y. extreme_with g x (y ∷ column_in n l (j + n) (count - (r + 1)))) e
            ∙ sym (ap (extreme_with g x) (column-step n l j count r lt)) ∙ h.rest

        pub choosing_more : inside_of v ≡ true → (y : Value) → y ≡ better_of g x v
            → Choosing n l c count g y (j + n) (r + 1)
        choosing_more i y q = record {
          within = omega arith;
          place = omega (arith, h.place);
          inside = ap inside_of q ∙ better_has (λ z. inside_of z ≡ true) g x v h.inside i;
          rest =
              ap (λ z. extreme_with g z (column_in n l (j + n) (count - (r + 1)))) q
              ∙ sym (extreme_more g x v (column_in n l (j + n) (count - (r + 1))) h.inside i) ∙ chose;
        }

        pub choosing_stop : inside_of v ≡ false → None ≡ extreme_of g (column_in n l c count)
        choosing_stop i = sym (extreme_stop g x v (column_in n l (j + n) (count - (r + 1))) i) ∙ chose

    pub choosing_end : count ≤ r → Some x ≡ extreme_of g (column_in n l c count)
    choosing_end le = sym (ap (extreme_with g x) (column-none n l j count r le) ∙ extreme_end g x h.inside) ∙ h.rest
