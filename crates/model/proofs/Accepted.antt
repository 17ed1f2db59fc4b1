-- A question that no cause from 5 to 8 refuses is sound.
use Prim.Native.Nat.{ℕ, zero, suc, ◌<◌, ◌≤◌, zero-le}
use native.Mathlib.Decide.{dec_lt}
use native.Mathlib.Omega.{arith}
use mathlib.Core.Bool.{Bool, ◌&&◌, ◌||◌, not}
use mathlib.Core.List.{List, [], ◌∷◌}
use mathlib.Core.Logic.{◌⊎◌, inl, inr}
use mathlib.Core.Path.{◌≡◌, refl, sym, subst}
use lib.Dec.{T, T_not, eqb, ltb, leb, eqb→eq, ltb→lt, leb→le}
use lib.IntN.{ℤ}
use lib.ListN.{length, get_or-eq_default}
use Rattle.model.specs.Checks.{element_there, all_bound, counts_fit, placed, block_there, all_there, element_bound}
use Rattle.model.specs.Checks.{block_bound}
use Rattle.model.specs.Lists.{all, any, range, concat_map, In}
use Rattle.model.specs.Question.{Element, variable, fixed, aggregate, RelationRow, Condition, Block, no_block, empty, constant}
use Rattle.model.specs.Question.{block_at, is_aggregate, names, names_in, is_var, in_rows, is_fixed, in_conditions}
use Rattle.model.specs.Question.{row_elements, other_elements, elements}
use Rattle.model.specs.Scope.{owns, refers, within, level_of}
use Rattle.model.proofs.Lists.{concat-in, in_left, in_right}
use Rattle.model.proofs.Sound.{Sound}
use Rattle.model.proofs.Tests.{all-at, of-any, or_cases, and_left, and_right, in-range, range-in}

-- where a test holds of an element of a record, the element is among the block's
Found : (Element → Bool) → List Element → Type 0
Found p l = (e : Element) × In e l × T (p e)

rows-found : (p : Element → Bool) (k : Block) → T (in_rows p k.relations) → Found p (elements k)
unfolding Found in_rows elements row_elements
rows-found p k t =
    let x = of-any (λ (w : RelationRow). any p w.entries) k.relations t in
    let y = of-any p x.0.entries x.2 in (
      y.0,
      in_left y.0 (row_elements k) (other_elements k)
          (concat-in (λ (w : RelationRow). w.entries) k.relations x.0 y.0 x.1 y.1),
      y.2,
    )

conditions-found : (p : Element → Bool) (k : Block) → T (in_conditions p k.conditions) → Found p (elements k)
unfolding Found in_conditions elements other_elements
conditions-found p k t = go (or_cases (p c.left) (p c.right) x.2)
  where
    x : (c : Condition) × In c k.conditions × T (p c.left || p c.right)
    x = of-any (λ (c : Condition). p c.left || p c.right) k.conditions t

    c : Condition
    c = x.0

    put : (e : Element) → In e (c.left ∷ c.right ∷ []) → In e (elements k)
    put e i = in_right e (row_elements k) (other_elements k) (in_left e
        (concat_map (λ (c : Condition). c.left ∷ c.right ∷ []) k.conditions) k.outputs
        (concat-in (λ (c : Condition). c.left ∷ c.right ∷ []) k.conditions c e x.1 i))

    go : T (p c.left) ⊎ T (p c.right) → Found p (elements k)
    go (inl s) = (c.left, put c.left (inl refl), s)
    go (inr s) = (c.right, put c.right (inr (inl refl)), s)

outputs-found : (p : Element → Bool) (k : Block) → T (any p k.outputs) → Found p (elements k)
unfolding Found elements other_elements
outputs-found p k t =
    let x = of-any p k.outputs t in (
      x.0,
      in_right x.0 (row_elements k) (other_elements k)
          (in_right x.0 (concat_map (λ (c : Condition). c.left ∷ c.right ∷ []) k.conditions) k.outputs
          x.1),
      x.2,
    )

either_found : (p : Element → Bool) (k : Block) → T (in_conditions p k.conditions || any p k.outputs)
    → Found p (elements k)
either_found p k t = go (or_cases (in_conditions p k.conditions) (any p k.outputs) t)
  where
    go : T (in_conditions p k.conditions) ⊎ T (any p k.outputs) → Found p (elements k)
    go (inl s) = conditions-found p k s
    go (inr s) = outputs-found p k s

refers-found : (v : ℕ) (k : Block) → T (refers v k) → Found (is_fixed v) (elements k)
unfolding refers
refers-found v k t = go (or_cases (in_rows (is_fixed v) k.relations)
    (in_conditions (is_fixed v) k.conditions || any (is_fixed v) k.outputs) t)
  where
    go : T (in_rows (is_fixed v) k.relations)
        ⊎ T (in_conditions (is_fixed v) k.conditions || any (is_fixed v) k.outputs) → Found (is_fixed v) (elements k)
    go (inl s) = rows-found (is_fixed v) k s
    go (inr s) = either_found (is_fixed v) k s

names-found : (c : ℕ) (k : Block) → T (names_in c k) → Found (names c) (elements k)
unfolding names_in in_conditions
names-found c k t = go (or_cases (any (names c) k.outputs) (in_conditions (names c) k.conditions) t)
  where
    go : T (any (names c) k.outputs) ⊎ T (in_conditions (names c) k.conditions) → Found (names c) (elements k)
    go (inl s) = outputs-found (names c) k s
    go (inr s) = conditions-found (names c) k s

-- a block that is not there
there : (q : List Block) (j : ℕ) → (j < length q) ⊎ (block_at q j ≡ no_block)
there q j = go (dec_lt j (length q))
  where
    go : Dec (j < length q) → (j < length q) ⊎ (block_at q j ≡ no_block)
    go (yes h) = inl h
    go (no h) = inr (get_or-eq_default q no_block (omega arith))

module _ (d : List ℤ) (q : List Block) (L : T (counts_fit q)) (P : T (all_there d q)) (B : T (all_bound q))
    (kinds : (j : ℕ) → T (not (in_rows is_aggregate (block_at q j).relations))) where
  in-q : (j : ℕ) → j < length q → In j (range 0 (length q))
  in-q j h = in-range 0 (length q) j zero-le (omega arith)

  at-present : (j : ℕ) → j < length q → T (block_there d q j)
  unfolding all_there
  at-present j h = all-at (block_there d q) (range 0 (length q)) j P (in-q j h)

  is-placed : (j : ℕ) → j < length q → T (placed q j)
  unfolding block_there
  is-placed j h = let t = at-present j h in search (and_left, and_right)

  is-small : (j : ℕ) (e : Element) → j < length q → In e (elements (block_at q j)) → T (element_there q j e)
  unfolding block_there
  is-small j e h i =
      all-at (element_there q j) (elements (block_at q j)) e (let t = at-present j h in search (and_left, and_right)) i

  is_bound : (j : ℕ) (e : Element) → j < length q → In e (elements (block_at q j)) → T (element_bound q j e)
  unfolding all_bound block_bound
  is_bound j e h i = all-at (element_bound q j) (elements (block_at q j)) e
      (all-at (block_bound q) (range 0 (length q)) j B (in-q j h)) i

  few : length q ≤ 5
  unfolding counts_fit
  few = leb→le (length q) 5 (let t = L in search (and_left, and_right))

  parents : (j : ℕ) → T (placed q (suc j)) → (block_at q (suc j)).parent < suc j
  unfolding placed
  parents j t = ltb→lt (block_at q (suc j)).parent (suc j) (and_left (ltb (block_at q (suc j)).parent (suc j))
      (leb (level_of 5 q (suc j)) 4) t)

  earlier : (j : ℕ) → 0 < j → j < length q → (block_at q j).parent < j
  earlier zero l h = absurd (omega arith)
  earlier (suc j) l h = parents j (is-placed (suc j) h)

  root : (block_at q 0).parent ≡ 255
  unfolding placed counts_fit
  root = eqb→eq (block_at q 0).parent 255
      (is-placed 0 (leb→le 1 (length q) (let t = L in search (and_left, and_right))))

  -- a variable
  own-only : (v i j : ℕ) (e : Element) → T (is_var v e) → T (element_bound q i e) → j < length q
      → T (owns v (block_at q j)) → i ≡ j
  own-only v i j (variable w) t s h o = go (or_cases (eqb j i) (not (owns v (block_at q j)))
      (all-at (λ j. eqb j i || not (owns v (block_at q j))) (range 0 (length q)) j rest (in-q j h)))
    where
      rest : T (all (λ j. eqb j i || not (owns v (block_at q j))) (range 0 (length q)))
      rest = rw (eqb→eq v w t) (and_right (owns w (block_at q i))
          (all (λ j. eqb j i || not (owns w (block_at q j))) (range 0 (length q))) s)

      go : T (eqb j i) ⊎ T (not (owns v (block_at q j))) → i ≡ j
      go (inl x) = sym (eqb→eq j i x)
      go (inr x) = absurd (T_not (owns v (block_at q j)) x o)
  own-only v i j empty t s h o = elim t [ ]
  own-only v i j (constant _) t s h o = elim t [ ]
  own-only v i j (fixed _) t s h o = elim t [ ]
  own-only v i j (aggregate function block column) t s h o = elim t [ ]

  once : (v i j : ℕ) → i < length q → j < length q → T (owns v (block_at q i)) → T (owns v (block_at q j)) → i ≡ j
  unfolding owns Found
  once v i j h l s t = let f = rows-found (is_var v) (block_at q i) s in
      own-only v i j f.0 f.2 (is_bound i f.0 h f.1) l t

  own-it : (v j : ℕ) (e : Element) → T (is_var v e) → T (element_bound q j e) → T (owns v (block_at q j))
  own-it v j (variable w) t s = rw (eqb→eq v w t) (and_left (owns w (block_at q j))
      (all (λ i. eqb i j || not (owns w (block_at q i))) (range 0 (length q))) s)
  own-it v j empty t s = elim t [ ]
  own-it v j (constant _) t s = elim t [ ]
  own-it v j (fixed _) t s = elim t [ ]
  own-it v j (aggregate function block column) t s = elim t [ ]

  used : (v j : ℕ) → T (in_conditions (is_var v) (block_at q j).conditions || any (is_var v) (block_at q j).outputs)
      → T (owns v (block_at q j))
  unfolding Found in_conditions any
  used v j t = go (there q j)
    where
      go : (j < length q) ⊎ (block_at q j ≡ no_block) → T (owns v (block_at q j))
      go (inl h) = let f = either_found (is_var v) (block_at q j) t in
          own-it v j f.0 f.2 (is_bound j f.0 h f.1)
      go (inr e) =
          absurd (subst (λ (b : Block). T (in_conditions (is_var v) b.conditions || any (is_var v) b.outputs)) e t)

  -- a child
  child-it : (c j : ℕ) (e : Element) → T (names c e) → T (element_there q j e)
      → (c < length q) × ((block_at q c).parent ≡ j)
  child-it c j (aggregate f b x) t s =
      let e = eqb→eq c b t in (
        rw e (ltb→lt b (length q) (search (and_left, and_right))),
        rw e (eqb→eq (block_at q b).parent j (search (and_left, and_right))),
      )
  child-it c j empty t s = elim t [ ]
  child-it c j (constant _) t s = elim t [ ]
  child-it c j (variable _) t s = elim t [ ]
  child-it c j (fixed _) t s = elim t [ ]

  child : (c j : ℕ) → j < length q → T (names_in c (block_at q j)) → (c < length q) × ((block_at q c).parent ≡ j)
  unfolding Found
  child c j h t = let f = names-found c (block_at q j) t in child-it c j f.0 f.2 (is-small j f.0 h f.1)

  -- a fixed variable
  small-it : (v j : ℕ) (e : Element) → T (is_fixed v e) → T (element_there q j e) → v < 16
  small-it v j (fixed w) t s = let e = eqb→eq v w t in omega (arith, ltb→lt w 16 s)
  small-it v j empty t s = elim t [ ]
  small-it v j (constant _) t s = elim t [ ]
  small-it v j (variable _) t s = elim t [ ]
  small-it v j (aggregate function block column) t s = elim t [ ]

  no-refer : (v : ℕ) → T (refers v no_block) → ⊥
  unfolding refers in_rows in_conditions any
  no-refer v t = t

  fixed-small : (v j : ℕ) → T (refers v (block_at q j)) → v < 16
  unfolding Found
  fixed-small v j t = go (there q j)
    where
      go : (j < length q) ⊎ (block_at q j ≡ no_block) → v < 16
      go (inl h) = let f = refers-found v (block_at q j) t in small-it v j f.0 f.2 (is-small j f.0 h f.1)
      go (inr e) = absurd (no-refer v (subst (λ b. T (refers v b)) e t))

  above-it : (v j : ℕ) (e : Element) → T (is_fixed v e) → T (element_bound q j e)
      → (a : ℕ) × (a < length q) × T (within 5 q a (block_at q j).parent) × T (owns v (block_at q a))
  above-it v j (fixed w) t s =
      let x = of-any (λ a. within 5 q a (block_at q j).parent && owns w (block_at q a)) (range 0 (length q)) s in (
        x.0,
        omega (arith, range-in 0 (length q) x.0 x.1),
        and_left (within 5 q x.0 (block_at q j).parent) (owns w (block_at q x.0)) x.2,
        rw (eqb→eq v w t) (and_right (within 5 q x.0 (block_at q j).parent) (owns w (block_at q x.0)) x.2),
      )
  above-it v j empty t s = elim t [ ]
  above-it v j (constant _) t s = elim t [ ]
  above-it v j (variable _) t s = elim t [ ]
  above-it v j (aggregate function block column) t s = elim t [ ]

  above : (v j : ℕ) → j < length q → T (refers v (block_at q j))
      → (a : ℕ) × (a < length q) × T (within 5 q a (block_at q j).parent) × T (owns v (block_at q a))
  unfolding Found
  above v j h t = let f = refers-found v (block_at q j) t in above-it v j f.0 f.2 (is_bound j f.0 h f.1)

  deep : (j : ℕ) → T (placed q (suc j)) → level_of 5 q (suc j) ≤ 4
  unfolding placed
  deep j t = leb→le (level_of 5 q (suc j)) 4 (and_right (ltb (block_at q (suc j)).parent (suc j))
      (leb (level_of 5 q (suc j)) 4) t)

  depth : (j : ℕ) → j < length q → level_of 5 q j ≤ 4
  unfolding level_of
  depth zero h = omega arith
  depth (suc j) h = deep j (is-placed (suc j) h)

  pub sound : Sound q
  sound = record {
    few = few;
    root = root;
    earlier = earlier;
    once = once;
    rows = kinds;
    used = used;
    child =
        child;
    small = fixed-small;
    above = above;
    depth = depth;
  }
