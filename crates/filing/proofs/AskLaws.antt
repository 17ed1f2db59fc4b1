-- What the slots hold after a list of elements: an aggregate of a block that at most three name has a slot
-- (`asked_slot`), and of an accepted question at most three name one (`few-asked`).
use Prim.Native.Nat.{ℕ, zero, suc, ◌+◌, ◌*◌, ◌≤◌, ◌<◌}
use native.Mathlib.Decide.{ℕ_discrete}
use native.Mathlib.Omega.{arith}
use mathlib.Core.Bool.{Bool, true, false, ◌&&◌}
use mathlib.Core.List.{List, [], ◌∷◌, ◌++◌}
use mathlib.Core.Logic.{inl, inr}
use mathlib.Core.Path.{◌≡◌, refl, sym, ap, ap₂, ◌∙◌, subst}
use lib.Dec.{T, eqb, ltb, leb, leb→le}
use lib.ListN.{length, set, length-append, length-set, length-replicate, get_or-replicate}
use lib.Seq.{get_or-set_same, get_or-set_other}
use borrow.Author.Tests.{eq-eqb, eqb-true, ltb-true, lt-ltb}
use Rattle.groups.specs.Asking.{no_ask, asked_at, function_at, column_at, asks_at, slot_of}
use Rattle.groups.specs.declared.Ask.{Ask}
use Rattle.groups.specs.declared.Asked.{Asked}
use Rattle.limits.specs.Limits.{names_of}
use Rattle.model.proofs.ListEquations.{filter-keeps, filter-drops}
use Rattle.model.proofs.Lists.{in_left, in_right}
use Rattle.model.proofs.Tests.{all-at, and_right, in-range, filter-append}
use Rattle.model.specs.Checks.{from_to, counts_fit}
use Rattle.model.specs.Lists.{In, all, filter, range, concat_map}
use Rattle.model.specs.Question.{Element, empty, constant, variable, fixed, aggregate, names, Block, block_at}
use Rattle.model.specs.Question.{elements, other_elements, row_elements}
use Rattle.syntax.proofs.Laws.{both, on}
use Rattle.filing.specs.Asks.{no_asked, kept_of, ask, ask_of, ask_all}

-- three slots for each of five blocks, of which at most three are kept
record Well (a : Asked) : Type 0 where
  pub slots : length a.slots ≡ 15
  pub counts : length a.counts ≡ 5
  pub few : (k : ℕ) → k < 5 → kept_of a k ≤ 3

-- one of the slots kept for block k holds function f and column c
record Has (a : Asked) (k f c : ℕ) : Type 0 where
  pub slot : ℕ
  pub kept : slot < kept_of a k
  pub asks : asked_at a (3 * k + slot) ≡ record { function = f; column = c }

well_none : Well no_asked
well_none =
    record {
      slots = length-replicate 15 no_ask;
      counts = length-replicate {A = ℕ} 5 0;
      few = λ k h. let e = get_or-replicate {A = ℕ} 5 k 0 0 h in omega (arith, e);
    }

clash : {b : Bool} → b ≡ true → b ≡ false → ⊥
clash s f = subst T (sym s ∙ f) tt

abbrev bit : Bool → ℕ
bit true = 1
bit false = 0

-- ---- one aggregate of block b, put into its next slot
module _ (a : Asked) (w : Well a) (f b c : ℕ) (h : b < 5) (few : kept_of a b < 3) where
  abbrev next : Asked
  next =
      record {
        slots = set a.slots (3 * b + kept_of a b) (record { function = f; column = c });
        counts = set a.counts b (kept_of a b + 1);
      }

  kept_here : kept_of next b ≡ kept_of a b + 1
  kept_here = get_or-set_same a.counts b (kept_of a b + 1) 0 (omega (arith, w.counts))

  kept_there : (k : ℕ) → (k ≡ b → ⊥) → kept_of next k ≡ kept_of a k
  kept_there k n = get_or-set_other a.counts b k (kept_of a b + 1) 0 n

  next-few : (k : ℕ) → k < 5 → kept_of next k ≤ 3
  next-few k i = go (ℕ_discrete k b)
    where
      go : Dec (k ≡ b) → kept_of next k ≤ 3
      go (yes e) = subst (λ j. kept_of next j ≤ 3) (sym e) (omega (arith, kept_here))
      go (no n) = omega (arith, kept_there k n, w.few k i)

  next-well : Well next
  next-well =
      record {
        slots = length-set a.slots (3 * b + kept_of a b) (record { function = f; column = c }) ∙ w.slots;
        counts = length-set a.counts b (kept_of a b + 1) ∙ w.counts;
        few = next-few;
      }

  next-has : Has next b f c
  next-has =
      record {
        slot = kept_of a b;
        kept = omega (arith, kept_here);
        asks = get_or-set_same a.slots (3 * b + kept_of a b) (record { function = f; column = c }) no_ask (omega (arith, w.slots));
      }

  next-keeps : (k g d : ℕ) → k < 5 → Has a k g d → Has next k g d
  next-keeps k g d i x =
      record {
        slot = x.slot;
        kept = more (ℕ_discrete k b);
        asks = get_or-set_other a.slots (3 * b + kept_of a b) (3 * k + x.slot) (record { function = f; column = c }) no_ask apart ∙ x.asks;
      }
    where
      more : Dec (k ≡ b) → x.slot < kept_of next k
      more (yes e) =
          subst (λ j. x.slot < kept_of next j) (sym e)
          (omega (arith, kept_here, subst (λ j. x.slot < kept_of a j) e x.kept))
      more (no n) = omega (arith, kept_there k n, x.kept)

      apart : 3 * k + x.slot ≡ 3 * b + kept_of a b → ⊥
      apart e = go (ℕ_discrete k b)
        where
          go : Dec (k ≡ b) → ⊥
          go (yes j) = omega (arith, e, subst (λ m. x.slot < kept_of a m) j x.kept)
          go (no n) = n (omega (arith, e, few, x.kept, w.few k i))

  next-counts : (k : ℕ) → kept_of next k ≤ kept_of a k + bit (eqb k b)
  next-counts k = go (ℕ_discrete k b)
    where
      go : Dec (k ≡ b) → kept_of next k ≤ kept_of a k + bit (eqb k b)
      go (yes e) =
          subst (λ j. kept_of next j ≤ kept_of a j + bit (eqb j b)) (sym e)
          (omega (arith, kept_here, ap bit (eq-eqb b b refl)))
      go (no n) = omega (arith, kept_there k n)

-- ---- an aggregate asked for
module _ (a : Asked) (w : Well a) where
  ask-next : (f b c : ℕ) → b < 5 → kept_of a b < 3 → (P : Asked → Type 0) → P (record {
    slots = set a.slots (3 * b + kept_of a b) (record { function = f; column = c });
    counts = set a.counts b (kept_of a b + 1);
  }) → P (ask a f b c)
  unfolding ask
  ask-next f b c h g P p = rw (lt-ltb b 5 h, lt-ltb (kept_of a b) 3 g) p

  ask-same : (f b c : ℕ) → ltb b 5 && ltb (kept_of a b) 3 ≡ false → ask a f b c ≡ a
  unfolding ask
  ask-same f b c e = rw e refl

  -- what holds of the next and of a itself, holds
  ask-cases : (f b c : ℕ) (P : Asked → Type 0) → P a
      → (b < 5 → kept_of a b < 3 → P (record {
        slots = set a.slots (3 * b + kept_of a b) (record { function = f; column = c });
        counts = set a.counts b (kept_of a b + 1);
      })) → P (ask a f b c)
  ask-cases f b c P p q =
      on (ltb b 5 && ltb (kept_of a b) 3)
      (λ e.
      let t = both (ltb b 5) (ltb (kept_of a b) 3) e in
      let h = ltb-true b 5 t.0 in
      let g = ltb-true (kept_of a b) 3 t.1 in ask-next f b c h g P (q h g))
      (λ e. subst P (sym (ask-same f b c e)) p)

  -- a step over an element
  step-well : (e : Element) → Well (ask_of a e)
  step-well empty = w
  step-well (constant x) = w
  step-well (variable v) = w
  step-well (fixed v) = w
  step-well (aggregate f b c) = ask-cases f b c Well w (λ h g. next-well a w f b c h g)

  step-has : (e : Element) (k g d : ℕ) → k < 5 → Has a k g d → Has (ask_of a e) k g d
  step-has empty k g d i x = x
  step-has (constant y) k g d i x = x
  step-has (variable v) k g d i x = x
  step-has (fixed v) k g d i x = x
  step-has (aggregate f b c) k g d i x =
      ask-cases f b c (λ z. Has z k g d) x (λ h m. next-keeps a w f b c h m k g d i x)

  step_counts : (e : Element) (k : ℕ) → kept_of (ask_of a e) k ≤ kept_of a k + bit (names k e)
  step_counts empty k = omega arith
  step_counts (constant y) k = omega arith
  step_counts (variable v) k = omega arith
  step_counts (fixed v) k = omega arith
  step_counts (aggregate f b c) k =
      ask-cases f b c (λ z. kept_of z k ≤ kept_of a k + bit (eqb k b)) (omega arith)
      (λ h g. next-counts a w f b c h g k)

names-cons : (k : ℕ) (e : Element) (es : List Element) → names_of k (e ∷ es) ≡ bit (names k e) + names_of k es
names-cons k e es =
    on (names k e)
    (λ t. ap length (filter-keeps (names k) e es t)
    ∙ (let n = ap bit t in let z : suc (names_of k es) ≡ bit (names k e) + names_of k es = omega arith in z))
    (λ t. ap length (filter-drops (names k) e es t)
    ∙ (let n = ap bit t in let z : names_of k es ≡ bit (names k e) + names_of k es = omega arith in z))

-- ---- a list asked for
has_all : (a : Asked) (es : List Element) (k f c : ℕ) → Well a → k < 5 → Has a k f c → Has (ask_all a es) k f c
unfolding ask_all
has_all a [] k f c w i x = x
has_all a (e ∷ es) k f c w i x = has_all (ask_of a e) es k f c (step-well a w e) i (step-has a w e k f c i x)

member_has : (a : Asked) (es : List Element) (k f c : ℕ) → Well a → k < 5 → kept_of a k + names_of k es ≤ 3
    → In (aggregate f k c) es → Has (ask_all a es) k f c
unfolding ask_all
member_has a [] k f c w i n m = absurd m
member_has a (e ∷ es) k f c w i n (inl x) =
    has_all (ask_of a e) es k f c (step-well a w e) i
    (subst (λ y. Has (ask_of a y) k f c) x
    (let one = ap bit (ap (names k) (sym x) ∙ eq-eqb k k refl) in
    let g : kept_of a k < 3 = omega (arith, names-cons k e es, one, n) in
    ask-next a w f k c i g (λ z. Has z k f c) (next-has a w f k c i g)))
member_has a (e ∷ es) k f c w i n (inr m) =
    member_has (ask_of a e) es k f c (step-well a w e) i
    (omega (arith, names-cons k e es, step_counts a w e k, n)) m

-- ---- the slot that is found asks for the function of the column
module _ (a : Asked) (k f c : ℕ) where
  abbrev Told : ℕ → Type 0
  Told i = (i < 3) × (function_at a (3 * k + i) ≡ f) × (column_at a (3 * k + i) ≡ c)

  asks-told : (i : ℕ) → i < 3 → asks_at a (3 * k + i) f c ≡ true → Told i
  asks-told i h e =
      let t = both (eqb (function_at a (3 * k + i)) f) (eqb (column_at a (3 * k + i)) c) e in
      (h, eqb-true (function_at a (3 * k + i)) f t.0, eqb-true (column_at a (3 * k + i)) c t.1)

  asks-first : asks_at a (3 * k) f c ≡ asks_at a (3 * k + 0) f c
  asks-first = ap (λ j. asks_at a j f c) (let z : 3 * k ≡ 3 * k + 0 = omega arith in z)

  slot-0 : asks_at a (3 * k) f c ≡ true → slot_of a k f c ≡ 0
  unfolding slot_of
  slot-0 e = rw e refl

  slot-1 : asks_at a (3 * k) f c ≡ false → asks_at a (3 * k + 1) f c ≡ true → slot_of a k f c ≡ 1
  unfolding slot_of
  slot-1 d e = rw (d, e) refl

  slot-2 : asks_at a (3 * k) f c ≡ false → asks_at a (3 * k + 1) f c ≡ false → asks_at a (3 * k + 2) f c ≡ true
      → slot_of a k f c ≡ 2
  unfolding slot_of
  slot-2 d e g = rw (d, e, g) refl

  -- one of the three asks, so one is found
  slot_told : (j : ℕ) → j < 3 → asks_at a (3 * k + j) f c ≡ true → Told (slot_of a k f c)
  slot_told j h e =
      on (asks_at a (3 * k) f c)
      (λ x. subst Told (sym (slot-0 x)) (asks-told 0 (omega arith) (sym asks-first ∙ x)))
      (λ x.
      on (asks_at a (3 * k + 1) f c)
      (λ y. subst Told (sym (slot-1 x y)) (asks-told 1 (omega arith) y))
      (λ y.
      on (asks_at a (3 * k + 2) f c)
      (λ z. subst Told (sym (slot-2 x y z)) (asks-told 2 (omega arith) z))
      (λ z. absurd (none j h e (sym asks-first ∙ x) y z))))
    where
      none : (j : ℕ) → j < 3 → asks_at a (3 * k + j) f c ≡ true → asks_at a (3 * k + 0) f c ≡ false
          → asks_at a (3 * k + 1) f c ≡ false → asks_at a (3 * k + 2) f c ≡ false → ⊥
      none zero h e x y z = clash e x
      none (suc zero) h e x y z = clash e y
      none (suc (suc zero)) h e x y z = clash e z
      none (suc (suc (suc j))) h e x y z = omega arith

  has-told : Well a → k < 5 → Has a k f c → Told (slot_of a k f c)
  has-told w i x =
      slot_told x.slot (omega (arith, x.kept, w.few k i))
      (ap₂ ◌&&◌ (eq-eqb _ f (ap (λ (y : Ask). y.function) x.asks)) (eq-eqb _ c (ap (λ (y : Ask). y.column) x.asks)))

well_all : (a : Asked) (es : List Element) → Well a → Well (ask_all a es)
unfolding ask_all
well_all a [] w = w
well_all a (e ∷ es) w = well_all (ask_of a e) es (step-well a w e)

-- an aggregate among the elements has a slot of its block, where at most three name the block
pub asked_slot : (es : List Element) (f k c : ℕ) → k < 5 → length (filter (names k) es) ≤ 3 → In (aggregate f k c) es
    → let i = slot_of (ask_all no_asked es) k f c in
    (i < 3) × (function_at (ask_all no_asked es) (3 * k + i) ≡ f) × (column_at (ask_all no_asked es) (3 * k + i) ≡ c)
asked_slot es f k c h n m =
    has-told (ask_all no_asked es) k f c (well_all no_asked es well_none) h
    (member_has no_asked es k f c well_none h (omega (arith, get_or-replicate {A = ℕ} 5 k 0 0 h, n)) m)

-- ---- the elements of a question
more_names : (k : ℕ) (q : List Block)
    → length (filter (names k) (concat_map other_elements q)) ≤ length (filter (names k) (concat_map elements q))
unfolding concat_map elements
more_names k [] = omega arith
more_names k (b ∷ q) =
    let o = other_elements b in
    let x = ap length (filter-append (names k) o (concat_map other_elements q))
    ∙ length-append (filter (names k) o) (filter (names k) (concat_map other_elements q)) in
    let y = ap length (filter-append (names k) (row_elements b ++ o) (concat_map elements q))
    ∙ length-append (filter (names k) (row_elements b ++ o)) (filter (names k) (concat_map elements q)) in
    let z = ap length (filter-append (names k) (row_elements b) o)
    ∙ length-append (filter (names k) (row_elements b)) (filter (names k) o) in
    omega (arith, x, y, z, more_names k q)

abbrev sized : List Block → Bool
sized q =
    from_to 1 5 (length q)
    && all (λ b. leb (length b.relations) 3 && leb (length b.conditions) 8 && from_to 1 4 (length b.outputs)) q

-- at most three elements of an accepted question name one block
pub few-asked : (q : List Block) → T (counts_fit q) → (k : ℕ) → k < 256
    → length (filter (names k) (concat_map other_elements q)) ≤ 3
unfolding counts_fit
few-asked q t k h =
    let p : ℕ → Bool = λ j. leb (length (filter (names j) (concat_map elements q))) 3 in
    let i = in-range 0 256 k (omega arith) (omega arith) in
    let u = all-at p (range 0 256) k (and_right (sized q) (all p (range 0 256)) t) i in
    omega (arith, more_names k q, leb→le (length (filter (names k) (concat_map elements q))) 3 u)

-- and what stands in a block stands in the question
pub others_in : (q : List Block) (j : ℕ) (e : Element) → In e (other_elements (block_at q j))
    → In e (concat_map other_elements q)
unfolding concat_map other_elements
others_in [] j e m = absurd m
others_in (b ∷ q) zero e m = in_left e (other_elements b) (concat_map other_elements q) m
others_in (b ∷ q) (suc j) e m =
    in_right e (other_elements b) (concat_map other_elements q) (others_in q j e m)
