-- The slots of a block hold the first three aggregates of it among the elements, in order (`slots_are`): the others are
-- 255, as at the start.
use Prim.Native.Nat.{ℕ, suc, ◌+◌, ◌*◌, ◌≤◌, ◌<◌, min}
use native.Mathlib.Decide.{ℕ_discrete}
use native.Mathlib.Omega.{arith}
use mathlib.Core.Bool.{false, ◌&&◌, cond}
use mathlib.Core.List.{List, [], ◌∷◌, ◌++◌, append-nil, append_assoc}
use mathlib.Core.Logic.{⊎_elim}
use mathlib.Core.Path.{◌≡◌, refl, sym, ap, ◌∙◌, subst}
use lib.Dec.{ltb}
use lib.ListN.{length, get_or, set, length-append, length-replicate, get_or-replicate, get_or-append}
use lib.ListN.{get_or-eq_default, length-set}
use lib.Seq.{get_or-set_same, get_or-set_other, get_or-append_seam}
use borrow.Author.Tests.{eq-eqb, ne_eqb, ltb-true, ltb-false, lt-ltb}
use Rattle.groups.specs.Asking.{no_ask, asked_at, function_at, column_at}
use Rattle.groups.specs.declared.Ask.{Ask}
use Rattle.groups.specs.declared.Asked.{Asked}
use Rattle.model.specs.Lists.{concat_map}
use Rattle.model.specs.Question.{Element, empty, constant, variable, fixed, aggregate}
use Rattle.syntax.proofs.Elements.{le-or}
use Rattle.syntax.proofs.Laws.{both, on}
use Rattle.filing.specs.Asks.{no_asked, kept_of, ask, ask_of, ask_all, asked_by, asked_of}

abbrev Pairs : Type 0
Pairs = List (ℕ × ℕ)

abbrev none : ℕ × ℕ
none = (255, 255)

abbrev pair : Ask → ℕ × ℕ
pair x = (x.function, x.column)

abbrev held : Asked → ℕ → ℕ × ℕ
held a j = pair (asked_at a j)

-- the slots of each block hold the first three of its list
record Slots (a : Asked) (l : ℕ → Pairs) : Type 0 where
  pub long : length a.slots ≡ 15
  pub counts : length a.counts ≡ 5
  pub kept : (k : ℕ) → k < 5 → kept_of a k ≡ min (length (l k)) 3
  pub slots : (k j : ℕ) → k < 5 → j < 3 → held a (3 * k + j) ≡ get_or (l k) j none

slots_none : Slots no_asked (λ k. [])
slots_none =
    record {
      long = length-replicate 15 no_ask;
      counts = length-replicate {A = ℕ} 5 0;
      kept = λ k h. get_or-replicate {A = ℕ} 5 k 0 0 h;
      slots =
          λ k j h g.
          let i : 3 * k + j < 15 = omega arith in
          ap pair (get_or-replicate 15 (3 * k + j) no_ask no_ask i);
    }

-- lists that are equal tell the same
slots_same : (a : Asked) (l m : ℕ → Pairs) → Slots a l → ((k : ℕ) → k < 5 → m k ≡ l k) → Slots a m
slots_same a l m s e =
    record {
      long = s.long;
      counts = s.counts;
      kept = λ k h. s.kept k h ∙ ap (λ x. min (length x) 3) (sym (e k h));
      slots = λ k j h g. s.slots k j h g ∙ ap (λ x. get_or x j none) (sym (e k h));
    }

-- ---- one pair more at the end of a list
module _ (l : Pairs) (x : ℕ × ℕ) where
  more-long : length (l ++ (x ∷ [])) ≡ length l + 1
  more-long = length-append l (x ∷ [])

  more-before : (j : ℕ) → j < length l → get_or (l ++ (x ∷ [])) j none ≡ get_or l j none
  more-before j h = get_or-append l (x ∷ []) none j h

  more-after : (j : ℕ) → length l < j → get_or (l ++ (x ∷ [])) j none ≡ get_or l j none
  more-after j h =
      get_or-eq_default (l ++ (x ∷ [])) none {n = j} (omega (arith, more-long))
      ∙ sym (get_or-eq_default l none {n = j} (omega arith))

-- ---- an aggregate of block b
module _ (a : Asked) (l : ℕ → Pairs) (s : Slots a l) (f b c : ℕ) where
  abbrev m : ℕ → Pairs
  m k = l k ++ asked_by k (aggregate f b c)

  m-here : (k : ℕ) → k ≡ b → m k ≡ l k ++ ((f, c) ∷ [])
  m-here k e = ap (λ t. l k ++ cond t ((f, c) ∷ []) []) (eq-eqb k b e)

  m-there : (k : ℕ) → (k ≡ b → ⊥) → m k ≡ l k
  m-there k e = ap (λ t. l k ++ cond t ((f, c) ∷ []) []) (ne_eqb k b e) ∙ append-nil (l k)

  -- put into the next slot
  module _ (h : b < 5) (few : kept_of a b < 3) where
    abbrev next : Asked
    next =
        record {
          slots = set a.slots (3 * b + kept_of a b) (record { function = f; column = c });
          counts = set a.counts b (kept_of a b + 1);
        }

    next-there : (j : ℕ) → (j ≡ 3 * b + kept_of a b → ⊥) → held next j ≡ held a j
    next-there j n =
        ap pair (get_or-set_other a.slots (3 * b + kept_of a b) j (record { function = f; column = c }) no_ask n)

    next_here : held next (3 * b + kept_of a b) ≡ (f, c)
    next_here =
        ap pair
        (get_or-set_same a.slots (3 * b + kept_of a b) (record { function = f; column = c }) no_ask (omega (arith, s.long)))

    is-kept : length (l b) ≡ kept_of a b
    is-kept = omega (arith, s.kept b h)

    next-kept : (k : ℕ) → k < 5 → kept_of next k ≡ min (length (m k)) 3
    next-kept k i = go (ℕ_discrete k b)
      where
        go : Dec (k ≡ b) → kept_of next k ≡ min (length (m k)) 3
        go (yes e) =
            ap (kept_of next) e ∙ get_or-set_same a.counts b (kept_of a b + 1) 0 (omega (arith, s.counts))
            ∙ (let z : kept_of a b + 1 ≡ min (length (l b) + 1) 3 = omega (arith, is-kept) in z)
            ∙ ap (λ n. min n 3) (sym (more-long (l b) (f, c)))
            ∙ ap (λ y. min (length y) 3) (sym (m-here b refl) ∙ ap m (sym e))
        go (no n) =
            get_or-set_other a.counts b k (kept_of a b + 1) 0 n ∙ s.kept k i
            ∙ ap (λ y. min (length y) 3) (sym (m-there k n))

    next-slots-here : (j : ℕ) → j < 3 → held next (3 * b + j) ≡ get_or (l b ++ ((f, c) ∷ [])) j none
    next-slots-here j g = go (ℕ_discrete j (length (l b)))
      where
        go : Dec (j ≡ length (l b)) → held next (3 * b + j) ≡ get_or (l b ++ ((f, c) ∷ [])) j none
        go (yes e) =
            ap (λ i. held next (3 * b + i)) (e ∙ is-kept) ∙ next_here
            ∙ sym (get_or-append_seam (l b) (f, c) [] none) ∙ ap (λ i. get_or (l b ++ ((f, c) ∷ [])) i none) (sym e)
        go (no n) =
            next-there (3 * b + j) (λ e. n (omega (arith, is-kept, e))) ∙ s.slots b j h g
            ∙ ⊎_elim (λ i. sym (more-before (l b) (f, c) j i))
            (λ i. sym (more-after (l b) (f, c) j (other (length (l b)) j n i))) (le-or (suc j) (length (l b)))
          where
            other : (x j : ℕ) → (j ≡ x → ⊥) → x < suc j → x < j
            other x j n i = omega arith

    next-slots : (k j : ℕ) → k < 5 → j < 3 → held next (3 * k + j) ≡ get_or (m k) j none
    next-slots k j i g = go (ℕ_discrete k b)
      where
        go : Dec (k ≡ b) → held next (3 * k + j) ≡ get_or (m k) j none
        go (yes e) =
            ap (λ x. held next (3 * x + j)) e ∙ next-slots-here j g
            ∙ ap (λ y. get_or y j none) (sym (m-here b refl) ∙ ap m (sym e))
        go (no n) =
            next-there (3 * k + j) (λ e. n (omega (arith, e, g, few))) ∙ s.slots k j i g
            ∙ ap (λ y. get_or y j none) (sym (m-there k n))

    slots_next : Slots next m
    slots_next =
        record {
          long = length-set a.slots (3 * b + kept_of a b) (record { function = f; column = c }) ∙ s.long;
          counts = length-set a.counts b (kept_of a b + 1) ∙ s.counts;
          kept = next-kept;
          slots = next-slots;
        }

    slots-more : Slots (ask a f b c) m
    unfolding ask
    slots-more = rw (lt-ltb b 5 h, lt-ltb (kept_of a b) 3 few) slots_next

  -- no slot is left, or the block is past the fifth
  slots-full : (b < 5 → 3 ≤ kept_of a b) → Slots a m
  slots-full full =
      record {
        long = s.long;
        counts = s.counts;
        kept = λ k i. kept k i (ℕ_discrete k b);
        slots = λ k j i g. slots k j i g (ℕ_discrete k b);
      }
    where
      long : (k : ℕ) → k < 5 → k ≡ b → 3 ≤ length (l k)
      long k i e =
          omega (arith, s.kept k i, subst (λ x. 3 ≤ kept_of a x) (sym e) (full (subst (λ x. x < 5) e i)))

      kept : (k : ℕ) → k < 5 → Dec (k ≡ b) → kept_of a k ≡ min (length (m k)) 3
      kept k i (yes e) =
          s.kept k i
          ∙ (let z : min (length (l k)) 3 ≡ min (length (l k) + 1) 3 = omega (arith, long k i e) in z)
          ∙ ap (λ n. min n 3) (sym (more-long (l k) (f, c))) ∙ ap (λ y. min (length y) 3) (sym (m-here k e))
      kept k i (no n) = s.kept k i ∙ ap (λ y. min (length y) 3) (sym (m-there k n))

      slots : (k j : ℕ) → k < 5 → j < 3 → Dec (k ≡ b) → held a (3 * k + j) ≡ get_or (m k) j none
      slots k j i g (yes e) =
          s.slots k j i g ∙ sym (more-before (l k) (f, c) j (omega (arith, long k i e, g)))
          ∙ ap (λ y. get_or y j none) (sym (m-here k e))
      slots k j i g (no n) = s.slots k j i g ∙ ap (λ y. get_or y j none) (sym (m-there k n))

  slots-left : ltb b 5 && ltb (kept_of a b) 3 ≡ false → Slots (ask a f b c) m
  unfolding ask
  slots-left e =
      rw e (slots-full (λ h. ltb-false (kept_of a b) 3 (rw (lt-ltb b 5 h) at e)))

  slots-asked : Slots (ask a f b c) m
  slots-asked =
      on (ltb b 5 && ltb (kept_of a b) 3)
      (λ e.
      let t = both (ltb b 5) (ltb (kept_of a b) 3) e in
      slots-more (ltb-true b 5 t.0) (ltb-true (kept_of a b) 3 t.1))
      slots-left

slots_step : (a : Asked) (l : ℕ → Pairs) (e : Element) → Slots a l → Slots (ask_of a e) (λ k. l k ++ asked_by k e)
slots_step a l empty s = slots_same a l (λ k. l k ++ []) s (λ k h. append-nil (l k))
slots_step a l (constant x) s = slots_same a l (λ k. l k ++ []) s (λ k h. append-nil (l k))
slots_step a l (variable v) s = slots_same a l (λ k. l k ++ []) s (λ k h. append-nil (l k))
slots_step a l (fixed v) s = slots_same a l (λ k. l k ++ []) s (λ k h. append-nil (l k))
slots_step a l (aggregate f b c) s = slots-asked a l s f b c

slots_all : (a : Asked) (l m : ℕ → Pairs) (es : List Element) → Slots a l
    → ((k : ℕ) → k < 5 → m k ≡ l k ++ asked_of k es) → Slots (ask_all a es) m
unfolding ask_all asked_of concat_map
slots_all a l m [] s e = slots_same a l m s (λ k h. e k h ∙ append-nil (l k))
slots_all a l m (x ∷ es) s e =
    slots_all (ask_of a x) (λ k. l k ++ asked_by k x) m es (slots_step a l x s)
    (λ k h. e k h ∙ sym (append_assoc (l k) (asked_by k x) (asked_of k es)))

-- the slots of a block: the first three aggregates of it among the elements, and 255 after the last
pub slots_are : (es : List Element) (k j : ℕ) → k < 5 → j < 3
    → (function_at (ask_all no_asked es) (3 * k + j), column_at (ask_all no_asked es) (3 * k + j))
    ≡ get_or (asked_of k es) j (255, 255)
slots_are es k j h g =
    (slots_all no_asked (λ i. []) (λ i. asked_of i es) es slots_none (λ i x. refl)).slots k j h g
