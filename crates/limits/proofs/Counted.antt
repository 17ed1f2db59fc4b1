-- What the counters tell: the counter of a block number is the number of aggregates that name it, cut at 4, and `over`
-- tells that some counter is 4. So `over` is the test that more than three elements name one block number (`over_is`).
use Prim.Native.Nat.{ℕ, zero, suc, ◌+◌, ◌-◌, ◌≤◌, ◌<◌}
use native.Mathlib.Decide.{ℕ_discrete}
use native.Mathlib.Omega.{arith}
use mathlib.Core.Bool.{Bool, true, false, ◌||◌, not}
use mathlib.Core.List.{List, [], ◌∷◌}
use mathlib.Core.Logic.{⊎_elim}
use mathlib.Core.Path.{◌≡◌, refl, sym, ap, ◌∙◌, subst}
use lib.Dec.{T, eqb, ltb, leb, leb→le}
use lib.ListN.{length, get_or, set, length-set, length-replicate, get_or-replicate}
use lib.Seq.{get_or-set_same, get_or-set_other}
use borrow.Author.Tests.{eq-eqb, ne_eqb, eqb-true, eqb-false, ltb-true, ltb-false, le-leb}
use Rattle.model.proofs.ListEquations.{filter-keeps, filter-drops}
use Rattle.model.proofs.Tests.{all-at, in-range, or-false}
use Rattle.model.specs.Lists.{all, filter, range}
use Rattle.model.specs.Question.{Element, empty, constant, variable, fixed, aggregate, names}
use Rattle.syntax.proofs.Elements.{le-or}
use Rattle.syntax.proofs.Laws.{byte_past, on}
use Rattle.limits.specs.Limits.{names_of, few_named}
use Rattle.limits.specs.Tally.{no_tally, bump, tally_of, tally_all}
use Rattle.limits.specs.declared.Tally.{Tally}

-- the counters are those of c, cut at 4
pub record Counted (t : Tally) (c : ℕ → ℕ) : Type 0 where
  pub long : length t.counts ≡ 256
  pub counts : (k : ℕ) → k < 256 → get_or t.counts k 0 ≡ 4 - (4 - c k)
  pub some : t.over ≡ true → (k : ℕ) × (k < 256) × (4 ≤ c k)
  pub none : t.over ≡ false → (k : ℕ) → k < 256 → c k < 4

abbrev bit : Bool → ℕ
bit true = 1
bit false = 0

same : (t : Tally) (c d : ℕ → ℕ) → Counted t c → ((k : ℕ) → d k ≡ c k) → Counted t d
same t c d h e =
    record {
      long = h.long;
      counts = λ k i. h.counts k i ∙ ap (λ n. 4 - (4 - n)) (sym (e k));
      some = λ o. let s = h.some o in (s.0, s.1, omega (arith, e s.0, s.2));
      none = λ o k i. omega (arith, e k, h.none o k i);
    }

-- one more aggregate of block j
module _ (t : Tally) (c : ℕ → ℕ) (j : ℕ) (h : Counted t c) where
  abbrev now : ℕ
  now = get_or t.counts j 0

  abbrev next : ℕ → ℕ
  next k = c k + bit (eqb k j)

  at_most : (k : ℕ) → c k ≤ next k
  at_most k = omega arith

  named-is : (k : ℕ) → k ≡ j → next k ≡ c k + 1
  named-is k e = ap (λ b. c k + bit b) (eq-eqb k j e)

  other-is : (k : ℕ) → (k ≡ j → ⊥) → next k ≡ c k
  other-is k e = ap (λ b. c k + bit b) (ne_eqb k j e) ∙ (let z : c k + 0 ≡ c k = omega arith in z)

  -- a counter that is not 0 is one of the 256
  inside : 0 < now → j < 256
  inside p =
      ⊎_elim (λ i. i) (λ i. absurd (let l = h.long in omega (arith, byte_past t.counts j (omega arith))))
      (le-or (suc j) 256)

  value : 0 < now → now ≡ 4 - (4 - c j)
  value p = h.counts j (inside p)

  more : now < 4
      → Counted (record { counts = set t.counts j (now + 1); over = t.over || eqb now 3 }) next
  more p =
      record {
        long = length-set t.counts j (now + 1) ∙ h.long;
        counts = counts;
        some = some t.over refl;
        none = none;
      }
    where
      counts : (k : ℕ) → k < 256 → get_or (set t.counts j (now + 1)) k 0 ≡ 4 - (4 - next k)
      counts k i = go (ℕ_discrete k j)
        where
          go : Dec (k ≡ j) → get_or (set t.counts j (now + 1)) k 0 ≡ 4 - (4 - next k)
          go (yes e) =
              let l = h.long in
              rw e (get_or-set_same t.counts j (now + 1) 0 (omega arith)
              ∙ (let m = h.counts j (omega arith) in let n = named-is j refl in omega arith))
          go (no e) =
              get_or-set_other t.counts j k (now + 1) 0 e ∙ h.counts k i
              ∙ ap (λ n. 4 - (4 - n)) (sym (other-is k e))

      some : (o : Bool) → t.over ≡ o → o || eqb now 3 ≡ true → (k : ℕ) × (k < 256) × (4 ≤ next k)
      some true e o = let s = h.some e in (s.0, s.1, omega (arith, at_most s.0, s.2))
      some false e o =
          let m = eqb-true now 3 o in
          (j, inside (omega arith), omega (arith, value (omega arith), named-is j refl))

      none : t.over || eqb now 3 ≡ false → (k : ℕ) → k < 256 → next k < 4
      none o k i = go (ℕ_discrete k j)
        where
          b : (t.over ≡ false) × (eqb now 3 ≡ false)
          b = or-false t.over (eqb now 3) o

          go : Dec (k ≡ j) → next k < 4
          go (yes e) =
              let m = eqb-false now 3 b.1 in
              rw e (let v = h.counts j (omega arith) in let n = named-is j refl in least v m)
            where
              least : now ≡ 4 - (4 - c j) → (now ≡ 3 → ⊥) → next j < 4
              least v m = let n = named-is j refl in omega arith
          go (no e) = omega (arith, other-is k e, h.none b.0 k i)

  full : 4 ≤ now → Counted t next
  full p =
      record {
        long = h.long;
        counts = counts;
        some = λ o. let s = h.some o in (s.0, s.1, omega (arith, at_most s.0, s.2));
        none = λ o k i. absurd (omega (arith, value (omega arith), h.none o j (inside (omega arith))));
      }
    where
      counts : (k : ℕ) → k < 256 → get_or t.counts k 0 ≡ 4 - (4 - next k)
      counts k i = go (ℕ_discrete k j)
        where
          go : Dec (k ≡ j) → get_or t.counts k 0 ≡ 4 - (4 - next k)
          go (yes e) = rw e (let v = value (omega arith) in let n = named-is j refl in omega arith)
          go (no e) = h.counts k i ∙ ap (λ n. 4 - (4 - n)) (sym (other-is k e))

  bumped : Counted (bump t j) next
  unfolding bump
  bumped =
      on (ltb now 4) (λ e. rw e (more (ltb-true now 4 e))) (λ e. rw e (full (ltb-false now 4 e)))

counted_one : (t : Tally) (c : ℕ → ℕ) (e : Element) → Counted t c → Counted (tally_of t e) (λ k. c k + bit (names k e))
counted_one t c empty h = same t c _ h (λ k. (let z : c k + 0 ≡ c k = omega arith in z))
counted_one t c (constant x) h = same t c _ h (λ k. (let z : c k + 0 ≡ c k = omega arith in z))
counted_one t c (variable v) h = same t c _ h (λ k. (let z : c k + 0 ≡ c k = omega arith in z))
counted_one t c (fixed v) h = same t c _ h (λ k. (let z : c k + 0 ≡ c k = omega arith in z))
counted_one t c (aggregate f j x) h = bumped t c j h

names-cons : (k : ℕ) (e : Element) (es : List Element) → names_of k (e ∷ es) ≡ bit (names k e) + names_of k es
names-cons k e es =
    on (names k e)
    (λ t. ap length (filter-keeps (names k) e es t)
    ∙ (let n = ap bit t in let z : suc (names_of k es) ≡ bit (names k e) + names_of k es = omega arith in z))
    (λ t. ap length (filter-drops (names k) e es t)
    ∙ (let n = ap bit t in let z : names_of k es ≡ bit (names k e) + names_of k es = omega arith in z))

-- a list of elements counted
pub counted_all : (t : Tally) (c d : ℕ → ℕ) (es : List Element) → Counted t c
    → ((k : ℕ) → d k ≡ c k + names_of k es) → Counted (tally_all t es) d
unfolding tally_all filter
counted_all t c d [] h e = same t c d h (λ k. (let f = e k in let z : d k ≡ c k = omega arith in z))
counted_all t c d (x ∷ es) h e =
    counted_all (tally_of t x) (λ k. c k + bit (names k x)) d es (counted_one t c x h)
    (λ k. e k ∙ ap (λ n. c k + n) (names-cons k x es)
    ∙ (let z : c k + (bit (names k x) + names_of k es) ≡ c k + bit (names k x) + names_of k es = omega arith in z))

counted_none : Counted no_tally (λ k. 0)
counted_none =
    record {
      long = length-replicate {A = ℕ} 256 0;
      counts = λ k i. get_or-replicate {A = ℕ} 256 k 0 0 i;
      some = λ o. absurd (subst T (sym o) tt);
      none = λ o k i. omega arith;
    }

-- the counters of a list of elements
pub counted : (es : List Element) → Counted (tally_all no_tally es) (λ k. names_of k es)
counted es =
    counted_all no_tally (λ k. 0) (λ k. names_of k es) es counted_none
    (λ k. (let z : names_of k es ≡ 0 + names_of k es = omega arith in z))

all_in : (p : ℕ → Bool) (a n : ℕ) → ((k : ℕ) → k < a + n → p k ≡ true) → all p (range a n) ≡ true
unfolding all range
all_in p a zero h = refl
all_in p a (suc n) h = rw (h a (omega arith)) (all_in p (suc a) n (λ k i. h k (omega arith)))

-- number 6: the flag is set where four elements name one block number
pub over_is : (es : List Element) → not (tally_all no_tally es).over ≡ few_named es
unfolding few_named
over_is es = go (tally_all no_tally es).over refl
  where
    p : ℕ → Bool
    p k = leb (names_of k es) 3

    go : (o : Bool) → (tally_all no_tally es).over ≡ o → not o ≡ all p (range 0 256)
    go true e =
        let s = (counted es).some e in
        let i = in-range 0 256 s.0 (omega arith) (omega (arith, s.1)) in
        on (all p (range 0 256))
        (λ a. let u = all-at p (range 0 256) s.0 (subst T (sym a) tt) i in
        absurd (omega (arith, s.2, leb→le (names_of s.0 es) 3 u)))
        (λ a. sym a)
    go false e =
        sym (all_in p 0 256 (λ k i. le-leb (names_of k es) 3 (omega (arith, (counted es).none e k (omega arith)))))
